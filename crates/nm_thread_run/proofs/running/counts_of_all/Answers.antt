use Rattle.std.proofs.Common.{◌≡◌, ◌<◌, ◌≤◌, length, map, get_or, ap, ◌∙◌, rules}
use Rattle.std.proofs.lemmas.List.{take_all}
use Rattle.nm_action.specs.Tally.{sum_of}
use Rattle.nm_crew.specs.Crewed.{tally_of}
use Rattle.nm_crew.proofs.Tallies.{tally-more, tally-all}
use Rattle.nm_thread_run.proofs.running.counts_of_all.Goals as goal

pub loop-cpu-preserved : goal.loop-cpu-preserved
loop-cpu-preserved g c =
    let cpus = c.args.crew.now.cpus.items in
    let lt : c.loop-cpu.cpu-index < length cpus = search rules in
    let is : c.tally.result ≡ g.C.Actor.counted (get_or cpus c.loop-cpu.cpu-index c.cpu-item.result) = search rules in
    c.plus-tally.ensures ∙ tally-more g.C.Actor.counted cpus c.loop-cpu.cpu-index c.cpu-item.result c.loop-cpu.tally c.tally.result lt c.loop-cpu.invariant is

pub returns : goal.returns
returns g c =
    let cpus = c.args.crew.now.cpus.items in
    let migrator = g.M.Actor.counted c.args.crew.now.migrator in
    let reclaimer = g.R.Actor.counted c.args.crew.now.reclaimer in
    let end : length cpus ≤ c.loop-cpu.cpu-index = search rules in
    let all : c.loop-cpu.tally ≡ tally_of (map g.C.Actor.counted cpus) = c.loop-cpu.invariant ∙ ap (λ l. tally_of (map g.C.Actor.counted l)) (take_all c.loop-cpu.cpu-index cpus end) in
    c.plus-2.ensures ∙ ap (λ t. sum_of t c.tally-3.result) (c.plus.ensures ∙ ap (λ t. sum_of c.loop-cpu.tally t) c.tally-2.ensures)
    ∙ ap (λ t. sum_of (sum_of c.loop-cpu.tally migrator) t) c.tally-3.ensures
    ∙ tally-all (map g.C.Actor.counted cpus) migrator reclaimer c.loop-cpu.tally all
