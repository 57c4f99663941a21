use Rattle.std.proofs.Common.{ap, subst, rules}
use Rattle.nm_base.specs.Geometry.{IsGeometry}
use Rattle.nm_play.proofs.Members.{Kind}
use Rattle.nm_crew.proofs.Ends.{empty-room}
use Rattle.nm_crew.proofs.Simulating.{machine-of}
use Rattle.nm_crew.proofs.Crewing.{opens-all, acts-all, as-many, watched-run}
use Rattle.nm_crew.proofs.run.run_crew.Goals as goal

pub run_schedule-requires-clause-may : goal.run_schedule-requires-clause-may
run_schedule-requires-clause-may g c =
    let kc : Kind g.row.C.Denot g.row.C-Made.Denot = record { geometry = g.C.Actor.geometry; number = g.C.Actor.number; made = g.C.Actor.made; agrees = g.C.Actor.agrees } in
    let km : Kind g.row.M.Denot g.row.M-Made.Denot = record { geometry = g.M.Actor.geometry; number = g.M.Actor.number; made = g.M.Actor.made; agrees = g.M.Actor.agrees } in
    let kr : Kind g.row.R.Denot g.row.R-Made.Denot = record { geometry = g.R.Actor.geometry; number = g.R.Actor.number; made = g.R.Actor.made; agrees = g.R.Actor.agrees } in
    record {
      opens = opens-all kc km kr c.args.g.now c.args.crew.cpus.items c.args.crew.migrator c.args.crew.reclaimer c.requires.many
          (λ cpu d lt. (let n = c.requires.each cpu d lt in record { machine = n.machine; same = n.same; agreed = g.met.C.Actor.opens _ n.new }))
          (record { machine = c.requires.migrator.machine; same = c.requires.migrator.same; agreed = g.met.M.Actor.opens _ c.requires.migrator.new })
          (record { machine = c.requires.reclaimer.machine; same = c.requires.reclaimer.same; agreed = g.met.R.Actor.opens _ c.requires.reclaimer.new });
      acts = λ other actor. acts-all kc km kr other.cpus.items other.migrator other.reclaimer actor c.requires.cpu_acts c.requires.migrator_acts c.requires.reclaimer_acts;
    }

pub end_words-requires : goal.end_words-requires
end_words-requires g c =
    let is : IsGeometry c.args.g.now = subst IsGeometry c.g.view_is c.g.invariant.geometry in
    let run = c.in_ok-run.ensures.run in
    empty-room c.args.g.now c.in_ok-run.run'.state.geometry c.in_ok-end.end (machine-of c.args.g.now run.events c.in_ok-run.run'.state is run.run.run run.run.reached) c.in_ok-end.ensures

pub returns-clause-run : goal.returns-clause-run
returns-clause-run g c =
    let kc : Kind g.row.C.Denot g.row.C-Made.Denot = record { geometry = g.C.Actor.geometry; number = g.C.Actor.number; made = g.C.Actor.made; agrees = g.C.Actor.agrees } in
    let km : Kind g.row.M.Denot g.row.M-Made.Denot = record { geometry = g.M.Actor.geometry; number = g.M.Actor.number; made = g.M.Actor.made; agrees = g.M.Actor.agrees } in
    let kr : Kind g.row.R.Denot g.row.R-Made.Denot = record { geometry = g.R.Actor.geometry; number = g.R.Actor.number; made = g.R.Actor.made; agrees = g.R.Actor.agrees } in
    let run = c.in_ok-run.run' in
    let is : IsGeometry c.args.g.now = subst IsGeometry c.g.view_is c.g.invariant.geometry in
    watched-run kc km kr c.args.g.now c.args.schedule.now run.crew.cpus.items run.crew.migrator run.crew.reclaimer run.state (g.W.Watcher.kept run.watcher c.args.g.now) _ _
    (as-many g.C.Actor.made c.args.crew.cpus.items run.crew.cpus.items c.args.g.now.cpus (ap (λ k. k.cpus) c.in_ok-run.ensures.made) c.requires.many)
    is c.requires.schedule c.in_ok-run.ensures.run c.end_words.ensures
