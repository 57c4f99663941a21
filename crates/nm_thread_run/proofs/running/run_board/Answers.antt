use Rattle.std.proofs.Common.{◌≡◌, ℕ, Option, sym, ap, ◌∙◌}
use Rattle.nm_base.specs.Geometry.{Geometry}
use Rattle.nm_script.specs.Plain.{Script}
use Rattle.nm_programs.proofs.Playing.{made-after}
use Rattle.nm_thread_run.proofs.Again.{migrator-emptied}
use Rattle.nm_thread_run.proofs.Told.{cpu-told, migrator-told, reclaimer-told, board-run}
use Rattle.nm_thread_run.proofs.running.run_board.Goals as goal

pub run_crew-requires-clause-cpus : goal.run_crew-requires-clause-cpus
run_crew-requires-clause-cpus g c κs within = λ cpu d lt. (
    let at = c.in_ok-cpus.ensures.each cpu d lt in
    record { machine = at.made_so.machine ∙ sym c.requires.machine; same = at.made_so.same; new = at.opens })

pub returns-clause-run : goal.returns-clause-run
returns-clause-run g c =
    let script = c.args.script.now in
    let old = g.B.Board.board c.args.board.now in
    let crew = c.in_ok-crew.ensures in
    let run = c.in_ok-crew.crew in
    let machine = ap (λ s. s.geometry) c.script.view_is in
    let made_of : Script → Geometry × Option ℕ × ℕ = λ s. (s.geometry, s.retry, 0) in
    let here : old.geometry.cpus ≡ script.geometry.cpus = ap (λ (k : Geometry). k.cpus) c.requires.machine in
    board-run _ _ script old _ run.cpus.items (λ p. p.results.items) _ _ _ _ _ c.requires.machine crew.done c.give_results.ensures c.counts_of_all-tally.ensures
    (λ cpu d lt h. cpu-told _ _ script _ cpu _ (made-after _ _ script c.in_ok-cpus.cpus.items run.cpus.items cpu d c.in_ok-cpus.ensures.each crew.cpus lt) h)
    (migrator-told script _ _ _ _ here (c.in_ok-migrator.ensures.made ∙ ap made_of c.script.view_is) crew.last)
    (reclaimer-told _ _ script _ _ _ here (crew.reclaimer ∙ c.in_ok-reclaimer.ensures.geometry ∙ machine) crew.done.reclaimer)
    (migrator-emptied script.geometry script.retry _ _ _ _ (c.in_ok-migrator.ensures.made ∙ ap made_of c.script.view_is) crew.last)
