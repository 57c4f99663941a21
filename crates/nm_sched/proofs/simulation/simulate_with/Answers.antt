use Rattle.std.proofs.Common.{◌+◌, ℕ, Option, ap, ◌∙◌}
use Rattle.nm_base.specs.Geometry.{Geometry}
use Rattle.nm_script.specs.Plain.{Script}
use Rattle.nm_programs.proofs.Running.{watched-with}
use Rattle.nm_migrator.proofs.Acting.{migrator-acts}
use Rattle.nm_sched.proofs.Migrators.{migrator-part}
use Rattle.nm_sched.proofs.Ending.{reclaimer-acts, reclaimer-part}
use Rattle.nm_sched.proofs.simulation.simulate_with.Goals as goal

pub run_programs-requires-clause-migrator : goal.run_programs-requires-clause-migrator
run_programs-requires-clause-migrator g c =
    let machine = ap (λ s. s.geometry) c.script.view_is in
    record {
      machine = ap (λ m. m.0) c.in_ok-migrator.ensures.made ∙ machine;
      same = ap (λ m. m.0.cpus) c.in_ok-migrator.ensures.made ∙ ap (λ k. k.cpus) machine;
      new = c.in_ok-migrator.ensures.new;
    }

pub run_programs-requires-clause-reclaimer : goal.run_programs-requires-clause-reclaimer
run_programs-requires-clause-reclaimer g c =
    let machine = ap (λ s. s.geometry) c.script.view_is in
    record {
      machine = c.in_ok-reclaimer.ensures.geometry ∙ machine;
      same = ap (λ k. k.cpus + 1) (c.in_ok-reclaimer.ensures.geometry ∙ machine);
      new = c.in_ok-reclaimer.ensures.new;
    }

pub run_programs-requires-clause-migrator_acts : goal.run_programs-requires-clause-migrator_acts
run_programs-requires-clause-migrator_acts g c = λ x h. migrator-acts x h

pub run_programs-requires-clause-reclaimer_acts : goal.run_programs-requires-clause-reclaimer_acts
run_programs-requires-clause-reclaimer_acts g c = λ x h. reclaimer-acts _ _ x h

pub returns : goal.returns
returns g c =
    let script = c.args.script.now in
    let made_of : Script → Geometry × Option ℕ × ℕ = λ s. (s.geometry, s.retry, 0) in
    let made = c.in_ok-migrator.ensures.made ∙ ap made_of c.script.view_is in
    let machine = c.in_ok-reclaimer.ensures.geometry ∙ ap (λ s. s.geometry) c.script.view_is in
    watched-with _ _ _ _ script _ _ _ _ _ (λ turns ended counts h. migrator-part script _ turns ended counts made h) (λ turns ended counts h. reclaimer-part _ _ script _ turns ended counts machine h) c.in_ok-run.ensures
