use Rattle.std.proofs.Common.{ap, ◌∙◌}
use Rattle.nm_action.specs.declared.tally.Tally.{Tally}
use Rattle.nm_tally.specs.declared.counter.Counter.{Counter}
use Rattle.nm_action.specs.Tally.{sum_of}
use Rattle.nm_migrator.proofs.Acting.{resumed-by}
use Rattle.nm_migrator.proofs.actor.MigratorActor.resume.Goals as goal

pub resume-requires-clause-ended : goal.resume-requires-clause-ended
resume-requires-clause-ended c = record { turns = c.requires.turns; agreed = c.requires.agreed.worker }

pub returns-clause-agrees : goal.returns-clause-agrees
returns-clause-agrees c = λ turns h.
    let w = c.resume.new.self in
    resumed-by (record { worker = c.args.self.now.worker }) (record { worker = w }) turns c.resume.ensures.made
    (ap (λ (k : Counter). sum_of k.tally w.ends) c.resume.ensures.events ∙ ap (λ (t : Tally). sum_of c.args.self.now.worker.events.tally t) c.resume.ensures.ends)
    h (c.resume.ensures.agrees turns h.worker)
