use Rattle.std.proofs.Common.{refl, ap}
use Rattle.nm_batch.specs.Places.{batch_made}
use Rattle.nm_batch.specs.declared.batch.BatchAsked.{BatchAsked}
use Rattle.nm_base.specs.Geometry.{Geometry}
use Rattle.nm_batch.specs.Tasks.{batch_of}
use Rattle.nm_batch.proofs.Tasks.{batch-asked, batch-ended}
use Rattle.nm_batch.proofs.task.BatchTaskPart.after.Goals as goal

pub returns-in-Do-clause-step : goal.returns-in-Do-clause-step
returns-in-Do-clause-step c = λ g v own action awaited fits. batch-asked _ _ g v _ c.in-Do.action (c.in-Do.ensures.step g v own action awaited fits)

pub returns-in-Over-clause-step : goal.returns-in-Over-clause-step
returns-in-Over-clause-step c = λ g v own action awaited fits.
    batch-ended (batch_made (batch_of c.args.self.now).1) _ _ c.in-Over.ends _ c.len-count.result g v _ (ap (λ (m : Geometry × BatchAsked). batch_made m.1) c.in-Over.ensures.made) refl c.len-count.ensures.count (c.in-Over.ensures.step g v own action awaited fits)

pub after-requires : goal.after-requires
after-requires c = c.requires
