use Rattle.nm_reclaim.specs.Tasks.{task_made}
use Rattle.nm_reclaim.proofs.Tasks.{awaited-sweep, task-step}
use Rattle.nm_reclaim.proofs.task.ReclaimTaskPart.after.Goals as goal

pub returns-clause-step : goal.returns-clause-step
returns-clause-step c = λ g v own action awaited fits.
    let h = awaited-sweep (task_made c.args.self.now) c.args.self.now.work c.in-Visits.work g v own action c.in-Visits.is awaited in
    task-step (task_made c.args.self.now) _ _ _ _ g v _ c.after.result h.same h.for c.after.ensures.made (c.after.ensures.step g v own action h.awaited fits)
