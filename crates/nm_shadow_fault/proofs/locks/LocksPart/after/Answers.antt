use Rattle.nm_shadow_fault.proofs.Locked.{lock-step, lock-ended}
use Rattle.nm_shadow_fault.proofs.locks.LocksPart.after.Goals as goal

pub returns-in-Busy-clause-step : goal.returns-in-Busy-clause-step
returns-in-Busy-clause-step c = λ g v own action awaited fits. rw c.in-Busy.is (lock-step c.args.self.now.page g v own action c.in-Busy.field-0 awaited)

pub returns-in-Done-clause-step : goal.returns-in-Done-clause-step
returns-in-Done-clause-step c = λ g v own action awaited fits. rw c.in-Done.is (lock-ended c.args.self.now.page g v own action awaited)
