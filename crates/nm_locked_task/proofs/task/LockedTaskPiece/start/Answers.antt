use Rattle.std.proofs.Common.{[]}
use Rattle.nm_locked_task.specs.Tasks.{locked_task_made}
use Rattle.nm_locked_task.proofs.Tasks.{new-move, may-move, move-asked}
use Rattle.nm_locked_task.proofs.task.LockedTaskPiece.start.Goals as goal

pub returns-clause-step : goal.returns-clause-step
returns-clause-step c = λ g v may.
    let n = new-move _ _ (locked_task_made c.args.self.now) c.args.self.now.run c.in-Some.run' c.in-Some.is c.requires.new in
    move-asked (locked_task_made c.args.self.now) _ _ _ g v [] c.start.result n.for c.start.ensures.made (c.start.ensures.step g v (may-move (locked_task_made c.args.self.now) _ g v n.for may))
