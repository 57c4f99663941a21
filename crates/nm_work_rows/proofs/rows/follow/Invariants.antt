use Rattle.std.proofs.Common.{◌≡◌}
use Rattle.nm_locked_task.specs.Tasks.{locked_task_made, IsIdleMove}
use Rattle.nm_work_rows.specs.Reached.{IsReached}
use Rattle.nm_work_rows.proofs.rows.follow.Given as goal

abbrev pub invariant-loop-deed : goal.invariant-loop-deed
invariant-loop-deed g l = record {
  reached : IsReached l.g l.state;
  idle : IsIdleMove l.task;
  same : (locked_task_made l.task).0 ≡ l.g;
}

abbrev pub invariant-loop-event : goal.invariant-loop-event
invariant-loop-event g l = record {
  reached : IsReached l.g l.state;
}
