use Rattle.std.proofs.Common.{◌≡◌, ◌+◌, ◌≤◌, drop}
use Rattle.nm_core.specs.Runs.{IsRunFrom}
use Rattle.nm_lab.specs.Slow.{slow_from, slow_accesses}
use Rattle.nm_lab.proofs.slow.slow_accesses.Given as goal

abbrev pub invariant-loop-event : goal.invariant-loop-event
invariant-loop-event l = record {
  run : IsRunFrom l.state (drop l.event-index l.events);
  count : l.slow + slow_from l.state (drop l.event-index l.events) ≡ slow_accesses l.fn.g l.events;
  few : l.slow ≤ l.event-index;
}
