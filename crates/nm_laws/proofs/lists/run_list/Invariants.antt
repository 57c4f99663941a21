use Rattle.std.proofs.Common.{◌≡◌, take}
use Rattle.nm_core.specs.Runs.{IsRun, state_after}
use Rattle.nm_laws.proofs.lists.run_list.Given as goal

abbrev pub invariant-loop-event : goal.invariant-loop-event
invariant-loop-event l = record {
  count : l.number ≡ l.event-index;
  run : IsRun l.fn.state.geometry (take l.event-index l.events);
  state : l.state ≡ state_after l.fn.state.geometry (take l.event-index l.events);
}
