-- By cases on the kind of action.
use Rattle.nm_legal.proofs.EachRun.{event_follows}
use Rattle.nm_legal.proofs.runs.each_step_follows_flat_memory.Goals as goal

pub returns : goal.returns
returns c = event_follows
