-- The view of an actor follows from its own list.
use Rattle.nm_core.proofs.Owns.{view_after-run}
use Rattle.nm_core.proofs.runs.own_list_tells_the_view.Goals as goal

pub returns : goal.returns
returns c = view_after-run
