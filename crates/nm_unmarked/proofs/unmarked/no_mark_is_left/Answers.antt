use Rattle.nm_unmarked.proofs.EachRun.{unmarked-run}
use Rattle.nm_unmarked.proofs.unmarked.no_mark_is_left.Goals as goal

pub returns : goal.returns
returns c = unmarked-run
