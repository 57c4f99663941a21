use Rattle.nm_settled_play.proofs.Marking.{unmarked-turns}
use Rattle.nm_settled_play.proofs.ends.ended_turns_leave_no_mark.Goals as goal

pub returns : goal.returns
returns c = unmarked-turns
