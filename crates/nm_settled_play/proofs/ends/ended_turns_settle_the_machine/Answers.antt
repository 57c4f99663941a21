use Rattle.nm_settled_play.proofs.Ending.{settled-turns}
use Rattle.nm_settled_play.proofs.ends.ended_turns_settle_the_machine.Goals as goal

pub returns : goal.returns
returns c = settled-turns
