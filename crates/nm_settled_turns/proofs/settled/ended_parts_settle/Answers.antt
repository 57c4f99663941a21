use Rattle.nm_settled_turns.proofs.Settling.{parts-settle}
use Rattle.nm_settled_turns.proofs.settled.ended_parts_settle.Goals as goal

pub returns : goal.returns
returns c = parts-settle
