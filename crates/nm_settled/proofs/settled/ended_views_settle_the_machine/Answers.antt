use Rattle.nm_settled.proofs.Settling.{settled-run}
use Rattle.nm_settled.proofs.settled.ended_views_settle_the_machine.Goals as goal

pub returns : goal.returns
returns c = settled-run
