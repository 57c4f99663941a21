use Rattle.nm_work_rows.proofs.Reaching.{reached-start}
use Rattle.nm_work_rows.proofs.rows.started.Goals as goal

pub returns : goal.returns
returns c = reached-start _ _ c.requires c.in_ok-state.ensures
