use Rattle.nm_view.proofs.Known.{flush_ended_both}
use Rattle.nm_view.proofs.view.OpenOp.flush_ended.Goals as goal

pub returns-clause-ended : goal.returns-clause-ended
returns-clause-ended c = flush_ended_both c.args.g.now c.args.self.now c.is_flushed.result c.is_flushed.ensures
