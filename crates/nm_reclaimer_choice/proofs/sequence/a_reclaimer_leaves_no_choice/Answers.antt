use Rattle.nm_reclaimer_choice.proofs.Reclaiming.{reclaiming-one}
use Rattle.nm_reclaimer_choice.proofs.sequence.a_reclaimer_leaves_no_choice.Goals as goal

pub returns : goal.returns
returns c = reclaiming-one
