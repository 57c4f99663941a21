use Rattle.nm_reclaimer_marks.proofs.Reclaiming.{reclaiming-off}
use Rattle.nm_reclaimer_marks.proofs.marks.an_ended_reclaimer_leaves_the_pending_pages.Goals as goal

pub returns : goal.returns
returns c = λ g notes h. reclaiming-off g notes tt h
