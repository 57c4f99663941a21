use Rattle.nm_reclaimer_marks.proofs.Reclaiming.{reclaiming-unmarked}
use Rattle.nm_reclaimer_marks.proofs.marks.an_ended_reclaimer_makes_no_mark.Goals as goal

pub returns : goal.returns
returns c = λ g notes h. reclaiming-unmarked g notes tt h
