use Rattle.nm_thread_settled.proofs.Counting.{none-left}
use Rattle.nm_thread_settled.proofs.histories.a_history_leaves_no_page_where_each_was_taken.Goals as goal

pub returns : goal.returns
returns c = none-left
