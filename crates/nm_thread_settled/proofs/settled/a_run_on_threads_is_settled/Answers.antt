use Rattle.nm_thread_settled.proofs.Settling.{threads-settle}
use Rattle.nm_thread_settled.proofs.settled.a_run_on_threads_is_settled.Goals as goal

pub returns : goal.returns
returns c = threads-settle
