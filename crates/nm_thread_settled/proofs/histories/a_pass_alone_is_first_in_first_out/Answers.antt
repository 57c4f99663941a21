use Rattle.nm_thread_settled.proofs.Passing.{pass-alone}
use Rattle.nm_thread_settled.proofs.histories.a_pass_alone_is_first_in_first_out.Goals as goal

pub returns : goal.returns
returns c = pass-alone
