-- Each frame has one claim, and each test finds the claims of one kind.
use Rattle.nm_laws.proofs.OneRole.{one_role_in_run}
use Rattle.nm_laws.proofs.roles.each_frame_of_a_run_has_one_role.Goals as goal

pub returns : goal.returns
returns c = one_role_in_run
