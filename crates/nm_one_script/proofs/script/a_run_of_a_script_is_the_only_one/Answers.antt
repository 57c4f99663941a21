use Rattle.nm_one_script.proofs.OneScript.{one-script}
use Rattle.nm_one_script.proofs.script.a_run_of_a_script_is_the_only_one.Goals as goal

pub returns : goal.returns
returns c = one-script
