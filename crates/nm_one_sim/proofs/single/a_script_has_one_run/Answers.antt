use Rattle.nm_one_sim.proofs.OneSim.{one-sim}
use Rattle.nm_one_sim.proofs.single.a_script_has_one_run.Goals as goal

pub returns : goal.returns
returns g c = λ script run other m r h k. one-sim g.M.CountedPart.part g.R.CountedPart.part script run other m r h k
