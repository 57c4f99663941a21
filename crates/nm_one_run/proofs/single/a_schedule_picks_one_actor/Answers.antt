-- By the kind of the schedule.
use Rattle.nm_one_run.proofs.Picking.{picks_once}
use Rattle.nm_one_run.proofs.single.a_schedule_picks_one_actor.Goals as goal

pub returns : goal.returns
returns c = picks_once
