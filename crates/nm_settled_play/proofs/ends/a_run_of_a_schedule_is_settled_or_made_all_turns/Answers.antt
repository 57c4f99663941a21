use Rattle.nm_settled_play.proofs.Ending.{settled-schedule, unsettled-schedule}
use Rattle.nm_settled_play.proofs.ends.a_run_of_a_schedule_is_settled_or_made_all_turns.Goals as goal

pub returns-clause-ended : goal.returns-clause-ended
returns-clause-ended g c = λ geometry schedule state events order. settled-schedule geometry schedule (g.K.Crew.agrees c.args.crew.now) state events order

pub returns-clause-unsettled : goal.returns-clause-unsettled
returns-clause-unsettled g c = λ geometry schedule state events order. unsettled-schedule geometry schedule (g.K.Crew.agrees c.args.crew.now) state events order
