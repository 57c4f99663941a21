use Rattle.nm_ended.proofs.Asking.{ask-first}
use Rattle.nm_ended.proofs.ask.AskEndedPlanAct.begin.Goals as goal

pub returns-clause-run : goal.returns-clause-run
returns-clause-run c = λ g view may. (ask-first c.args.self.now c.ask.result c.requires c.ask.ensures g view may).run
