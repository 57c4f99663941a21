use Rattle.nm_survey.specs.declared.survey.Stage.TheVariants.{Locking}
use Rattle.nm_survey.specs.Surveys.{IsSurvey}
use Rattle.nm_survey.proofs.Surveying.{runs-first, gives-now}
use Rattle.nm_survey.proofs.survey.SurveyPlanAct.begin.Goals as goal

pub returns-clause-run : goal.returns-clause-run
returns-clause-run c = λ g view may.
    (gives-now c.args.self.now c.go.new.self Locking c.go.result (IsSurvey c.args.self.now.made g) g view view c.go.ensures.stage c.go.ensures.act (runs-first c.args.self.now.made g view may)).run
