use Rattle.nm_survey.proofs.Surveying.{after-lock, after-busy, after-look, after-unlock}
use Rattle.nm_survey.proofs.survey.SurveyPlanAct.go_on.Goals as goal

pub returns-in-Done-clause-next : goal.returns-in-Done-clause-next
returns-in-Done-clause-next c = λ g first now later own known shown left over.
    after-lock c.args.self.now c.look_from.new.self c.look_from.result c.args.end g first now later _ c.in-Locking.is c.in-Done.is known left c.look_from.ensures.stage c.look_from.ensures.act

pub returns-in-Busy-clause-next : goal.returns-in-Busy-clause-next
returns-in-Busy-clause-next c = λ g first now later own known shown left over.
    after-busy c.args.self.now _ c.args.end g first now later _ c.in-Locking.is c.in-Busy.is known left

pub returns-in-Word-end-clause-next : goal.returns-in-Word-end-clause-next
returns-in-Word-end-clause-next c = λ g first now later own known shown left over.
    after-look c.args.self.now c.look_from-in-Looking.new.self c.look_from-in-Looking.result c.in-Looking.vpage c.in-Looking.mapped c.in-Word-end.word c.count_with.result c.args.end g first now later _ c.in-Looking.is c.in-Word-end.is c.count_with.ensures known left c.look_from-in-Looking.ensures.stage c.look_from-in-Looking.ensures.act

pub returns-in-Unlocking-clause-next : goal.returns-in-Unlocking-clause-next
returns-in-Unlocking-clause-next c = λ g first now later own known shown left over.
    after-unlock c.args.self.now c.in-Unlocking.mapped c.args.end g first now later _ c.in-Unlocking.is known left
