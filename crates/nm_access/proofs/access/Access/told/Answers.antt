-- The answer decides.
use Rattle.std.proofs.Common.{ap}
use Rattle.nm_action.specs.declared.turn.Heard.TheVariants.{Answer}
use Rattle.nm_access.proofs.Going.{gone}
use Rattle.nm_access.proofs.Answers.{after-peek, after-touch, after-mark, after-lost, after-unmarked}
use Rattle.nm_access.proofs.access.Access.told.Goals as goal

pub returns-in-Peeking-clause-step : goal.returns-in-Peeking-clause-step
returns-in-Peeking-clause-step g c = λ g' was view turns turn h answer.
    gone _ g.F.Part.made g.F.Part.awaits c.go.new.self _ c.go.result _ g' was view _ c.go.ensures.stage c.go.ensures.turn
    (after-peek _ g.F.Part.made g.F.Part.awaits c.args.self.now _ c.in-Word.word g' was view turns turn c.in-Peeking.is (ap Answer c.in-Word.is) h answer)

pub returns-in-Touching-clause-step : goal.returns-in-Touching-clause-step
returns-in-Touching-clause-step g c = λ g' was view turns turn h answer.
    after-touch _ g.F.Part.made g.F.Part.awaits c.args.self.now _ c.in-Word.word g' was view turns turn c.in-Touching.is (ap Answer c.in-Word.is) h answer

pub returns-in-Marking-clause-step : goal.returns-in-Marking-clause-step
returns-in-Marking-clause-step g c = λ g' was view turns turn h answer.
    gone _ g.F.Part.made g.F.Part.awaits c.go-in-Marking.new.self _ c.go-in-Marking.result _ g' was view _ c.go-in-Marking.ensures.stage c.go-in-Marking.ensures.turn
    (after-mark _ g.F.Part.made g.F.Part.awaits c.args.self.now _ g' was view turns turn c.in-Marking.is (ap Answer c.in-Done.is) h answer)

pub returns-in-Walking-stage-clause-step : goal.returns-in-Walking-stage-clause-step
returns-in-Walking-stage-clause-step g c = λ g' was view turns turn h answer.
    gone _ g.F.Part.made g.F.Part.awaits c.go-in-Walking-stage.new.self _ c.go-in-Walking-stage.result _ g' was view _ c.go-in-Walking-stage.ensures.stage c.go-in-Walking-stage.ensures.turn
    (after-lost _ g.F.Part.made g.F.Part.awaits c.args.self.now _ c.in-Walking-stage.stamp c.in-Walking-stage.word c.in-Lost.field-0 g' was view turns turn c.in-Walking-stage.is (ap Answer c.in-Lost.is) h answer)

pub returns-in-Marking-stage-clause-step : goal.returns-in-Marking-stage-clause-step
returns-in-Marking-stage-clause-step g c = λ g' was view turns turn h answer.
    gone _ g.F.Part.made g.F.Part.awaits c.go-in-Marking-stage.new.self _ c.go-in-Marking-stage.result _ g' was view _ c.go-in-Marking-stage.ensures.stage c.go-in-Marking-stage.ensures.turn
    (after-unmarked _ g.F.Part.made g.F.Part.awaits c.args.self.now _ c.in-Lost.field-0 g' was view turns turn c.in-Marking-stage.is (ap Answer c.in-Lost.is) h answer)
