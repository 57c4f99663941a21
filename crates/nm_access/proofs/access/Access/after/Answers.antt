-- By the stage.
use Rattle.nm_access.proofs.Going.{gone}
use Rattle.nm_access.proofs.Answers.{after-put, after-full, after-soften, after-unmark, heard-as, at-put, at-full}
use Rattle.nm_access.proofs.access.Access.after.Goals as goal

pub returns-in-PutDone-clause-step : goal.returns-in-PutDone-clause-step
returns-in-PutDone-clause-step g c = λ g' was view turns turn h answer.
    gone _ g.F.Part.made g.F.Part.awaits c.go.new.self _ c.go.result _ g' was view _ c.go.ensures.stage c.go.ensures.turn
    (after-put _ g.F.Part.made g.F.Part.awaits c.args.self.now c.args.heard g' was view turns turn (at-put _ g.F.Part.made g.F.Part.awaits c.args.self.now c.args.heard g' was view turns turn c.in-PutDone.is h answer) c.in-PutDone.is h answer)

pub returns-in-PutFull-clause-step : goal.returns-in-PutFull-clause-step
returns-in-PutFull-clause-step g c = λ g' was view turns turn h answer.
    gone _ g.F.Part.made g.F.Part.awaits c.go-in-PutFull.new.self _ c.go-in-PutFull.result _ g' was view _ c.go-in-PutFull.ensures.stage c.go-in-PutFull.ensures.turn
    (after-full _ g.F.Part.made g.F.Part.awaits c.args.self.now c.args.heard g' was view turns turn (at-full _ g.F.Part.made g.F.Part.awaits c.args.self.now c.args.heard g' was view turns turn c.in-PutFull.is h answer) c.in-PutFull.is h answer)

pub returns-in-Faulting-clause-step : goal.returns-in-Faulting-clause-step
returns-in-Faulting-clause-step g c = λ g' was view turns turn h answer.
    heard-as _ g.F.Part.made g.F.Part.awaits c.faulted.new.self c.faulted.result c.args.heard _ g' was view turns turn c.in-Answer.is answer (λ told. c.faulted.ensures.step g' was view turns turn h told)

pub returns-in-Softening-clause-step : goal.returns-in-Softening-clause-step
returns-in-Softening-clause-step g c = λ g' was view turns turn h answer.
    gone _ g.F.Part.made g.F.Part.awaits c.go-in-Softening.new.self _ c.go-in-Softening.result _ g' was view _ c.go-in-Softening.ensures.stage c.go-in-Softening.ensures.turn
    (after-soften _ g.F.Part.made g.F.Part.awaits c.args.self.now c.args.heard c.in-Answer.reply g' was view turns turn c.in-Softening.is c.in-Answer.is h answer)

pub returns-in-Unmarking-clause-step : goal.returns-in-Unmarking-clause-step
returns-in-Unmarking-clause-step g c = λ g' was view turns turn h answer.
    gone _ g.F.Part.made g.F.Part.awaits c.go-in-Unmarking.new.self _ c.go-in-Unmarking.result _ g' was view _ c.go-in-Unmarking.ensures.stage c.go-in-Unmarking.ensures.turn
    (after-unmark _ g.F.Part.made g.F.Part.awaits c.args.self.now c.args.heard c.in-Answer.reply g' was view turns turn c.in-Unmarking.is c.in-Answer.is h answer)
