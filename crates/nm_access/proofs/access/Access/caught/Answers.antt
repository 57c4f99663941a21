-- The catch up goes on, or is over.
use Rattle.std.proofs.Common.{refl}
use Rattle.nm_access.proofs.Going.{gone}
use Rattle.nm_access.proofs.Trying.{catch-over}
use Rattle.nm_access.proofs.Faulting.{caught-heard, caught-more, wait-over}
use Rattle.nm_access.proofs.access.Access.caught.Goals as goal

pub after-requires : goal.after-requires
after-requires g c = caught-heard _ g.F.Part.made g.F.Part.awaits c.args.self.now c.args.reply c.requires.stage c.requires.heard

pub returns-in-Do-clause-step : goal.returns-in-Do-clause-step
returns-in-Do-clause-step g c = λ g' was view turns turn h answer.
    caught-more _ g.F.Part.made g.F.Part.awaits c.args.self.now c.after.new.self c.args.reply c.after.result c.in-Do.action g' was view turns turn c.requires.stage c.in-Do.is c.after.ensures h answer

pub returns-in-Waiting-clause-step : goal.returns-in-Waiting-clause-step
returns-in-Waiting-clause-step g c = λ g' was view turns turn h answer.
    wait-over _ g.F.Part.made g.F.Part.awaits c.args.self.now c.in-Waiting.action c.after.new.self _ c.args.reply c.after.result g' was view turns turn c.in-Waiting.is refl c.in-Over.is c.after.ensures h answer

pub returns-in-CatchingUp-clause-step : goal.returns-in-CatchingUp-clause-step
returns-in-CatchingUp-clause-step g c = λ g' was view turns turn h answer.
    gone _ g.F.Part.made g.F.Part.awaits c.try_cache.new.self _ c.try_cache.result _ g' was view _ c.try_cache.ensures.stage c.try_cache.ensures.turn
    (catch-over _ g.F.Part.made g.F.Part.awaits c.args.self.now c.after.new.self _ c.args.reply c.after.result g' was view turns turn c.in-CatchingUp.is refl c.in-Over.is c.after.ensures h answer)
