use Rattle.nm_arena_chair.proofs.Stepping.{step-state, step-fits}
use Rattle.nm_arena_chair.proofs.place.Place.step.Goals as goal

pub returns-clause-step : goal.returns-clause-step
returns-clause-step c = step-state c.args.self.now _ c.step.new.seat c.args.action c.step.result c.self.view_is c.step.ensures.own c.step.ensures.view c.step.ensures.fits

pub returns-clause-fits : goal.returns-clause-fits
returns-clause-fits c = step-fits c.args.self.now _ c.args.action c.step.result c.self.view_is c.step.ensures.fits
