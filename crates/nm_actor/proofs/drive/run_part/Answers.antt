use Rattle.std.proofs.Common.{◌∙◌}
use Rattle.nm_actor.proofs.Driving.{driving-more}
use Rattle.nm_actor.proofs.drive.run_part.Goals as goal

pub loop-preserved : goal.loop-preserved
loop-preserved g c = (
  tt,
  tt,
  c.after-step.ensures.made ∙ c.loop.invariant.2,
  driving-more (g.P.Part.awaits c.loop.part) (g.P.Part.awaits c.after-step.new.self) g.P.Part.shape g.P.Part.leaves (g.P.Part.ended c.loop.part) (g.P.Part.ended c.after-step.new.self) _ _ _ _ _ _ _ _ _ c.loop.invariant.2 c.loop.invariant.3 c.in-Do.is c.step-reply.ensures.step c.step-reply.ensures.fits c.after-step.ensures.step,
)
