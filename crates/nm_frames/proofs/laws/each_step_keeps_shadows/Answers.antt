-- Each step keeps the shadow law.
use Rattle.nm_frames.proofs.Steps.{shadows_step}
use Rattle.nm_frames.proofs.laws.each_step_keeps_shadows.Goals as goal

pub returns : goal.returns
returns c = shadows_step
