-- Each step keeps the frame law.
use Rattle.nm_frames.proofs.Steps.{frames_step}
use Rattle.nm_frames.proofs.laws.each_step_keeps_frames.Goals as goal

pub returns : goal.returns
returns c = frames_step
