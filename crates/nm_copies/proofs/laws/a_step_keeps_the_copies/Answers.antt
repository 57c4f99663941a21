-- A step keeps the copy law.
use Rattle.nm_copies.proofs.Kept.{copies-kept}
use Rattle.nm_copies.proofs.laws.a_step_keeps_the_copies.Goals as goal

pub returns : goal.returns
returns c = copies-kept
