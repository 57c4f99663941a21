-- A step of a lawful world keeps the copy law.
use Rattle.nm_copies.proofs.Closing.{copies_stand}
use Rattle.nm_copies.proofs.laws.a_lawful_step_keeps_the_copies.Goals as goal

pub returns : goal.returns
returns c = copies_stand
