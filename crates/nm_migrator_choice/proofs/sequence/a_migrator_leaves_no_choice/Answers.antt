use Rattle.nm_migrator_choice.proofs.Migrating.{migrating-one}
use Rattle.nm_migrator_choice.proofs.sequence.a_migrator_leaves_no_choice.Goals as goal

pub returns : goal.returns
returns c = migrating-one
