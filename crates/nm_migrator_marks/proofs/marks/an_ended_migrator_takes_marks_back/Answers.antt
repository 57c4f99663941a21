use Rattle.nm_migrator_marks.proofs.Migrating.{migrating-unmarked}
use Rattle.nm_migrator_marks.proofs.marks.an_ended_migrator_takes_marks_back.Goals as goal

pub returns : goal.returns
returns c = migrating-unmarked
