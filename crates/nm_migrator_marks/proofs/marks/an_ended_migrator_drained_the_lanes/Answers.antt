use Rattle.nm_migrator_marks.proofs.Draining.{each-drained}
use Rattle.nm_migrator_marks.proofs.marks.an_ended_migrator_drained_the_lanes.Goals as goal

pub returns : goal.returns
returns c = each-drained
