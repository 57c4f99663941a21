use Rattle.nm_actor_rows.proofs.Begins.{may-look-and-bump}
use Rattle.nm_actor_rows.proofs.rows.actors.an_actor_runs_a_part_inside_a_part.Goals as goal

pub run-requires-clause-begin : goal.run-requires-clause-begin
run-requires-clause-begin w c = λ g limits. may-look-and-bump g 1 limits
