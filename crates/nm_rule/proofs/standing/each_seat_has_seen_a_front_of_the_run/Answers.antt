use Rattle.nm_rule.proofs.Shared.{stands}
use Rattle.nm_rule.proofs.standing.each_seat_has_seen_a_front_of_the_run.Goals as goal

pub returns : goal.returns
returns c = stands
