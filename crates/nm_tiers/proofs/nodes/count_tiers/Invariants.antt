use Rattle.std.proofs.Common.{◌≡◌, ◌+◌, ◌^◌, ◌≤◌, length}
use Rattle.nm_tiers.specs.Tiers.{quotients_of, tier_count, at_least}
use Rattle.nm_tiers.proofs.nodes.count_tiers.Given as goal

abbrev pub invariant-loop-quotient : goal.invariant-loop-quotient
invariant-loop-quotient l = record {
  count : l.count + length (at_least l.from (quotients_of l.nodes)) ≡ tier_count l.nodes;
  few : l.count ≤ l.from;
  narrow : l.from ≤ 2 ^ 25;
}

abbrev pub decreases-loop-quotient : goal.decreases-loop-quotient
decreases-loop-quotient l = length (at_least l.from (quotients_of l.nodes))
