use Rattle.std.proofs.Common.{◌≡◌, ◌^◌, ◌≤◌, ◌++◌, length, map}
use Rattle.nm_tiers.specs.Tiers.{frames_at, quotients_of, tiers_of, at_least}
use Rattle.nm_tiers.proofs.nodes.form_tiers.Given as goal

abbrev pub invariant-loop-quotient : goal.invariant-loop-quotient
invariant-loop-quotient l = record {
  formed : l.tiers.items ++ map (frames_at l.nodes) (at_least l.from (quotients_of l.nodes)) ≡ tiers_of l.nodes;
  narrow : l.from ≤ 2 ^ 25;
}

abbrev pub decreases-loop-quotient : goal.decreases-loop-quotient
decreases-loop-quotient l = length (at_least l.from (quotients_of l.nodes))
