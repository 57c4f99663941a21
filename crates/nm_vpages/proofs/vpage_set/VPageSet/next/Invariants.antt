use Rattle.std.proofs.Common.{◌≡◌, ℕ, ◌-◌, ◌<◌, ◌≤◌, false}
use Rattle.nm_vpages.specs.Bits.{has_bit}
use Rattle.nm_vpages.proofs.vpage_set.VPageSet.next.Given as goal

abbrev pub invariant-loop-at : goal.invariant-loop-at
invariant-loop-at l = record { start : l.from ≤ l.at; none : (u : ℕ) → l.from ≤ u → u < l.at → has_bit l.self-inside.words u ≡ false }

abbrev pub decreases-loop-at : goal.decreases-loop-at
decreases-loop-at l = 4096 - l.at
