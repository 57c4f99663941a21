use Rattle.std.proofs.Common.{◌≡◌, ◌≤◌, All, length}
use Rattle.std.specs.Vec.{vec_capacity}
use Rattle.nm_view.proofs.start.closed_ops.Given as goal

abbrev pub invariant-loop-made : goal.invariant-loop-made
invariant-loop-made l = (length l.ops.items ≡ l._made) × (10 ≤ vec_capacity l.ops) × All (λ o. o.room ≡ l.room) l.ops.items
