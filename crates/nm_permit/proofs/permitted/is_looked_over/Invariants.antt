use Rattle.std.proofs.Common.{◌≡◌, ◌<◌, ℕ, IsSome, Some}
use Rattle.nm_base.specs.Geometry.{backing_page}
use Rattle.nm_view.specs.Lists.{find, first}
use Rattle.nm_permit.proofs.permitted.is_looked_over.Given as goal

abbrev pub invariant-loop-vpage : goal.invariant-loop-vpage
invariant-loop-vpage l = (v : ℕ) → v < l.vpage → backing_page l.g v ≡ Some l.op.page → IsSome (find first v l.op.looked)
