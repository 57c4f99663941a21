use Rattle.std.proofs.Common.{◌≢◌, take, All}
use Rattle.nm_view.specs.Operations.{IsTaken}
use Rattle.nm_permit.proofs.permitted.is_all_taken.Given as goal

abbrev pub invariant-loop-vpage : goal.invariant-loop-vpage
invariant-loop-vpage l = All (λ p. p.1 ≢ 0 → IsTaken l.op.taken p.0) (take l.vpage-index l.op.looked)
