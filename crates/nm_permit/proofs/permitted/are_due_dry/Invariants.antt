use Rattle.std.proofs.Common.{◌≡◌, take, All, IsTrue, []}
use Rattle.nm_permit.proofs.permitted.are_due_dry.Given as goal

abbrev pub invariant-loop-op : goal.invariant-loop-op
invariant-loop-op l = All (λ o. IsTrue o.due → o.wet ≡ []) (take l.op-index l.ops)
