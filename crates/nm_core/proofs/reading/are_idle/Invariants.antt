use Rattle.std.proofs.Common.{◌≡◌, take, All, []}
use Rattle.nm_core.proofs.reading.are_idle.Given as goal

abbrev pub invariant-loop-view : goal.invariant-loop-view
invariant-loop-view l = All (λ v. (v.ops ≡ []) × (v.owned ≡ [])) (take l.view-index l.views)
