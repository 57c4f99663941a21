-- Where an action waits.
use Rattle.std.proofs.Common.{◌≡◌, ℕ, true, [], ◌∷◌, ◌++◌, Option, refl, sym, ap, ◌∙◌, subst, append_assoc}
use Rattle.nm_base.specs.Geometry.{Geometry}
use Rattle.nm_action.specs.declared.action.Action.{Action}
use Rattle.nm_action.specs.declared.action.Action.TheVariants.{TakeTurn, ReleaseTurn}
use Rattle.nm_action.specs.declared.action.Reply.{Reply}
use Rattle.nm_action.specs.declared.action.Reply.TheVariants.{Done}
use Rattle.nm_action.specs.Own.{Own}
use Rattle.nm_pool.specs.declared.job.PoolEnd.TheVariants.{AtFloor}
use Rattle.nm_pool.specs.declared.job.PoolJob.TheVariants.{Take}
use Rattle.nm_pool.specs.Pool.{IsPool, refused}
use Rattle.nm_fault.specs.Waits.{waits_after, is_waiting}
use Rattle.nm_fault.proofs.Tasking.{last-push}

-- a search that is made again waits
pub search-waits : (g : Geometry) (before last : Own) (n : ℕ) → IsPool g (Take 0 0) last (AtFloor n) → is_waiting (before ++ last) (TakeTurn 0) ≡ true
search-waits g before last n h =
    let front : Own = refused 0 h.busy ++ (TakeTurn 0, Done) ∷ h.inner in
    let W : Option (Action × Reply) → Type 0 = λ e. waits_after e (TakeTurn 0) ≡ true in
    let L : Own → Type 0 = λ own. is_waiting own (TakeTurn 0) ≡ true in
    let assoc : (before ++ front) ++ (ReleaseTurn 0, Done) ∷ [] ≡ before ++ (front ++ (ReleaseTurn 0, Done) ∷ []) = simp append_assoc in
    let whole : before ++ last ≡ (before ++ front) ++ (ReleaseTurn 0, Done) ∷ [] = ap (λ (l : Own). before ++ l) h.is ∙ sym assoc in
    subst L (sym whole) (subst W (sym (last-push (before ++ front) (ReleaseTurn 0, Done))) refl)
