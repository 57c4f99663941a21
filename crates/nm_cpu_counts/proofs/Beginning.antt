-- The beginnings of catch ups and of faults count nothing.
use Rattle.std.proofs.Common.{◌≡◌, Bool, List, [], ◌∷◌, ◌++◌, subst, append_assoc}
use Rattle.nm_base.specs.Geometry.{Geometry}
use Rattle.nm_action.specs.declared.action.Action.{Action}
use Rattle.nm_action.specs.Own.{Own}
use Rattle.nm_view.specs.Views.{View}
use Rattle.nm_part.specs.Parts.{IsBegunWith}
use Rattle.nm_catchup.specs.CatchUp.{Kept, CatchesUp}
use Rattle.nm_catchup.specs.Catching.{kept_of, AwaitsCatch, catch_action, catch_left}
use Rattle.nm_catchup.specs.declared.cache.TranslationCache.{TranslationCache}
use Rattle.nm_catchup.proofs.Acts.{begun-acts}
use Rattle.nm_catchup.proofs.Loops.{left-can}
use Rattle.nm_shadow_fault.specs.declared.fault.FaultEnd.{FaultEnd}
use Rattle.nm_marks.specs.Contents.{HasOnly}
use Rattle.nm_fault_counts.specs.FaultTally.{faults_from}
use Rattle.nm_fault_counts.specs.Counted.{IsFaultCounted, CountsLast}
use Rattle.nm_fault_counts.proofs.Lists.{IsSilent, front-counted}
use Rattle.nm_cpu_counts.proofs.Accessing.{catches-silent}

only-front : (P : Action → Type 0) (xs ys : Own) → HasOnly P (xs ++ ys) → HasOnly P xs
only-front P [] ys so = tt
only-front P (x ∷ xs) ys so = (so.0, only-front P xs ys so.1)

-- a catch up of which an answer is awaited
pub awaits-silent : (cache : TranslationCache) (before : Kept) (g : Geometry) (view : View) (own : Own) (action : Action) → AwaitsCatch cache before g view own action → HasOnly IsSilent own
awaits-silent cache before g view own action d =
    let begun = begun-acts g (CatchesUp g before) own (catch_action cache.stage) (catch_left g cache.stage (kept_of cache)) d.due (left-can g cache.stage (kept_of cache)) in
    let one : Own = (catch_action cache.stage, begun.reply) ∷ [] in
    let all : HasOnly IsSilent ((own ++ one) ++ begun.begun.rest) = catches-silent g before ((own ++ one) ++ begun.begun.rest) begun.begun.outcome begun.begun.whole in
    only-front IsSilent own one (only-front IsSilent (own ++ one) begun.begun.rest all)

-- a fault that is to give an action
pub begun-nothing : {X : Type 0} (counted : X → List FaultEnd) (shape : Own → X → Type 0) (h m : Bool) (inner : Own) (action : Action)
    → ((own : Own) (end : X) → shape own end → IsFaultCounted h m own (counted end)) → IsBegunWith shape inner action → faults_from h m inner ≡ []
begun-nothing counted shape h m inner action law begun =
    let rest = begun.begun.rest in
    let C : Own → Type 0 = λ l. CountsLast h m l in
    let whole = (law ((inner ++ (action, begun.reply) ∷ []) ++ rest) begun.begun.outcome begun.begun.whole).last in
    front-counted h m inner (action, begun.reply) rest (subst C (append_assoc inner ((action, begun.reply) ∷ []) rest) whole)
