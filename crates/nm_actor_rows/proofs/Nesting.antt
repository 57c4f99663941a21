-- The steps of a part that looks and then runs another.
use Rattle.std.proofs.Common.{◌≡◌, ℕ, [], ◌∷◌, ◌++◌, refl, subst}
use Rattle.std.proofs.lemmas.List.{append-nil}
use Rattle.nm_base.specs.Geometry.{Geometry}
use Rattle.nm_action.specs.declared.action.Action.{Action}
use Rattle.nm_action.specs.declared.action.Action.TheVariants.{Look}
use Rattle.nm_action.specs.declared.action.Reply.{Reply}
use Rattle.nm_action.specs.declared.action.Reply.TheVariants.{Done, Word, Busy, Lost}
use Rattle.nm_action.specs.declared.turn.Step.{Step}
use Rattle.nm_action.specs.declared.turn.Step.TheVariants.{Do, Over}
use Rattle.nm_view.specs.Views.{View}
use Rattle.nm_event.specs.Fitting.{Fits}
use Rattle.nm_action.specs.Own.{Own}
use Rattle.nm_event.specs.After.{view_after}
use Rattle.nm_part.specs.Parts.{IsBegunWith, HasBegin, IsHeard, IsPartStep}
use Rattle.nm_actor_rows.specs.Nested.{looked_view, MayNest, IsNested, LeavesNested, IsLooking, IsInside, EndsInside}
use Rattle.nm_part.proofs.Inside.{asked-inside}

-- a step of the inner part is a step of the whole
pub nested-step : {O : Type 0} (awaits outer : Geometry → View → Own → Action → Type 0) (shape : Geometry → Own → O → Type 0) (leaves : Geometry → View → O → View → Type 0) (ended : Geometry → Own → O → Type 0) (vpage : ℕ) (g : Geometry) (v : View) (word : ℕ) (inner : Own) (result : Step O)
    → ((own : Own) (action : Action) → IsInside awaits vpage g v own action → outer g v own action)
    → IsPartStep awaits shape leaves ended g (looked_view g v vpage word) inner result
    → IsPartStep outer (λ g own outcome. IsNested (shape g) vpage own outcome) (λ g view outcome left. LeavesNested (leaves g) g vpage view outcome left) (λ g own outcome. EndsInside (ended g) vpage own outcome) g v ((Look vpage, Word word) ∷ inner) result
nested-step awaits outer shape leaves ended vpage g v word inner (Do action) up h =
    asked-inside awaits outer shape (λ g own outcome. IsNested (shape g) vpage own outcome) g v ((Look vpage, Word word) ∷ []) inner action
    (λ a. up _ _ (record { word = word; inner = inner; is = refl; awaited = a }))
    (λ done o s. record { rest = []; outcome = o; whole = record { word = word; inner = done; shown = s; is = append-nil ((Look vpage, Word word) ∷ done) } })
    h
nested-step awaits outer shape leaves ended vpage g v word inner (Over outcome) up h = record {
  shown = record { word = word; inner = inner; shown = h.shown; is = refl };
  left = record { word = word; inner = h.left };
  over = record { word = word; inner = inner; is = refl; over = h.over };
}

-- the look
pub nested-first : {M O : Type 0} (may_begin : M → Geometry → View → Type 0) (shape : M → Geometry → Own → O → Type 0) (vpage : ℕ) (made : M) (g : Geometry) (v : View) → (may : MayNest may_begin shape vpage made g v)
    → IsBegunWith (λ own outcome. IsNested (shape made g) vpage own outcome) [] (Look vpage)
nested-first may_begin shape vpage made g v may = record { reply = Word 0; begun = record { rest = may.own; outcome = may.outcome; whole = record { word = 0; inner = may.own; shown = may.some; is = refl } } }

-- after the look, by its reply
pub nested-looked : {M O : Type 0} (may_begin : M → Geometry → View → Type 0) (some : M → Geometry → Own → O → Type 0) (awaits outer : Geometry → View → Own → Action → Type 0) (shape : Geometry → Own → O → Type 0) (leaves : Geometry → View → O → View → Type 0) (ended : Geometry → Own → O → Type 0) (vpage : ℕ) (made : M) (g : Geometry) (v : View) (reply : Reply) (result : Step O)
    → MayNest may_begin some vpage made g v → Fits g v (Look vpage) reply
    → ((own : Own) (action : Action) → IsInside awaits vpage g v own action → outer g v own action)
    → ((view : View) → may_begin made g view → IsPartStep awaits shape leaves ended g view [] result)
    → IsPartStep outer (λ g own outcome. IsNested (shape g) vpage own outcome) (λ g view outcome left. LeavesNested (leaves g) g vpage view outcome left) (λ g own outcome. EndsInside (ended g) vpage own outcome) g v ((Look vpage, reply) ∷ []) result
nested-looked may_begin some awaits outer shape leaves ended vpage made g v Done result may f up first = absurd f.kind
nested-looked may_begin some awaits outer shape leaves ended vpage made g v (Word word) result may f up first = nested-step awaits outer shape leaves ended vpage g v word [] result up (first (looked_view g v vpage word) (may.inner word f))
nested-looked may_begin some awaits outer shape leaves ended vpage made g v (Busy w) result may f up first = absurd f.kind
nested-looked may_begin some awaits outer shape leaves ended vpage made g v (Lost w) result may f up first = absurd f.kind

-- the inner part may begin after the look
pub may-inside : {M O : Type 0} (may_begin : M → Geometry → View → Type 0) (some : M → Geometry → Own → O → Type 0) (vpage : ℕ) (made : M) (g : Geometry) (v : View) (reply : Reply) → MayNest may_begin some vpage made g v → Fits g v (Look vpage) reply → HasBegin (may_begin made)
may-inside may_begin some vpage made g v Done may f = absurd f.kind
may-inside may_begin some vpage made g v (Word word) may f = record { geometry = g; view = looked_view g v vpage word; allowed = may.inner word f }
may-inside may_begin some vpage made g v (Busy w) may f = absurd f.kind
may-inside may_begin some vpage made g v (Lost w) may f = absurd f.kind

-- the view in which the look was made is the first one
looked-first : (g : Geometry) (v : View) (own : Own) (vpage : ℕ) (action : Action) (reply : Reply) → own ≡ [] → action ≡ Look vpage → Fits g (view_after g v own) action reply → Fits g v (Look vpage) reply
looked-first g v own vpage action reply n l f =
    let F : Own → Type 0 = λ own. Fits g (view_after g v own) action reply in
    let A : Action → Type 0 = λ a. Fits g v a reply in
    subst A l (subst F n f)

-- the inner part may begin where the look was awaited, and a reply fits
pub looking-begins : {M O : Type 0} (may_begin : M → Geometry → View → Type 0) (some : M → Geometry → Own → O → Type 0) (vpage : ℕ) (made : M) (g : Geometry) (v : View) (own : Own) (action : Action) (reply : Reply)
    → IsLooking (λ g view. MayNest may_begin some vpage made g view) vpage g v own action → Fits g (view_after g v own) action reply → HasBegin (may_begin made)
looking-begins may_begin some vpage made g v own action reply h f = may-inside may_begin some vpage made g v reply h.begun (looked-first g v own vpage action reply h.none h.look f)

-- the step after an answer to the inner part
pub nested-more : {O : Type 0} (awaits next : Geometry → View → Own → Action → Type 0) (shape : Geometry → Own → O → Type 0) (leaves : Geometry → View → O → View → Type 0) (ended : Geometry → Own → O → Type 0) (vpage : ℕ) (g : Geometry) (v : View) (own : Own) (action : Action) (reply : Reply) (result : Step O)
    → IsInside awaits vpage g v own action → Fits g (view_after g v own) action reply
    → ((g : Geometry) (v : View) (own : Own) (action : Action) → awaits g v own action → Fits g (view_after g v own) action reply → IsPartStep next shape leaves ended g v (own ++ (action, reply) ∷ []) result)
    → IsPartStep (λ g v own action. IsInside next vpage g v own action) (λ g own outcome. IsNested (shape g) vpage own outcome) (λ g view outcome left. LeavesNested (leaves g) g vpage view outcome left) (λ g own outcome. EndsInside (ended g) vpage own outcome) g v (own ++ (action, reply) ∷ []) result
nested-more awaits next shape leaves ended vpage g v own action reply result h f after =
    let F : Own → Type 0 = λ l. Fits g (view_after g v l) action reply in
    let fits = subst F h.is f in
    rw h.is (nested-step next (λ g v own action. IsInside next vpage g v own action) shape leaves ended vpage g v h.word (h.inner ++ (action, reply) ∷ []) result (λ l a i. i)
    (after g (looked_view g v vpage h.word) h.inner action h.awaited fits))

-- a reply that fits the whole, once the inner part awaits an answer, fits the inner part
pub inside-heard : (awaits : Geometry → View → Own → Action → Type 0) (vpage : ℕ) (g : Geometry) (v : View) (own : Own) (action : Action) (reply : Reply) → IsInside awaits vpage g v own action → Fits g (view_after g v own) action reply → IsHeard awaits reply
inside-heard awaits vpage g v own action reply h f =
    let F : Own → Type 0 = λ l. Fits g (view_after g v l) action reply in
    record { geometry = g; view = looked_view g v vpage h.word; own = h.inner; action = action; awaited = h.awaited; fits = subst F h.is f }

-- the step after the look
pub nested-begins : {M O : Type 0} (may_begin : M → Geometry → View → Type 0) (some : M → Geometry → Own → O → Type 0) (next : Geometry → View → Own → Action → Type 0) (shape : Geometry → Own → O → Type 0) (leaves : Geometry → View → O → View → Type 0) (ended : Geometry → Own → O → Type 0) (vpage : ℕ) (made : M) (g : Geometry) (v : View) (own : Own) (action : Action) (reply : Reply) (result : Step O)
    → IsLooking (λ g view. MayNest may_begin some vpage made g view) vpage g v own action → Fits g (view_after g v own) action reply
    → ((g : Geometry) (view : View) → may_begin made g view → IsPartStep next shape leaves ended g view [] result)
    → IsPartStep (λ g v own action. IsInside next vpage g v own action) (λ g own outcome. IsNested (shape g) vpage own outcome) (λ g view outcome left. LeavesNested (leaves g) g vpage view outcome left) (λ g own outcome. EndsInside (ended g) vpage own outcome) g v (own ++ (action, reply) ∷ []) result
nested-begins may_begin some next shape leaves ended vpage made g v own action reply result h f first =
    rw (h.none, h.look) (nested-looked may_begin some next (λ g v own action. IsInside next vpage g v own action) shape leaves ended vpage made g v reply result h.begun (looked-first g v own vpage action reply h.none h.look f) (λ l a i. i) (λ view m. first g view m))
