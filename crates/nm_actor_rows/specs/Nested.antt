-- A part that looks at a virtual page and then runs any part inside its own: the smallest composite.
use Rattle.std.specs.Prelude.{◌≡◌, ℕ, Bool, true, false, [], ◌∷◌}
use Rattle.nm_base.specs.Geometry.{Geometry}
use Rattle.nm_action.specs.declared.action.Action.{Action}
use Rattle.nm_action.specs.declared.action.Action.TheVariants.{Look}
use Rattle.nm_action.specs.declared.action.Reply.TheVariants.{Word}
use Rattle.nm_view.specs.Views.{View}
use Rattle.nm_base.specs.Ranges.{IsVPage}
use Rattle.nm_event.specs.After.{after_of}
use Rattle.nm_event.specs.Fitting.{Fits}
use Rattle.nm_action.specs.Own.{Own}

-- the view after the look
abbrev pub looked_view : Geometry → View → ℕ → ℕ → View
looked_view g view vpage word = after_of g view (Look vpage) (Word word)

-- it may begin where the inner part may begin after the look, whatever word that gives
pub record MayNest {M O : Type 0} (may_begin : M → Geometry → View → Type 0) (shape : M → Geometry → Own → O → Type 0) (vpage : ℕ) (made : M) (g : Geometry) (view : View) : Type 0 where
  pub range : IsVPage g vpage
  pub inner : (word : ℕ) → Fits g view (Look vpage) (Word word) → may_begin made g (looked_view g view vpage word)
  pub own : Own
  pub outcome : O
  pub some : shape made g own outcome

-- the look, and then a finished list of the inner part
pub record IsNested {O : Type 0} (shape : Own → O → Type 0) (vpage : ℕ) (own : Own) (outcome : O) : Type 0 where
  pub word : ℕ
  pub inner : Own
  pub shown : shape inner outcome
  pub is : own ≡ (Look vpage, Word word) ∷ inner

-- the inner part leaves the view, after the look
pub record LeavesNested {O : Type 0} (leaves : View → O → View → Type 0) (g : Geometry) (vpage : ℕ) (view : View) (outcome : O) (left : View) : Type 0 where
  pub word : ℕ
  pub inner : leaves (looked_view g view vpage word) outcome left

-- the inner part is in the state in which it ends, with its own list
pub record EndsInside {O : Type 0} (ended : Own → O → Type 0) (vpage : ℕ) (own : Own) (outcome : O) : Type 0 where
  pub word : ℕ
  pub inner : Own
  pub is : own ≡ (Look vpage, Word word) ∷ inner
  pub over : ended inner outcome

-- the look is awaited
pub record IsLooking (may : Geometry → View → Type 0) (vpage : ℕ) (g : Geometry) (view : View) (own : Own) (action : Action) : Type 0 where
  pub begun : may g view
  pub none : own ≡ []
  pub look : action ≡ Look vpage

-- the inner part awaits an answer
pub record IsInside (awaits : Geometry → View → Own → Action → Type 0) (vpage : ℕ) (g : Geometry) (view : View) (own : Own) (action : Action) : Type 0 where
  pub word : ℕ
  pub inner : Own
  pub is : own ≡ (Look vpage, Word word) ∷ inner
  pub awaited : awaits g (looked_view g view vpage word) inner action

abbrev pub AwaitsNested : Bool → Type 0 → Type 0 → Type 0
AwaitsNested false looking inside = looking
AwaitsNested true looking inside = inside
