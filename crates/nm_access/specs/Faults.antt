-- The faults of a processor, as one that runs them sees them.
use Rattle.std.specs.Prelude.{◌≡◌, ℕ, Bool, List, [], ◌∷◌, Some, None}
use Rattle.nm_base.specs.Geometry.{Geometry, IsGeometry, backing_page}
use Rattle.nm_base.specs.Ranges.{IsVPage, IsPage}
use Rattle.nm_action.specs.declared.action.Action.{Action}
use Rattle.nm_action.specs.declared.tally.Tally.{Tally}
use Rattle.nm_action.specs.Tally.{sum_of}
use Rattle.nm_action.specs.Own.{Own}
use Rattle.nm_view.specs.Views.{View}

-- of faults that are made with data M and end with X: the finished lists of each and the end that each shows; the views that
-- it leaves; where it waits; what a fault on a virtual page is made with, where that is not mapped in the table, and where it
-- is read-only for its shadow; and what an end counts
pub record FaultKinds (M X : Type 0) : Type 1 where
  pub shape : M → Geometry → Own → X → Type 0
  pub leaves : M → Geometry → View → X → View → Type 0
  pub waits : Own → Action → Bool
  pub missing : Geometry → ℕ → M
  pub shadowed : Geometry → ℕ → M
  pub counts : X → Tally

abbrev pub fault_kinds : {M X : Type 0} → (M → Geometry → Own → X → Type 0) → (M → Geometry → View → X → View → Type 0) → (Own → Action → Bool) → (Geometry → ℕ → M) → (Geometry → ℕ → M) → (X → Tally) → FaultKinds M X
fault_kinds shape leaves waits missing shadowed counts = record { shape = shape; leaves = leaves; waits = waits; missing = missing; shadowed = shadowed; counts = counts }

-- the view has no operation, owns no frame and holds no turn
pub record HasNothingOpen (view : View) : Type 0 where
  pub ops : view.ops ≡ []
  pub owned : view.owned ≡ []
  pub turn : view.turn ≡ None

-- a fault on a virtual page may begin
pub record MayFaultOn (g : Geometry) (v : ℕ) (view : View) : Type 0 where
  pub geometry : IsGeometry g
  pub vpage : IsVPage g v
  pub page : ℕ
  pub mapped : backing_page g v ≡ Some page
  pub exists : IsPage g page
  pub free : HasNothingOpen view

-- nothing was counted
abbrev pub zero_fault_counts : Tally
zero_fault_counts = record { demand = 0; alias = 0; hint = 0; shadow = 0; marked = 0; spilled = 0; cold = 0; committed = 0; moved = 0; noframe = 0; gone = 0; worn = 0; aborted = 0; remapped = 0; copied = 0; words = 0; flushes = 0; reclaimed = 0 }

-- what ends count, after these counts
abbrev pub ends_after : {X : Type 0} → (X → Tally) → Tally → List X → Tally
ends_after counts tally [] = tally
ends_after counts tally (end ∷ ends) = ends_after counts (sum_of tally (counts end)) ends

-- what ends count
abbrev pub ends_tally : {X : Type 0} → (X → Tally) → List X → Tally
ends_tally counts ends = ends_after counts zero_fault_counts ends
