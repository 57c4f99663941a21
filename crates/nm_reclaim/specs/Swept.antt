-- When Reclaim may begin, and the view that it leaves.
use Rattle.std.specs.Prelude.{◌≡◌, ◌≢◌, ℕ, ◌≤◌, ◌⊎◌, List, length, map, Option, Some, None, All}
use Rattle.nm_base.specs.Geometry.{Geometry, IsGeometry}
use Rattle.nm_base.specs.Ranges.{IsTier}
use Rattle.nm_view.specs.declared.view.Fill.{Fill}
use Rattle.nm_view.specs.declared.view.Fill.TheVariants.{Raw, Zeroed, Copied, Equal}
use Rattle.nm_view.specs.declared.view.Owned.{Owned}
use Rattle.nm_view.specs.Views.{Op, View}
use Rattle.nm_event.specs.After.{filled}
use Rattle.nm_reclaim.specs.declared.sweep.ReclaimMade.{ReclaimMade}

-- there is no operation but one on the skipped page
pub record HasOnlySkipped (skip : Option ℕ) (ops : List Op) : Type 0 where
  pub few : length ops ≤ 1
  pub named : All (λ o. skip ≡ Some o.page) ops

-- it may begin
pub record MayReclaim (made : ReclaimMade) (g : Geometry) (view : View) : Type 0 where
  pub geometry : IsGeometry g
  pub tier : IsTier g made.tier
  pub ops : HasOnlySkipped made.skip view.ops
  pub turn : view.turn ≡ None

-- what a frame holds is known by a page other than the skipped one
abbrev pub IsOfOther : Option ℕ → Fill → Type 0
IsOfOther skip Raw = ⊥
IsOfOther skip (Zeroed _) = ⊥
IsOfOther skip (Copied page _) = skip ≢ Some page
IsOfOther skip (Equal page) = skip ≢ Some page

-- what is known of the words of frames may be lost, but not what is known by the skipped page
pub record MayForget (skip : Option ℕ) (change : Fill → Fill) : Type 0 where
  pub each : (fill : Fill) → (change fill ≡ fill) ⊎ ((change fill ≡ Raw) × IsOfOther skip fill)

-- the same frames are owned, of some of which less is known
pub record IsForgotten (skip : Option ℕ) (old new : List Owned) : Type 0 where
  pub change : Fill → Fill
  pub may : MayForget skip change
  pub is : new ≡ map (λ w. filled (change w.fill) w) old

-- it leaves all of the view as it was, but what is known of owned frames, and the scan
pub record IsSwept (skip : Option ℕ) (view left : View) : Type 0 where
  pub is : left ≡ record view { owned = left.owned; scan = left.scan }
  pub owned : IsForgotten skip view.owned left.owned
