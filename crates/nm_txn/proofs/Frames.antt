-- The new frame of a transaction among the owned frames.
use Rattle.std.proofs.Common.{◌≡◌, ◌≢◌, ℕ, zero, suc, ◌<◌, ◌≤◌, List, [], ◌∷◌, ◌++◌, Option, Some, None, refl, sym, ap, ◌∙◌, arith}
use Rattle.std.specs.Prelude.{option_map}
use Rattle.nm_base.specs.Geometry.{Geometry, tier_of}
use Rattle.nm_view.specs.declared.view.Fill.{Fill}
use Rattle.nm_view.specs.declared.view.Fill.TheVariants.{Raw, Copied}
use Rattle.nm_view.specs.declared.view.Owned.{Owned}
use Rattle.nm_view.specs.Lists.{find, edit, erase, put}
use Rattle.nm_view.specs.Views.{View}
use Rattle.nm_view.specs.Operations.{owned_frame}
use Rattle.nm_view.proofs.Finds.{find_put}
use Rattle.nm_view.proofs.Places.{put-new}
use Rattle.nm_event.specs.After.{filled, owning}
use Rattle.nm_copying.specs.Copying.{copied_fill}
use Rattle.nm_prepare.proofs.Lists.{edit-last}

-- its fill
pub fill-owning : (frame : ℕ) (fill : Fill) (owned : List Owned) → option_map (λ (w : Owned). w.fill) (find owned_frame frame (owning frame fill owned)) ≡ Some fill
fill-owning frame fill owned = ap (option_map (λ (w : Owned). w.fill)) (find_put owned_frame (record { frame = frame; fill = fill }) owned)

-- it is filled
pub edit-owning : (frame : ℕ) (old new : Fill) (owned : List Owned) → find owned_frame frame owned ≡ None → edit owned_frame frame (filled new) (owning frame old owned) ≡ owning frame new owned
edit-owning frame old new owned fresh =
    ap (edit owned_frame frame (filled new)) (put-new owned_frame (record { frame = frame; fill = old }) owned fresh)
    ∙ (edit-last owned_frame frame (filled new) (record { frame = frame; fill = old }) owned fresh refl
    ∙ sym (put-new owned_frame (record { frame = frame; fill = new }) owned fresh))

-- all words are copied
pub copied-all : (page words : ℕ) → 0 < words → copied_fill page words ≡ Copied page words
copied-all page zero some = let bad : ⊥ = omega arith in absurd bad
copied-all page (suc n) some = refl

-- frames of different tiers are different
pub apart-by-tiers : (g : Geometry) (frame home : ℕ) → tier_of g frame < tier_of g home → frame ≢ home
apart-by-tiers g frame home h e = let same : tier_of g frame ≡ tier_of g home = ap (tier_of g) e in omega arith
