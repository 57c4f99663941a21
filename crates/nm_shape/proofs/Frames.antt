-- Owned frames whose numbers are in range: what each change keeps.
use Rattle.std.proofs.Common.{◌≡◌, ◌≢◌, ℕ, ◌+◌, ◌-◌, ◌<◌, ◌≤◌, ◌==◌, if◌then◌else◌, Bool, true, false, List, Option, Some, None, All, refl, arith}
use Rattle.std.specs.Option.{IfSome, IsSomeAnd}
use Rattle.nm_base.specs.Geometry.{Geometry, frame_count}
use Rattle.nm_view.specs.declared.view.Fill.{Fill}
use Rattle.nm_view.specs.declared.view.Fill.TheVariants.{Raw, Zeroed, Copied, Equal}
use Rattle.nm_view.specs.declared.view.Owned.{Owned}
use Rattle.nm_view.specs.Lists.{edit, erase, Once}
use Rattle.nm_view.specs.Views.{Op}
use Rattle.nm_base.specs.HomeWord.{IsHomeWord}
use Rattle.nm_base.specs.ShadowWord.{shadow_frame, IsShadowWord}
use Rattle.nm_base.proofs.ShadowWords.{IsFrame-IsShadowWord}
use Rattle.nm_view.specs.Operations.{owned_frame}
use Rattle.nm_base.specs.Ranges.{IsPage, IsFrame}
use Rattle.nm_event.specs.After.{spoiled_fill, spoiled_frame, spoiled, spoiled_under, filled, owning, let_go, unshaded_fill, unshading, unshaded, stored_fill, is_quiet}
use Rattle.nm_shape.specs.Keyed.{IsFillInRange, IsOwnedInRange, IsOpKeyed}
use Rattle.nm_view.proofs.Items.{all_put, all_erase, all_edit, all_map}
use Rattle.nm_view.proofs.Finds.{once_put, once_erase, once_edit, once_map}

-- owned frames: none twice, and their numbers in range
pub record AreOwned (g : Geometry) (owned : List Owned) : Type 0 where
  pub once : Once owned_frame owned
  pub all : All (IsOwnedInRange g) owned

spoiled_if : (g : Geometry) (b : Bool) (fill : Fill) → IsFillInRange g fill → IsFillInRange g (if b then Raw else fill)
spoiled_if g true fill h = tt
spoiled_if g false fill h = h

spoiled_in_range : (g : Geometry) (page : ℕ) (fill : Fill) → IsFillInRange g fill → IsFillInRange g (spoiled_fill page fill)
spoiled_in_range g page Raw h = tt
spoiled_in_range g page (Zeroed n) h = h
spoiled_in_range g page (Copied b n) h = spoiled_if g (b == page) (Copied b n) h
spoiled_in_range g page (Equal b) h = spoiled_if g (b == page) (Equal b) h

pub owned_spoiled : (g : Geometry) (page : ℕ) (owned : List Owned) → AreOwned g owned → AreOwned g (spoiled page owned)
owned_spoiled g page owned h = record {
  once = once_map owned_frame (spoiled_frame page) owned (λ w. refl) h.once;
  all = all_map (IsOwnedInRange g) (IsOwnedInRange g) (spoiled_frame page) owned (λ w k. record { frame = k.frame; fill = spoiled_in_range g page w.fill k.fill }) h.all;
}

pub owned_spoiled_under : (g : Geometry) (page : Option ℕ) (owned : List Owned) → AreOwned g owned → AreOwned g (spoiled_under page owned)
owned_spoiled_under g None owned h = h
owned_spoiled_under g (Some page) owned h = owned_spoiled g page owned h

pub owned_more : (g : Geometry) (frame : ℕ) (fill : Fill) (owned : List Owned) → IsFrame g frame → IsFillInRange g fill → AreOwned g owned → AreOwned g (owning frame fill owned)
owned_more g frame fill owned f r h = let new : Owned = record { frame = frame; fill = fill } in record {
  once = once_put owned_frame new owned h.once;
  all = all_put owned_frame (IsOwnedInRange g) new owned (record { frame = f; fill = r }) h.all;
}

pub owned_less : (g : Geometry) (frame : ℕ) (owned : List Owned) → AreOwned g owned → AreOwned g (erase owned_frame frame owned)
owned_less g frame owned h = record { once = once_erase owned_frame frame owned h.once; all = all_erase owned_frame (IsOwnedInRange g) frame owned h.all }

pub owned_filled : (g : Geometry) (frame : ℕ) (fill : Fill) (owned : List Owned) → IsFillInRange g fill → AreOwned g owned → AreOwned g (edit owned_frame frame (filled fill) owned)
owned_filled g frame fill owned r h = record {
  once = once_edit owned_frame frame (filled fill) owned (λ w. refl) h.once;
  all = all_edit owned_frame (IsOwnedInRange g) frame (filled fill) owned (λ w f k. record { frame = k.frame; fill = r }) h.all;
}

pub stored_in_range : (g : Geometry) (page : Option ℕ) (n : ℕ) → IfSome page (IsPage g) → n < g.words → IsFillInRange g (stored_fill page (n + 1))
stored_in_range g None n p lt = omega (arith, lt)
stored_in_range g (Some page) n p lt = record { page = p; count = omega (arith, lt) }

-- The old home of a page.

let_go_if : (g : Geometry) (page home : ℕ) (owned : List Owned) (b : Bool) → (home == 0) ≡ b → IsPage g page → IsHomeWord g home → AreOwned g owned → AreOwned g (if b then owned else owning (home - 1) (Equal page) owned)
let_go_if g page home owned true e p le h = h
let_go_if g page home owned false e p le h = let some : 0 < home = grind arith in owned_more g (home - 1) (Equal page) owned (omega (arith, some, le)) p h

pub owned_let_go : (g : Geometry) (page : ℕ) (home : Option ℕ) (owned : List Owned) → IsPage g page → IfSome home (IsHomeWord g) → AreOwned g owned → AreOwned g (let_go page home owned)
owned_let_go g page None owned p r h = h
owned_let_go g page (Some home) owned p r h = let_go_if g page home owned (home == 0) refl p r h

-- The shadow of a page.

unshaded_in_range : (g : Geometry) (quiet : Bool) (page : ℕ) → IsPage g page → IsFillInRange g (unshaded_fill quiet page)
unshaded_in_range g true page p = p
unshaded_in_range g false page p = tt

pub owned_unshading : (g : Geometry) (fill : Fill) (word : Option ℕ) (owned : List Owned) → frame_count g ≤ 4096 → IfSome word (IsShadowWord g) → IsSomeAnd word (λ w. w ≢ 0) → IsFillInRange g fill → AreOwned g owned → AreOwned g (unshading fill word owned)
owned_unshading g fill None owned few r s f h = absurd s
owned_unshading g fill (Some word) owned few r s f h = owned_more g (shadow_frame word) fill owned (IsFrame-IsShadowWord g word few r s) f h

pub owned_unshaded : (g : Geometry) (page : ℕ) (op : Option Op) (owned : List Owned) → frame_count g ≤ 4096 → IsPage g page → IfSome op (IsOpKeyed g) → IsSomeAnd op (λ o. IsSomeAnd o.shadow (λ w. w ≢ 0)) → AreOwned g owned → AreOwned g (unshaded g page op owned)
owned_unshaded g page None owned few p k s h = h
owned_unshaded g page (Some o) owned few p k s h = owned_unshading g (unshaded_fill (is_quiet g o) page) o.shadow owned few k.shadow s (unshaded_in_range g (is_quiet g o) page p) h
