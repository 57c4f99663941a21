-- Less and less is known of the words of owned frames.
use Rattle.std.proofs.Common.{◌≡◌, ◌⊎◌, inl, inr, ℕ, List, [], ◌∷◌, map, Option, Some, None, option_map, refl, ap, ◌∙◌, sym}
use Rattle.nm_view.specs.declared.view.Fill.{Fill}
use Rattle.nm_view.specs.declared.view.Fill.TheVariants.{Raw, Zeroed, Copied, Equal}
use Rattle.nm_view.specs.declared.view.Owned.{Owned}
use Rattle.nm_view.specs.Lists.{find}
use Rattle.nm_view.specs.Operations.{owned_frame}
use Rattle.nm_view.specs.Views.{View}
use Rattle.nm_view.proofs.Finds.{find_map}
use Rattle.nm_event.specs.After.{filled}
use Rattle.nm_reclaim.specs.Swept.{IsOfOther, MayForget, IsForgotten, IsSwept}

-- one change after the other

kept-then : (skip : Option ℕ) (second : Fill → Fill) (fill now : Fill) → now ≡ fill → (second fill ≡ fill) ⊎ ((second fill ≡ Raw) × IsOfOther skip fill) → (second now ≡ fill) ⊎ ((second now ≡ Raw) × IsOfOther skip fill)
kept-then skip second fill now same h = rw same h

raw-stays : (skip : Option ℕ) (second : Fill → Fill) → (second Raw ≡ Raw) ⊎ ((second Raw ≡ Raw) × IsOfOther skip Raw) → second Raw ≡ Raw
raw-stays skip second (inl same) = same
raw-stays skip second (inr lost) = lost.0

change-both : (skip : Option ℕ) (first second : Fill → Fill) (fill : Fill) → MayForget skip second → (first fill ≡ fill) ⊎ ((first fill ≡ Raw) × IsOfOther skip fill)
    → (second (first fill) ≡ fill) ⊎ ((second (first fill) ≡ Raw) × IsOfOther skip fill)
change-both skip first second fill more (inl same) = kept-then skip second fill (first fill) same (more.each fill)
change-both skip first second fill more (inr lost) = inr (ap second lost.0 ∙ raw-stays skip second (more.each Raw), lost.1)

map-both : (first second : Fill → Fill) (owned : List Owned) → map (λ w. filled (second w.fill) w) (map (λ w. filled (first w.fill) w) owned) ≡ map (λ w. filled (second (first w.fill)) w) owned
map-both first second [] = refl
map-both first second (w ∷ owned) = ap (λ (ws : List Owned). filled (second (first w.fill)) w ∷ ws) (map-both first second owned)

pub forgets-after : (skip : Option ℕ) (first now later : List Owned) → IsForgotten skip first now → IsForgotten skip now later → IsForgotten skip first later
forgets-after skip first now later h more = record {
  change = λ fill. more.change (h.change fill);
  may = record { each = λ fill. change-both skip h.change more.change fill more.may (h.may.each fill) };
  is = more.is ∙ ap (λ (ws : List Owned). map (λ w. filled (more.change w.fill) w) ws) h.is ∙ map-both h.change more.change first;
}

pub swept-after : (skip : Option ℕ) (first now later : View) → IsSwept skip first now → IsSwept skip now later → IsSwept skip first later
swept-after skip first now later h more = record {
  is = more.is ∙ ap (λ (v : View). record v { owned = later.owned; scan = later.scan }) h.is;
  owned = forgets-after skip first.owned now.owned later.owned h.owned more.owned;
}

-- what is known by the skipped page may be forgotten too

of-some : (skip : Option ℕ) (fill : Fill) → IsOfOther skip fill → IsOfOther None fill
of-some skip Raw h = absurd h
of-some skip (Zeroed n) h = absurd h
of-some skip (Copied b n) h = λ e. cc e
of-some skip (Equal b) h = λ e. cc e

change-all : (skip : Option ℕ) (change : Fill → Fill) (fill : Fill) → (change fill ≡ fill) ⊎ ((change fill ≡ Raw) × IsOfOther skip fill) → (change fill ≡ fill) ⊎ ((change fill ≡ Raw) × IsOfOther None fill)
change-all skip change fill (inl same) = inl same
change-all skip change fill (inr lost) = inr (lost.0, of-some skip fill lost.1)

pub forgets-all : (skip : Option ℕ) (first now : List Owned) → IsForgotten skip first now → IsForgotten None first now
forgets-all skip first now h = record {
  change = h.change;
  may = record { each = λ fill. change-all skip h.change fill (h.may.each fill) };
  is = h.is;
}

-- The same frames are owned.

none-mapped : (f : Owned → Owned) (o : Option Owned) → o ≡ None → option_map f o ≡ None
none-mapped f None e = refl
none-mapped f (Some w) e = cc e

none-before : (f : Owned → Owned) (o : Option Owned) → option_map f o ≡ None → o ≡ None
none-before f None e = refl
none-before f (Some w) e = cc e

found-forgotten : (skip : Option ℕ) (frame : ℕ) (first now : List Owned) (h : IsForgotten skip first now) → find owned_frame frame now ≡ option_map (λ w. filled (h.change w.fill) w) (find owned_frame frame first)
found-forgotten skip frame first now h = ap (λ (ws : List Owned). find owned_frame frame ws) h.is ∙ find_map owned_frame (λ w. filled (h.change w.fill) w) frame first (λ w. refl)

-- a frame that was not owned is not owned
pub forgotten-fresh : (skip : Option ℕ) (frame : ℕ) (first now : List Owned) → IsForgotten skip first now → find owned_frame frame first ≡ None → find owned_frame frame now ≡ None
forgotten-fresh skip frame first now h fresh = found-forgotten skip frame first now h ∙ none-mapped (λ w. filled (h.change w.fill) w) (find owned_frame frame first) fresh

-- nor was a frame that is not owned
pub forgotten-unowned : (skip : Option ℕ) (frame : ℕ) (first now : List Owned) → IsForgotten skip first now → find owned_frame frame now ≡ None → find owned_frame frame first ≡ None
forgotten-unowned skip frame first now h fresh = none-before (λ w. filled (h.change w.fill) w) (find owned_frame frame first) (sym (found-forgotten skip frame first now h) ∙ fresh)
