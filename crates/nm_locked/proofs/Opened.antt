-- The view with one operation of which nothing was changed, along the actions before its page is taken out of the table.
use Rattle.std.proofs.Common.{◌≡◌, ◌≢◌, ℕ, ◌+◌, ◌==◌, if◌then◌else◌, List, [], ◌∷◌, ◌++◌, Bool, true, Option, Some, None, IsSome, IsSomeAnd, refl, sym, ap, ◌∙◌, subst, arith}
use Rattle.nm_base.specs.Geometry.{Geometry, backing_page}
use Rattle.nm_action.specs.declared.action.Action.TheVariants.{Lock, Unlock, Read, SetShadow}
use Rattle.nm_action.specs.declared.action.Cell.{Cell}
use Rattle.nm_action.specs.declared.action.Reply.TheVariants.{Done, Word}
use Rattle.nm_view.specs.declared.view.Owned.{Owned}
use Rattle.nm_view.specs.declared.view.Scanned.{Scanned}
use Rattle.nm_view.specs.Lists.{find, edit, erase}
use Rattle.nm_view.specs.Views.{Op, View}
use Rattle.nm_view.specs.Opening.{opened, unscanned}
use Rattle.nm_view.specs.Operations.{page_of, op_on, op_under, op_of}
use Rattle.nm_event.specs.After.{after_of, read_cell, shaded, spoiled, unshaded}
use Rattle.nm_pool.specs.Given.{released}
use Rattle.nm_transfer.proofs.Held.{edit-one, find-one}
use Rattle.nm_locked.specs.Chosen.{opened_view}

pub opened-on : (o : Op) (owned : List Owned) (scan : Scanned) (page : ℕ) (view : View) → o.page ≡ page → op_on (opened_view o owned scan view) page ≡ Some o
opened-on o owned scan page view same = find-one o page same

pub opened-of : (g : Geometry) (o : Op) (owned : List Owned) (scan : Scanned) (page v : ℕ) (view : View) → backing_page g v ≡ Some page → o.page ≡ page → op_of g (opened_view o owned scan view) v ≡ Some o
opened-of g o owned scan page v view of same = ap (op_under (opened_view o owned scan view)) of ∙ opened-on o owned scan page view same

-- what is permitted by the operation on the page
pub opened-some : (o : Op) (owned : List Owned) (scan : Scanned) (page : ℕ) (view now : View) (P : Op → Type 0) → o.page ≡ page → now ≡ opened_view o owned scan view → P o → IsSomeAnd (op_on now page) P
opened-some o owned scan page view now P same is h =
    subst (λ (v : View). IsSomeAnd (op_on v page) P) (sym is) (subst (λ (x : Option Op). IsSomeAnd x P) (sym (opened-on o owned scan page view same)) h)

pub opened-some-of : (g : Geometry) (o : Op) (owned : List Owned) (scan : Scanned) (page v : ℕ) (view now : View) (P : Op → Type 0) → backing_page g v ≡ Some page → o.page ≡ page → now ≡ opened_view o owned scan view → P o → IsSomeAnd (op_of g now v) P
opened-some-of g o owned scan page v view now P of same is h =
    subst (λ (x : View). IsSomeAnd (op_of g x v) P) (sym is) (subst (λ (x : Option Op). IsSomeAnd x P) (sym (opened-of g o owned scan page v view of same)) h)

abbrev with_ops : List Op → List Owned → Scanned → View → View
with_ops ops owned scan view = record view { ops = ops; owned = owned; scan = scan }

-- the Lock
pub after-lock : (g : Geometry) (view : View) (page : ℕ) → view.ops ≡ [] → after_of g view (Lock page) Done ≡ opened_view (opened page view.room.aliases) view.owned view.scan view
after-lock g view page none = ap (λ (l : List Op). record view { ops = l ++ opened page view.room.aliases ∷ [] }) none

-- a Read
pub after-read : (g : Geometry) (o : Op) (owned : List Owned) (scan : Scanned) (page w : ℕ) (cell : Cell) (view : View) → o.page ≡ page
    → after_of g (opened_view o owned scan view) (Read page cell) (Word w) ≡ opened_view (read_cell cell w o) owned scan view
after-read g o owned scan page w cell view same = ap (λ (l : List Op). with_ops l owned scan view) (edit-one (read_cell cell w) o page same)

-- the shadow word is set to none
pub after-unshade : (g : Geometry) (o : Op) (owned : List Owned) (scan : Scanned) (page master : ℕ) (view : View) → o.page ≡ page
    → after_of g (opened_view o owned scan view) (SetShadow page master None) Done ≡ opened_view (shaded page None o) (unshaded g page (Some o) owned) scan view
after-unshade g o owned scan page master view same =
    ap (λ (l : List Op). with_ops l (unshaded g page (op_on (opened_view o owned scan view) page) owned) scan view) (edit-one (shaded page None) o page same)
    ∙ ap (λ (x : Option Op). with_ops (shaded page None o ∷ []) (unshaded g page x owned) scan view) (opened-on o owned scan page view same)

pub erase-one : (o : Op) (page : ℕ) → o.page ≡ page → erase page_of page (o ∷ []) ≡ []
erase-one o page same = let here : (page_of o == page) ≡ true = rw same (grind arith) in ap (λ (t : Bool). if t then [] else o ∷ []) here

-- the Unlock
pub after-unlock : (g : Geometry) (o : Op) (owned : List Owned) (scan : Scanned) (page : ℕ) (view : View) → o.page ≡ page → view.ops ≡ []
    → after_of g (opened_view o owned scan view) (Unlock page) Done ≡ record view { owned = spoiled page owned; scan = scan }
after-unlock g o owned scan page view same none = ap (λ (l : List Op). with_ops l (spoiled page owned) scan view) (erase-one o page same ∙ sym none)

-- a task on the free frames
pub after-task : (o : Op) (owned more : List Owned) (scan : Scanned) (view : View) → view.turn ≡ None
    → record (released (opened_view o owned scan view)) { owned = more } ≡ opened_view o more unscanned view
after-task o owned more scan view turn = ap (λ (t : Option ℕ). record (opened_view o more unscanned view) { turn = t }) (sym turn)
