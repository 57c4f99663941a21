-- The view with one operation, along the actions of a transfer.
use Rattle.std.proofs.Common.{◌≡◌, ℕ, ◌==◌, if◌then◌else◌, Bool, true, List, [], ◌∷◌, Option, Some, None, ap, ◌∙◌, arith}
use Rattle.nm_base.specs.Geometry.{Geometry, backing_page}
use Rattle.nm_action.specs.declared.action.Action.TheVariants.{Unmap, SetShadow, SetHome, Map}
use Rattle.nm_action.specs.declared.action.Reply.TheVariants.{Done, Word}
use Rattle.nm_view.specs.declared.view.Owned.{Owned}
use Rattle.nm_view.specs.Lists.{find, edit, erase}
use Rattle.nm_view.specs.Views.{Op, View}
use Rattle.nm_view.specs.Operations.{page_of, owned_frame, op_on, op_under, op_of, known_home}
use Rattle.nm_event.specs.After.{after_of, edit_under, edit_of, taken_at, shaded, homed_at, mapped_at, spoiled, spoiled_under, let_go, unshaded}
use Rattle.nm_transfer.specs.Stages.{transfer_held}

-- One operation.

here : (o : Op) (page : ℕ) → o.page ≡ page → (page_of o == page) ≡ true
here o page same = rw same (grind arith)

pub edit-one : (f : Op → Op) (o : Op) (page : ℕ) → o.page ≡ page → edit page_of page f (o ∷ []) ≡ f o ∷ []
edit-one f o page same = ap (λ (t : Bool). if t then f o ∷ [] else o ∷ []) (here o page same)

pub find-one : (o : Op) (page : ℕ) → o.page ≡ page → find page_of page (o ∷ []) ≡ Some o
find-one o page same = ap (λ (t : Bool). if t then Some o else None) (here o page same)

edit-of-one : (g : Geometry) (v page : ℕ) (f : Op → Op) (o : Op) → backing_page g v ≡ Some page → o.page ≡ page → edit_of g v f (o ∷ []) ≡ f o ∷ []
edit-of-one g v page f o of same = ap (λ (p : Option ℕ). edit_under p f (o ∷ [])) of ∙ edit-one f o page same

-- it is the one on its page, and on a virtual page of that
pub held-on : (o : Op) (owned : List Owned) (bumps raises page : ℕ) (view : View) → o.page ≡ page → op_on (transfer_held o owned bumps raises view) page ≡ Some o
held-on o owned bumps raises page view same = find-one o page same

pub held-of : (g : Geometry) (o : Op) (owned : List Owned) (bumps raises page v : ℕ) (view : View) → backing_page g v ≡ Some page → o.page ≡ page → op_of g (transfer_held o owned bumps raises view) v ≡ Some o
held-of g o owned bumps raises page v view of same = ap (op_under (transfer_held o owned bumps raises view)) of ∙ held-on o owned bumps raises page view same

-- The actions.

abbrev with_ops : List Op → List Owned → ℕ → ℕ → View → View
with_ops ops owned bumps raises view = record view { ops = ops; owned = owned; bumps = bumps; raises = raises }

pub after-unmap : (g : Geometry) (o : Op) (owned : List Owned) (bumps raises page v w : ℕ) (view : View) → backing_page g v ≡ Some page → o.page ≡ page
    → after_of g (transfer_held o owned bumps raises view) (Unmap v) (Word w) ≡ transfer_held (taken_at v w o) owned bumps raises view
after-unmap g o owned bumps raises page v w view of same = ap (λ (l : List Op). with_ops l owned bumps raises view) (edit-of-one g v page (taken_at v w) o of same)

pub after-map : (g : Geometry) (o : Op) (owned : List Owned) (bumps raises page v w : ℕ) (view : View) → backing_page g v ≡ Some page → o.page ≡ page
    → after_of g (transfer_held o owned bumps raises view) (Map v w) Done ≡ transfer_held (mapped_at v w o) (spoiled page owned) bumps raises view
after-map g o owned bumps raises page v w view of same =
    ap (λ (l : List Op). with_ops l (spoiled_under (backing_page g v) owned) bumps raises view) (edit-of-one g v page (mapped_at v w) o of same)
    ∙ ap (λ (p : Option ℕ). with_ops (mapped_at v w o ∷ []) (spoiled_under p owned) bumps raises view) of

pub after-unshade : (g : Geometry) (o : Op) (owned : List Owned) (bumps raises page master : ℕ) (view : View) → o.page ≡ page
    → after_of g (transfer_held o owned bumps raises view) (SetShadow page master None) Done ≡ transfer_held (shaded page None o) (unshaded g page (Some o) owned) bumps raises view
after-unshade g o owned bumps raises page master view same =
    ap (λ (l : List Op). with_ops l (unshaded g page (op_on (transfer_held o owned bumps raises view) page) owned) bumps raises view) (edit-one (shaded page None) o page same)
    ∙ ap (λ (x : Option Op). with_ops (shaded page None o ∷ []) (unshaded g page x owned) bumps raises view) (held-on o owned bumps raises page view same)

pub after-home : (g : Geometry) (o : Op) (owned : List Owned) (bumps raises page frame : ℕ) (view : View) → o.page ≡ page
    → after_of g (transfer_held o owned bumps raises view) (SetHome page frame) Done ≡ transfer_held (homed_at frame o) (let_go page o.home (erase owned_frame frame owned)) bumps raises view
after-home g o owned bumps raises page frame view same =
    ap (λ (l : List Op). with_ops l (let_go page (known_home (op_on (transfer_held o owned bumps raises view) page)) (erase owned_frame frame owned)) bumps raises view) (edit-one (homed_at frame) o page same)
    ∙ ap (λ (x : Option Op). with_ops (homed_at frame o ∷ []) (let_go page (known_home x) (erase owned_frame frame owned)) bumps raises view) (held-on o owned bumps raises page view same)
