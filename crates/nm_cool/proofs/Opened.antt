-- The view with the operation on the page, along the steps.
use Rattle.std.proofs.Common.{◌≡◌, ◌≢◌, ℕ, List, [], ◌∷◌, ◌++◌, All, Option, Some, None, IsSomeAnd, refl, sym, ap, ◌∙◌, subst}
use Rattle.nm_base.specs.Geometry.{Geometry}
use Rattle.nm_action.specs.declared.action.Action.TheVariants.{Unlock}
use Rattle.nm_action.specs.declared.action.Reply.TheVariants.{Done}
use Rattle.nm_view.specs.declared.view.Owned.{Owned}
use Rattle.nm_view.specs.Lists.{find, first, Once}
use Rattle.nm_view.specs.Views.{Op, View}
use Rattle.nm_view.specs.Operations.{page_of, op_on, IsLookedMapped}
use Rattle.nm_event.specs.After.{after_of, spoiled}
use Rattle.nm_mappings.specs.declared.visits.Visit.TheVariants as visits
use Rattle.nm_mappings.specs.Visits.{visited}
use Rattle.nm_mappings.proofs.Operations.{visited-look}
use Rattle.nm_prepare.proofs.Lists.{find-last, edit-last, erase-last}
use Rattle.nm_looks.specs.Seeing.{seen_view}
use Rattle.nm_cool.specs.Stages.{cold_op, cold_view}

-- its operation is the one on the page
pub cold-on : (page : ℕ) (looked : List (ℕ × ℕ)) (view : View) → op_on view page ≡ None → op_on (cold_view page looked view) page ≡ Some (cold_op page view.room.aliases looked)
cold-on page looked view fresh = find-last page_of page (cold_op page view.room.aliases looked) view.ops fresh refl

-- what is known of it is known of the operation on the page
pub cold-some : (page : ℕ) (looked : List (ℕ × ℕ)) (view now : View) (P : Op → Type 0) → op_on view page ≡ None → now ≡ cold_view page looked view → P (cold_op page view.room.aliases looked) → IsSomeAnd (op_on now page) P
cold-some page looked view now P fresh is h =
    subst (λ (v : View). IsSomeAnd (op_on v page) P) (sym is) (subst (λ (x : Option Op). IsSomeAnd x P) (sym (cold-on page looked view fresh)) h)

-- after Looks
pub cold-seen : (page : ℕ) (told : List (ℕ × ℕ)) (view : View) → op_on view page ≡ None → Once first told → seen_view page told (cold_view page [] view) ≡ cold_view page told view
cold-seen page told view fresh once =
    let o : Op = cold_op page view.room.aliases [] in
    ap (λ (l : List Op). record view { ops = l }) (edit-last page_of page (visited visits.Look told) o view.ops fresh refl)
    ∙ ap (λ (x : Op). record view { ops = view.ops ++ x ∷ [] }) (visited-look told o once)

abbrev with_ops : List Op → List Owned → View → View
with_ops ops owned view = record view { ops = ops; owned = owned }

-- after the Unlock
pub cold-unlocked : (g : Geometry) (page : ℕ) (looked : List (ℕ × ℕ)) (view : View) → op_on view page ≡ None → after_of g (cold_view page looked view) (Unlock page) Done ≡ record view { owned = spoiled page view.owned }
cold-unlocked g page looked view fresh =
    ap (λ (l : List Op). with_ops l (spoiled page view.owned) view) (erase-last page_of page (cold_op page view.room.aliases looked) view.ops fresh refl)

-- the virtual pages that were looked at as not 0 may be armed, since none is taken
pub looked-each : (pages : List ℕ) (looked : List (ℕ × ℕ)) → All (λ v. IsSomeAnd (find first v looked) (λ p. p.1 ≢ 0)) pages → All (λ v. IsLookedMapped looked [] v) pages
looked-each pages looked h = λ i d lt. record { looked = h i d lt; there = refl }
