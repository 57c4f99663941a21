-- The step of a SetHome.
use Rattle.std.proofs.Common.{◌≡◌, ℕ, ◌⊎◌, Option, Some, None, IsSomeAnd, refl, sym, ap, subst, ◌∙◌, inl, inr}
use Rattle.nm_base.specs.Geometry.{Geometry}
use Rattle.nm_base.specs.HomeWord.{home_word}
use Rattle.nm_action.specs.declared.action.Reply.TheVariants.{Done}
use Rattle.nm_action.specs.declared.action.Action.TheVariants.{SetHome}
use Rattle.nm_words.specs.declared.names.Where.TheVariants as words
use Rattle.nm_view.specs.declared.view.Fill.{Fill}
use Rattle.nm_view.specs.Lists.{erase}
use Rattle.nm_view.specs.Views.{Op, View}
use Rattle.nm_view.specs.Operations.{page_of, owned_frame, fill_of, op_on, known_home}
use Rattle.nm_view.proofs.Items.{all_find}
use Rattle.nm_permit.specs.Permitted.{MaySetHome, HasNewHome}
use Rattle.nm_event.specs.After.{after_of, homed_at, let_go}
use Rattle.nm_shape.specs.Shape.{IsOpShaped}
use Rattle.nm_world.specs.Worlds.{World, moved, viewing, written}
use Rattle.nm_world.specs.Sights.{Sight, sight_of, sight_at}
use Rattle.nm_world.specs.CopyLaw.{CopyLaw}
use Rattle.nm_world.specs.Laws.{IsReady}
use Rattle.nm_world.proofs.Choose.{choose}
use Rattle.nm_world.proofs.Writing.{edit_sets, word_writes}
use Rattle.nm_copies.specs.Facts.{CopyFacts}
use Rattle.nm_copies.proofs.Quiet.{entries_before}
use Rattle.nm_copies.proofs.Copying.{known_op}
use Rattle.nm_copies.proofs.Homes.{IsLetGo, IsReadyHome, let_go_from, erased_from, ready_demanded, ready_committed, ready_moved, law_homed}

known_fill : (P : Fill → Type 0) (found : Option Fill) → IsSomeAnd found P → (x : Fill) × ((found ≡ Some x) × P x)
known_fill P None h = absurd h
known_fill P (Some x) h = (x, (refl, h))

-- each of the new homes is ready
pub ready_home : (g : Geometry) (m : World) (a b f : ℕ) (o : Op) (x : Fill) → CopyFacts g (sight_of g m) → IsReady g m a (SetHome b f) → op_on (m.view a) b ≡ Some o → fill_of (m.view a) f ≡ Some x → HasNewHome g x o → CopyLaw g (sight_of g m) → IsReadyHome g (sight_of g m) b f o
ready_home g m a b f o x facts r here owned may h =
    let s : Sight = sight_of g m in
    let informed = facts.informed.informed a b o here in
    let shaped : IsOpShaped g o = all_find page_of b (IsOpShaped g) (m.view a).ops o (r.shaped.shape a r.actor).ops here in
    elim may [
      | inl demanded ↦ ready_demanded g s a b f o x here owned demanded informed facts.mapped facts.homes (facts.stages.held a b o here) shaped.some h
      | inr more ↦ elim more [
        | inl committed ↦ ready_committed g s a b f o x here owned committed informed facts.named facts.standing h
        | inr away ↦ ready_moved g s a b f o x here owned away informed facts.standing h
      ]
    ]

-- the fills of the new view: those that were there, and the old home's
home_fills : (g : Geometry) (m : World) (a b f : ℕ) (o : Op) (new : View) → CopyFacts g (sight_of g m) → IsReady g m a (SetHome b f) → op_on (m.view a) b ≡ Some o → new.owned ≡ let_go b (known_home (op_on (m.view a) b)) (erase owned_frame f (m.view a).owned) → (k : ℕ) (x : Fill) → fill_of new k ≡ Some x → (fill_of (m.view a) k ≡ Some x) ⊎ IsLetGo b (Some ((sight_of g m).home b)) k x
home_fills g m a b f o new facts r here owned k x is =
    let erased = erase owned_frame f (m.view a).owned in
    let known : new.owned ≡ let_go b o.home erased = owned ∙ ap (λ found. let_go b (known_home found) erased) here in
    elim (let_go_from b k x o.home erased (rw (sym known) is)) [
      | inl was ↦ inl (erased_from k f x (m.view a).owned (r.shaped.shape a r.actor).keyed.owned_once was)
      | inr old ↦ inr (record { word = old.word; known = ap Some (sym ((facts.informed.informed a b o here).home old.word old.known)); some = old.some; frame = old.frame; is = old.is })
    ]

-- the fills of every view
all_fills : (g : Geometry) (m : World) (a b : ℕ) (new : View) → ((k : ℕ) (x : Fill) → fill_of new k ≡ Some x → (fill_of (m.view a) k ≡ Some x) ⊎ IsLetGo b (Some ((sight_of g m).home b)) k x) → (c k : ℕ) (x : Fill) → fill_of (viewing a new m.view c) k ≡ Some x → (fill_of (m.view c) k ≡ Some x) ⊎ ((c ≡ a) × IsLetGo b (Some ((sight_of g m).home b)) k x)
all_fills g m a b new own c k x =
    choose (λ v. fill_of v k ≡ Some x → (fill_of (m.view c) k ≡ Some x) ⊎ ((c ≡ a) × IsLetGo b (Some ((sight_of g m).home b)) k x)) c a new (m.view c)
    (λ same is. elim (own k x is) [
      | inl was ↦ inl (subst (λ (i : ℕ). fill_of (m.view i) k ≡ Some x) (sym same) was)
      | inr old ↦ inr (same, old)
    ])
    (λ other is. inl is)

pub copies-set_home : (g : Geometry) (m : World) (a b f : ℕ) → CopyFacts g (sight_of g m) → IsReady g m a (SetHome b f) → CopyLaw g (sight_of g m) → CopyLaw g (sight_of g (moved g m a (SetHome b f)))
copies-set_home g m a b f facts r h =
    let view : View = m.view a in
    let new : View = after_of g view (SetHome b f) Done in
    let before : Sight = sight_of g m in
    let after : Sight = sight_at g (written (words.Home b) (home_word f) m.word) (viewing a new m.view) in
    let on = known_op (MaySetHome g (fill_of view f)) (op_on view b) r.allowed.permitted in
    let fill = known_fill (λ x. HasNewHome g x on.0) (fill_of view f) on.1.1 in
    law_homed g before after a b f on.0 facts.holders
    (edit_sets a b (homed_at f) on.0 new m.view (λ o. refl) refl on.1.0) on.1.0
    (word_writes before.home b (home_word f)) (λ v. refl) (λ k i. refl) (entries_before a new m.view (λ v e is. is))
    (all_fills g m a b new (home_fills g m a b f on.0 new facts r on.1.0 refl))
    (ready_home g m a b f on.0 fill.0 facts r on.1.0 fill.1.0 fill.1.1 h) h
