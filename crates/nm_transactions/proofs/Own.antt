-- What the actor of an open transaction may do: its operation on the page, and which of its actions leave how far it has come.
use Rattle.std.proofs.Common.{◌≡◌, ◌≢◌, ℕ, true, false, List, [], ◌∷◌, Some, None, IsSomeAnd, refl, sym, ap, subst, ◌∙◌, inl, inr}
use Rattle.std.proofs.lemmas.Bool.{cases_eq}
use Rattle.nm_base.specs.Geometry.{Geometry, backing_page}
use Rattle.nm_action.specs.declared.action.Action.{Action}
use Rattle.nm_action.specs.declared.action.Action.TheVariants.{Lock, Unlock, Bump, SeeAck, ClearDirty, Unmap, Map, SetHome}
use Rattle.nm_action.specs.declared.action.Reply.{Reply}
use Rattle.nm_view.specs.declared.view.Phase.{Phase}
use Rattle.nm_view.specs.declared.view.Phase.TheVariants.{Held, Cleared, Taken}
use Rattle.nm_view.specs.Views.{Op, View}
use Rattle.nm_view.specs.Operations.{op_on, op_of}
use Rattle.nm_view.proofs.Items.{some_same, not_none}
use Rattle.nm_permit.specs.Permitted.{Permitted, IsTakingPhase, MayUnlock, MayClear, MayUnmap}
use Rattle.nm_world.specs.Worlds.{World, op_at}
use Rattle.nm_world.specs.LockLaw.{LockLaw}
use Rattle.nm_world.specs.Notions.{IsAloneAt}
use Rattle.nm_world.proofs.Moves.{on_page, sole_op}
use Rattle.nm_world.proofs.Options.{some_and}
use Rattle.nm_locks.proofs.Items.{looked_one}
use Rattle.nm_transactions.specs.TransactionLaw.{replied, SetsOrMaps, IsSetOrMap}
use Rattle.nm_transactions.proofs.Flushes.{IsNotBy}
use Rattle.nm_transactions.proofs.Tables.{LeavesWord}
use Rattle.nm_transactions.proofs.Courses.{LeavesCourse}

-- what is permitted of an operation on b is permitted of this one
pub on_own : (view : View) (c b : ℕ) (o : Op) (P : Op → Type 0) → op_on view b ≡ Some o → IsSomeAnd (op_on view c) P → c ≡ b → P o
on_own view c b o P here may same =
    let q = some_and (op_on view c) P may in
    let is : q.0 ≡ o = some_same q.0 o (sym q.1.0 ∙ ap (op_on view) same ∙ here) in
    subst P is q.1.1

-- the same, of the operation on the page of u
pub under_own : (g : Geometry) (view : View) (u b : ℕ) (o : Op) (P : Op → Type 0) → op_on view b ≡ Some o → IsSomeAnd (op_of g view u) P → backing_page g u ≡ Some b → P o
under_own g view u b o P here may of =
    let on = on_page g view u P may in
    let page : on.page ≡ b = some_same on.page b (sym on.of ∙ of) in
    let is : on.op ≡ o = some_same on.op o (sym on.here ∙ ap (op_on view) page ∙ here) in
    subst P is on.may

-- nobody else changes a word of v in the way of an operation
others_apart : (g : Geometry) (m : World) (a b v c u : ℕ) (o : Op) (P : Op → Type 0) → LockLaw g m → op_at m a b ≡ Some o → backing_page g v ≡ Some b → a ≢ c → IsSomeAnd (op_of g (m.view c) u) P → u ≢ v
others_apart g m a b v c u o P locks here of other may same =
    let on = on_page g (m.view c) u P may in
    let page : on.page ≡ b = some_same on.page b (sym on.of ∙ ap (backing_page g) same ∙ of) in
    let there : op_at m c b ≡ Some on.op = subst (λ (k : ℕ). op_at m c k ≡ Some on.op) page on.here in
    other (sym (sole_op g m a b o locks here c on.op there))

pub word_others : (g : Geometry) (m : World) (a b v c : ℕ) (o : Op) (action : Action) → LockLaw g m → op_at m a b ≡ Some o → backing_page g v ≡ Some b → a ≢ c → Permitted g (m.view c) action → LeavesWord v action
word_others g m a b v c o (ClearDirty u) locks here of other may = others_apart g m a b v c u o _ locks here of other may
word_others g m a b v c o (Unmap u) locks here of other may = others_apart g m a b v c u o _ locks here of other may
word_others g m a b v c o (Map u word) locks here of other may = others_apart g m a b v c u o _ locks here of other may
word_others g m a b v c o action locks here of other may = tt

-- an action that leaves the course of the operation on b leaves the words of b, and is none of those that change it
pub word_own : (g : Geometry) (b v : ℕ) (action : Action) → backing_page g v ≡ Some b → LeavesCourse g b action → LeavesWord v action
word_own g b v (ClearDirty u) of h = λ same. h (ap (backing_page g) same ∙ of)
word_own g b v (Unmap u) of h = λ same. h (ap (backing_page g) same ∙ of)
word_own g b v (Map u word) of h = λ same. h (ap (backing_page g) same ∙ of)
word_own g b v action of h = tt

pub no_unmap : (g : Geometry) (a b v c : ℕ) (action : Action) (reply : Reply) → backing_page g v ≡ Some b → LeavesCourse g b action → IsNotBy a (Unmap v) (replied c action reply)
no_unmap g a b v c action reply of h is = subst (LeavesCourse g b) is.made h of

pub no_bump : (g : Geometry) (a b c : ℕ) (action : Action) (reply : Reply) → LeavesCourse g b action → IsNotBy a Bump (replied c action reply)
no_bump g a b c action reply h is = subst (LeavesCourse g b) is.made h

pub no_see : (g : Geometry) (a b c : ℕ) (action : Action) (reply : Reply) → LeavesCourse g b action → (p : ℕ) → IsNotBy a (SeeAck p) (replied c action reply)
no_see g a b c action reply h p is = subst (LeavesCourse g b) is.made h

-- what an actor's own action is to its open transaction
pub data OwnStep (g : Geometry) (b v : ℕ) (action : Action) : Type 0 where
  Leaves : (h : LeavesCourse g b action) → OwnStep g b v action
  Bumps : (is : action ≡ Bump) → OwnStep g b v action
  Sees : (p : ℕ) (is : action ≡ SeeAck p) → OwnStep g b v action
  Takes : (is : action ≡ Unmap v) → OwnStep g b v action

not_on_page : (g : Geometry) (a b : ℕ) (action : Action) (reply : Reply) → ¬ IsSetOrMap g a b (replied a action reply) → ¬ SetsOrMaps g b action
not_on_page g a b action reply not h = not (record { actor = refl; acts = h })

fresh_apart : (view : View) (c b : ℕ) (o : Op) → op_on view b ≡ Some o → op_on view c ≡ None → c ≢ b
fresh_apart view c b o here none same = not_none o (sym none ∙ ap (op_on view) same ∙ here)

cleared_held : (phase : Phase) → phase ≡ Cleared → phase ≡ Held → ⊥
cleared_held phase is held = let both : Cleared ≡ Held = sym is ∙ held in cc

taken_held : (phase : Phase) → phase ≡ Taken → phase ≡ Held → ⊥
taken_held phase is held = let both : Taken ≡ Held = sym is ∙ held in cc

-- an Unmap of u where v alone is looked at as not 0: it is on another page, or of v
unmap_one : (g : Geometry) (view : View) (b v u : ℕ) (o : Op) → op_on view b ≡ Some o → IsAloneAt o.looked o.taken v → IsSomeAnd (op_of g view u) (MayUnmap g u) → OwnStep g b v (Unmap u)
unmap_one g view b v u o here alone may =
    let on = on_page g view u (MayUnmap g u) may in
    elim (cases_eq on.page b) [
      | inl page ↦ let m : MayUnmap g u o = under_own g view u b o (MayUnmap g u) here may (on.of ∙ ap Some page) in
          Takes (ap Unmap (looked_one o.looked o.taken u v alone m.mapped.looked))
      | inr other ↦ Leaves (λ of. other (some_same on.page b (sym on.of ∙ of)))
    ]

-- in phase Cleared
pub own_cleared : (g : Geometry) (m : World) (a b v : ℕ) (o : Op) (action : Action) (reply : Reply) → op_at m a b ≡ Some o → o.phase ≡ Cleared → IsAloneAt o.looked o.taken v → Permitted g (m.view a) action → ¬ IsSetOrMap g a b (replied a action reply) → OwnStep g b v action
own_cleared g m a b v o (Lock c) reply here phase alone may not = Leaves (fresh_apart (m.view a) c b o here may.fresh)
own_cleared g m a b v o (Unlock c) reply here phase alone may not = Leaves (λ same. (on_own (m.view a) c b o (MayUnlock g) here may same).phase phase)
own_cleared g m a b v o Bump reply here phase alone may not = Bumps refl
own_cleared g m a b v o (SeeAck p) reply here phase alone may not = Sees p refl
own_cleared g m a b v o (ClearDirty u) reply here phase alone may not = Leaves (λ of. cleared_held o.phase phase (under_own g (m.view a) u b o (MayClear g u) here may of).phase)
own_cleared g m a b v o (Unmap u) reply here phase alone may not = unmap_one g (m.view a) b v u o here alone may
own_cleared g m a b v o (Map u word) reply here phase alone may not = Leaves (not_on_page g a b (Map u word) reply not)
own_cleared g m a b v o (SetHome c f) reply here phase alone may not = Leaves (not_on_page g a b (SetHome c f) reply not)
own_cleared g m a b v o action reply here phase alone may not = Leaves tt

-- a word may be taken in phase Taken only where nothing was cleared
taking_taken : (g : Geometry) (o : Op) (phase : Phase) → phase ≡ Taken → IsTakingPhase g o phase → o.cleared ≡ false
taking_taken g o phase is may = subst (IsTakingPhase g o) is may

pub taken_again : (g : Geometry) (view : View) (v b : ℕ) (o : Op) (action : Action) → op_on view b ≡ Some o → o.phase ≡ Taken → backing_page g v ≡ Some b → action ≡ Unmap v → Permitted g view action → o.cleared ≡ false
taken_again g view v b o action here phase of same may =
    let unmap : Permitted g view (Unmap v) = subst (Permitted g view) same may in
    taking_taken g o o.phase phase (under_own g view v b o (MayUnmap g v) here unmap of).phase

some_taken : (taken : List (ℕ × ℕ)) (p : ℕ × ℕ) → taken ≡ p ∷ [] → taken ≡ [] → ⊥
some_taken taken p is none = let both : p ∷ [] ≡ [] = sym is ∙ none in cc

-- after Unmap
pub own_taken : (g : Geometry) (m : World) (a b v word : ℕ) (o : Op) (action : Action) (reply : Reply) → op_at m a b ≡ Some o → o.phase ≡ Taken → o.cleared ≡ true → o.taken ≡ (v, word) ∷ [] → Permitted g (m.view a) action → ¬ IsSetOrMap g a b (replied a action reply) → OwnStep g b v action
own_taken g m a b v word o (Lock c) reply here phase cleared taken may not = Leaves (fresh_apart (m.view a) c b o here may.fresh)
own_taken g m a b v word o (Unlock c) reply here phase cleared taken may not = Leaves (λ same. some_taken o.taken (v, word) taken (on_own (m.view a) c b o (MayUnlock g) here may same).back)
own_taken g m a b v word o Bump reply here phase cleared taken may not = Bumps refl
own_taken g m a b v word o (SeeAck p) reply here phase cleared taken may not = Sees p refl
own_taken g m a b v word o (ClearDirty u) reply here phase cleared taken may not = Leaves (λ of. taken_held o.phase phase (under_own g (m.view a) u b o (MayClear g u) here may of).phase)
own_taken g m a b v word o (Unmap u) reply here phase cleared taken may not =
    Leaves (λ of. let off : o.cleared ≡ false = taking_taken g o o.phase phase (under_own g (m.view a) u b o (MayUnmap g u) here may of).phase in cc)
own_taken g m a b v word o (Map u w) reply here phase cleared taken may not = Leaves (not_on_page g a b (Map u w) reply not)
own_taken g m a b v word o (SetHome c f) reply here phase cleared taken may not = Leaves (not_on_page g a b (SetHome c f) reply not)
own_taken g m a b v word o action reply here phase cleared taken may not = Leaves tt
