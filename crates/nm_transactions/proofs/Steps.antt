-- An open transaction stays open at each step but its last.
use Rattle.std.proofs.Common.{◌≡◌, ◌≢◌, ℕ, ◌+◌, Bool, true, false, List, [], ◌∷◌, ◌++◌, Some, refl, sym, ap, subst, ◌∙◌, inl, inr, arith, append_assoc}
use Rattle.std.specs.Int.{bit_at}
use Rattle.std.proofs.lemmas.Bool.{cases_eq, or_left}
use Rattle.std.proofs.lemmas.Nat.Bits.{bit_at-zero}
use Rattle.nm_base.specs.Geometry.{Geometry, IsGeometry, backing_page}
use Rattle.nm_base.specs.PageWord.{is_dirty}
use Rattle.nm_action.specs.declared.action.Action.{Action}
use Rattle.nm_action.specs.declared.action.Action.TheVariants.{Bump, SeeAck, Unmap}
use Rattle.nm_action.specs.declared.action.Reply.TheVariants.{Word}
use Rattle.nm_action.specs.declared.action.Event.{Event}
use Rattle.nm_view.specs.declared.view.Phase.{Phase}
use Rattle.nm_view.specs.declared.view.Phase.TheVariants.{Cleared, Taken}
use Rattle.nm_view.specs.Views.{Op}
use Rattle.nm_view.proofs.Items.{all_join, none_left}
use Rattle.nm_permit.specs.Permitted.{MayUnmap, IsTakingPhase}
use Rattle.nm_view.specs.Operations.{IsFlushEnded}
use Rattle.nm_words.specs.declared.names.Where.TheVariants as words
use Rattle.nm_event.specs.After.{edit_under, bumped_to, seen_at, taken_at}
use Rattle.nm_world.specs.Worlds.{World, moved, op_at, pte_at, reply_in}
use Rattle.nm_world.specs.Laws.{AreAll, IsReady}
use Rattle.nm_transactions.specs.TransactionLaw.{replied, IsSetOrMap}
use Rattle.nm_transactions.proofs.Flushes.{IsNotBy, ShowsFlush, flush_left, flush_bump, flush_see, ended_shown, ended_known}
use Rattle.nm_transactions.proofs.Tables.{IsCarriedOn, TellsWalks, LeavesWord, walks_dirty, walks_more, table_moved}
use Rattle.nm_transactions.proofs.Courses.{Course, HasCourse, LeavesCourse, course_of, course_own, op_other, op_each, op_edited}
use Rattle.nm_transactions.proofs.Open.{IsCleared, IsTakenOut, IsOpen, stores_more}
use Rattle.nm_transactions.proofs.Stores.{NamesAlone, names_cleared, names_taken, store_cleared, store_taken}
use Rattle.nm_transactions.proofs.Own.{OwnStep, Leaves, Bumps, Sees, Takes, under_own, word_others, word_own, no_unmap, no_bump, no_see, taken_again, own_cleared, own_taken}

-- the event of an action of actor c
abbrev pub event_in : Geometry → World → ℕ → Action → Event
event_in g m c action = replied c action (reply_in g m c action)

pub some_word : (word : ℕ) → bit_at word 0 ≡ 1 → word ≢ 0
some_word word one zero = omega (arith, one, ap (λ n. bit_at n 0) zero ∙ bit_at-zero 0)

-- v is named before Unmap, and after it

pub names_before : (g : Geometry) (m : World) (a v b : ℕ) (events : List Event) → IsGeometry g → AreAll g m → backing_page g v ≡ Some b → (h : IsCleared g m a v b events) → NamesAlone g m b v h.op
names_before g m a v b events is all of h = names_cleared g m a b v h.op is all h.here of h.phase h.taken (some_word (pte_at m v) h.present)

pub names_after : (g : Geometry) (m : World) (a v b : ℕ) (events : List Event) → IsGeometry g → AreAll g m → (h : IsTakenOut g m a v b events) → NamesAlone g m b v h.op
names_after g m a v b events is all h = names_taken g m a b v h.word h.op is all h.here h.cleared h.unmoved h.taken

-- an operation after a step, in phase Cleared with nothing taken
record GoesOnCleared (g : Geometry) (m' : World) (a b : ℕ) (events : List Event) : Type 0 where
  op : Op
  here : op_at m' a b ≡ Some op
  phase : op.phase ≡ Cleared
  cleared : op.cleared ≡ true
  taken : op.taken ≡ []
  flush : ShowsFlush a events op.due op.flush op.seen

cleared_more : (g : Geometry) (m : World) (a v b c : ℕ) (events : List Event) (action : Action) → IsGeometry g → AreAll g m → IsReady g m c action → backing_page g v ≡ Some b → IsCleared g m a v b events → LeavesWord v action → IsNotBy a (Unmap v) (event_in g m c action) → GoesOnCleared g (moved g m c action) a b (events ++ event_in g m c action ∷ []) → IsCleared g (moved g m c action) a v b (events ++ event_in g m c action ∷ [])
cleared_more g m a v b c events action is all r of h leaves not on =
    let e : Event = event_in g m c action in
    let walk : Bool = walks_dirty v action (reply_in g m c action) in
    let table : IsCarriedOn (pte_at m v) (pte_at (moved g m c action) v) walk = table_moved g m c action v leaves in
    let dirty : is_dirty (pte_at m v) ≡ true → is_dirty (pte_at (moved g m c action) v) ≡ true = λ set. table.dirty ∙ or_left (is_dirty (pte_at m v)) walk set in
    record {
      op = on.op;
      here = on.here;
      phase = on.phase;
      cleared = on.cleared;
      taken = on.taken;
      present = table.present h.present;
      none = all_join (IsNotBy a (Unmap v)) events e h.none not;
      flush = on.flush;
      walks = subst (TellsWalks v (events ++ e ∷ [])) (sym table.dirty) (walks_more v events e (is_dirty (pte_at m v)) h.walks);
      stores = stores_more g a b events e (is_dirty (pte_at m v)) (is_dirty (pte_at (moved g m c action) v)) dirty
          (λ ended stores. dirty (store_cleared g m a b v c h.op action all h.here (names_before g m a v b events is all of h) h.phase h.taken
          (ended_shown g a events h.op.due h.op.flush h.op.seen h.flush ended) stores r.allowed.permitted)) h.stores;
    }

-- an operation after a step, that has taken the word of v
record GoesOnTaken (g : Geometry) (m' : World) (a v b word : ℕ) : Type 0 where
  op : Op
  here : op_at m' a b ≡ Some op
  phase : op.phase ≡ Taken
  cleared : op.cleared ≡ true
  unmoved : op.moved ≡ false
  taken : op.taken ≡ (v, word) ∷ []

taken_more : (g : Geometry) (m : World) (a v b c : ℕ) (events : List Event) (action : Action) → IsGeometry g → AreAll g m → IsReady g m c action → (h : IsTakenOut g m a v b events) → IsNotBy a (Unmap v) (event_in g m c action) → GoesOnTaken g (moved g m c action) a v b h.word → IsTakenOut g (moved g m c action) a v b (events ++ event_in g m c action ∷ [])
taken_more g m a v b c events action is all r h not on =
    let e : Event = event_in g m c action in
    record {
      op = on.op;
      here = on.here;
      phase = on.phase;
      cleared = on.cleared;
      unmoved = on.unmoved;
      before = h.before;
      word = h.word;
      after = h.after ++ e ∷ [];
      taken = on.taken;
      list = ap (λ es. es ++ e ∷ []) h.list ∙ append_assoc h.before (replied a (Unmap v) (Word h.word) ∷ h.after) (e ∷ []);
      none_before = h.none_before;
      none_after = all_join (IsNotBy a (Unmap v)) h.after e h.none_after not;
      flushed = h.flushed;
      walks = h.walks;
      stores = stores_more g a b events e (is_dirty h.word) (is_dirty h.word) (λ set. set)
          (λ ended stores. store_taken g m a b v h.word c h.op action all h.here (names_after g m a v b events is all h) h.phase h.taken stores r.allowed.permitted) h.stores;
    }

-- A step of another actor.

cleared_other : (g : Geometry) (m : World) (a v b c : ℕ) (events : List Event) (action : Action) → IsGeometry g → AreAll g m → IsReady g m c action → backing_page g v ≡ Some b → a ≢ c → IsCleared g m a v b events → IsCleared g (moved g m c action) a v b (events ++ event_in g m c action ∷ [])
cleared_other g m a v b c events action is all r of other h =
    cleared_more g m a v b c events action is all r of h (word_others g m a b v c h.op action all.locks h.here of other r.allowed.permitted) (λ by. other (sym by.actor))
    (record {
      op = h.op;
      here = op_other g m c action a b other ∙ h.here;
      phase = h.phase;
      cleared = h.cleared;
      taken = h.taken;
      flush = flush_left a events (event_in g m c action) h.op.due h.op.flush h.op.seen (λ by. other (sym by.actor)) (λ p by. other (sym by.actor)) h.flush;
    })

taken_other : (g : Geometry) (m : World) (a v b c : ℕ) (events : List Event) (action : Action) → IsGeometry g → AreAll g m → IsReady g m c action → a ≢ c → IsTakenOut g m a v b events → IsTakenOut g (moved g m c action) a v b (events ++ event_in g m c action ∷ [])
taken_other g m a v b c events action is all r other h =
    taken_more g m a v b c events action is all r h (λ by. other (sym by.actor))
    (record { op = h.op; here = op_other g m c action a b other ∙ h.here; phase = h.phase; cleared = h.cleared; unmoved = h.unmoved; taken = h.taken })

-- An own step that leaves the course.

cleared_left : (g : Geometry) (m : World) (a v b : ℕ) (events : List Event) (action : Action) → IsGeometry g → AreAll g m → IsReady g m a action → backing_page g v ≡ Some b → LeavesCourse g b action → IsCleared g m a v b events → IsCleared g (moved g m a action) a v b (events ++ event_in g m a action ∷ [])
cleared_left g m a v b events action is all r of leaves h =
    let e : Event = event_in g m a action in
    let x : HasCourse (op_at (moved g m a action) a b) (course_of h.op) = course_own g m a action b h.op leaves h.here in
    let Flush : Course → Type 0 = λ k. ShowsFlush a (events ++ e ∷ []) k.due k.flush k.seen in
    let flush = flush_left a events e h.op.due h.op.flush h.op.seen (no_bump g a b a action (reply_in g m a action) leaves) (no_see g a b a action (reply_in g m a action) leaves) h.flush in
    cleared_more g m a v b a events action is all r of h (word_own g b v action of leaves) (no_unmap g a b v a action (reply_in g m a action) of leaves)
    (record {
      op = x.op;
      here = x.here;
      phase = ap (λ k. k.phase) x.same ∙ h.phase;
      cleared = ap (λ k. k.cleared) x.same ∙ h.cleared;
      taken = ap (λ k. k.taken) x.same ∙ h.taken;
      flush = subst Flush (sym x.same) flush;
    })

taken_left : (g : Geometry) (m : World) (a v b : ℕ) (events : List Event) (action : Action) → IsGeometry g → AreAll g m → IsReady g m a action → backing_page g v ≡ Some b → LeavesCourse g b action → IsTakenOut g m a v b events → IsTakenOut g (moved g m a action) a v b (events ++ event_in g m a action ∷ [])
taken_left g m a v b events action is all r of leaves h =
    let x : HasCourse (op_at (moved g m a action) a b) (course_of h.op) = course_own g m a action b h.op leaves h.here in
    taken_more g m a v b a events action is all r h (no_unmap g a b v a action (reply_in g m a action) of leaves)
    (record {
      op = x.op;
      here = x.here;
      phase = ap (λ k. k.phase) x.same ∙ h.phase;
      cleared = ap (λ k. k.cleared) x.same ∙ h.cleared;
      unmoved = ap (λ k. k.moved) x.same ∙ h.unmoved;
      taken = ap (λ k. k.taken) x.same ∙ h.taken;
    })

-- An own Bump, and an own SeeAck.

bump_apart : (a v : ℕ) (e : Event) → e.action ≡ Bump → IsNotBy a (Unmap v) e
bump_apart a v e is by = let both : Bump ≡ Unmap v = sym is ∙ by.made in cc

see_apart : (a v p : ℕ) (e : Event) → e.action ≡ SeeAck p → IsNotBy a (Unmap v) e
see_apart a v p e is by = let both : SeeAck p ≡ Unmap v = sym is ∙ by.made in cc

cleared_bump : (g : Geometry) (m : World) (a v b : ℕ) (events : List Event) → IsGeometry g → AreAll g m → IsReady g m a Bump → backing_page g v ≡ Some b → IsCleared g m a v b events → IsCleared g (moved g m a Bump) a v b (events ++ event_in g m a Bump ∷ [])
cleared_bump g m a v b events is all r of h =
    let n : ℕ = m.word words.Req in
    cleared_more g m a v b a events Bump is all r of h tt (bump_apart a v (event_in g m a Bump) refl)
    (record {
      op = bumped_to (n + 1) h.op;
      here = op_each g m a Bump b (bumped_to (n + 1)) h.op (λ o. refl) refl h.here;
      phase = h.phase;
      cleared = h.cleared;
      taken = h.taken;
      flush = flush_bump a events n h.op.due h.op.flush h.op.seen h.flush;
    })

taken_bump : (g : Geometry) (m : World) (a v b : ℕ) (events : List Event) → IsGeometry g → AreAll g m → IsReady g m a Bump → IsTakenOut g m a v b events → IsTakenOut g (moved g m a Bump) a v b (events ++ event_in g m a Bump ∷ [])
taken_bump g m a v b events is all r h =
    let n : ℕ = m.word words.Req in
    taken_more g m a v b a events Bump is all r h (bump_apart a v (event_in g m a Bump) refl)
    (record { op = bumped_to (n + 1) h.op; here = op_each g m a Bump b (bumped_to (n + 1)) h.op (λ o. refl) refl h.here; phase = h.phase; cleared = h.cleared; unmoved = h.unmoved; taken = h.taken })

cleared_see : (g : Geometry) (m : World) (a v b p : ℕ) (events : List Event) → IsGeometry g → AreAll g m → IsReady g m a (SeeAck p) → backing_page g v ≡ Some b → IsCleared g m a v b events → IsCleared g (moved g m a (SeeAck p)) a v b (events ++ event_in g m a (SeeAck p) ∷ [])
cleared_see g m a v b p events is all r of h =
    let n : ℕ = m.word (words.Ack p) in
    cleared_more g m a v b a events (SeeAck p) is all r of h tt (see_apart a v p (event_in g m a (SeeAck p)) refl)
    (record {
      op = seen_at p n h.op;
      here = op_each g m a (SeeAck p) b (seen_at p n) h.op (λ o. refl) refl h.here;
      phase = h.phase;
      cleared = h.cleared;
      taken = h.taken;
      flush = flush_see a events p n h.op.due h.op.flush h.op.seen h.flush;
    })

taken_see : (g : Geometry) (m : World) (a v b p : ℕ) (events : List Event) → IsGeometry g → AreAll g m → IsReady g m a (SeeAck p) → IsTakenOut g m a v b events → IsTakenOut g (moved g m a (SeeAck p)) a v b (events ++ event_in g m a (SeeAck p) ∷ [])
taken_see g m a v b p events is all r h =
    let n : ℕ = m.word (words.Ack p) in
    taken_more g m a v b a events (SeeAck p) is all r h (see_apart a v p (event_in g m a (SeeAck p)) refl)
    (record { op = seen_at p n h.op; here = op_each g m a (SeeAck p) b (seen_at p n) h.op (λ o. refl) refl h.here; phase = h.phase; cleared = h.cleared; unmoved = h.unmoved; taken = h.taken })

-- The Unmap.

taking_cleared : (g : Geometry) (o : Op) (phase : Phase) → phase ≡ Cleared → IsTakingPhase g o phase → IsFlushEnded g o
taking_cleared g o phase is may = subst (IsTakingPhase g o) is may

cleared_unmap : (g : Geometry) (m : World) (a v b : ℕ) (events : List Event) → IsReady g m a (Unmap v) → backing_page g v ≡ Some b → IsCleared g m a v b events → IsTakenOut g (moved g m a (Unmap v)) a v b (events ++ event_in g m a (Unmap v) ∷ [])
cleared_unmap g m a v b events r of h =
    let n : ℕ = pte_at m v in
    let e : Event = event_in g m a (Unmap v) in
    let may : MayUnmap g v h.op = under_own g (m.view a) v b h.op (MayUnmap g v) h.here r.allowed.permitted of in
    let ended : IsFlushEnded g h.op = taking_cleared g h.op h.op.phase h.phase may.phase in
    record {
      op = taken_at v n h.op;
      here = op_edited g m a (Unmap v) b (taken_at v n) h.op (λ o. refl) (ap (λ p. edit_under p (taken_at v n) (m.view a).ops) of) h.here;
      phase = refl;
      cleared = h.cleared;
      unmoved = may.unmoved;
      before = events;
      word = n;
      after = [];
      taken = ap (λ (t : List (ℕ × ℕ)). t ++ (v, n) ∷ []) h.taken;
      list = refl;
      none_before = h.none;
      none_after = none_left (IsNotBy a (Unmap v));
      flushed = ended_known g a events h.op.due h.op.flush h.op.seen h.flush (record { made = ended.made; seen_all = ended.seen });
      walks = h.walks;
      stores = stores_more g a b events e (is_dirty n) (is_dirty n) (λ set. set) (λ _ stores. absurd stores) h.stores;
    }

-- Each step.

cleared_own : (g : Geometry) (m : World) (a v b : ℕ) (events : List Event) (action : Action) → IsGeometry g → AreAll g m → IsReady g m a action → backing_page g v ≡ Some b → IsCleared g m a v b events → OwnStep g b v action → IsOpen g (moved g m a action) a v b (events ++ event_in g m a action ∷ [])
cleared_own g m a v b events action is all r of h (Leaves leaves) = inl (cleared_left g m a v b events action is all r of leaves h)
cleared_own g m a v b events action is all r of h (Bumps same) =
    let Next : Action → Type 0 = λ x. IsReady g m a x → IsOpen g (moved g m a x) a v b (events ++ event_in g m a x ∷ []) in
    subst Next (sym same) (λ q. inl (cleared_bump g m a v b events is all q of h)) r
cleared_own g m a v b events action is all r of h (Sees p same) =
    let Next : Action → Type 0 = λ x. IsReady g m a x → IsOpen g (moved g m a x) a v b (events ++ event_in g m a x ∷ []) in
    subst Next (sym same) (λ q. inl (cleared_see g m a v b p events is all q of h)) r
cleared_own g m a v b events action is all r of h (Takes same) =
    let Next : Action → Type 0 = λ x. IsReady g m a x → IsOpen g (moved g m a x) a v b (events ++ event_in g m a x ∷ []) in
    subst Next (sym same) (λ q. inr (cleared_unmap g m a v b events q of h)) r

taken_own : (g : Geometry) (m : World) (a v b : ℕ) (events : List Event) (action : Action) → IsGeometry g → AreAll g m → IsReady g m a action → backing_page g v ≡ Some b → IsTakenOut g m a v b events → OwnStep g b v action → IsTakenOut g (moved g m a action) a v b (events ++ event_in g m a action ∷ [])
taken_own g m a v b events action is all r of h (Leaves leaves) = taken_left g m a v b events action is all r of leaves h
taken_own g m a v b events action is all r of h (Bumps same) =
    let Next : Action → Type 0 = λ x. IsReady g m a x → IsTakenOut g (moved g m a x) a v b (events ++ event_in g m a x ∷ []) in
    subst Next (sym same) (λ q. taken_bump g m a v b events is all q h) r
taken_own g m a v b events action is all r of h (Sees p same) =
    let Next : Action → Type 0 = λ x. IsReady g m a x → IsTakenOut g (moved g m a x) a v b (events ++ event_in g m a x ∷ []) in
    subst Next (sym same) (λ q. taken_see g m a v b p events is all q h) r
taken_own g m a v b events action is all r of h (Takes same) =
    let off : h.op.cleared ≡ false = taken_again g (m.view a) v b h.op action h.here h.phase of same r.allowed.permitted in
    let on : h.op.cleared ≡ true = h.cleared in
    absurd cc

open_own : (g : Geometry) (m : World) (a v b : ℕ) (events : List Event) (action : Action) → IsGeometry g → AreAll g m → backing_page g v ≡ Some b → IsOpen g m a v b events → IsReady g m a action → ¬ IsSetOrMap g a b (event_in g m a action) → IsOpen g (moved g m a action) a v b (events ++ event_in g m a action ∷ [])
open_own g m a v b events action is all of (inl h) r not =
    cleared_own g m a v b events action is all r of h
    (own_cleared g m a b v h.op action (reply_in g m a action) h.here h.phase (names_before g m a v b events is all of h).alone r.allowed.permitted not)
open_own g m a v b events action is all of (inr h) r not =
    inr (taken_own g m a v b events action is all r of h
    (own_taken g m a b v h.word h.op action (reply_in g m a action) h.here h.phase h.cleared h.taken r.allowed.permitted not))

-- an open transaction stays open at each step that is no SetHome and no Map of its actor on its page
pub open_moved : (g : Geometry) (m : World) (a v b c : ℕ) (events : List Event) (action : Action) → IsGeometry g → AreAll g m → IsReady g m c action → backing_page g v ≡ Some b → ¬ IsSetOrMap g a b (event_in g m c action) → IsOpen g m a v b events → IsOpen g (moved g m c action) a v b (events ++ event_in g m c action ∷ [])
open_moved g m a v b c events action is all r of not begun = elim (cases_eq a c) [
  | inl same ↦
      let Next : ℕ → Type 0 = λ k. IsReady g m k action → ¬ IsSetOrMap g a b (event_in g m k action) → IsOpen g (moved g m k action) a v b (events ++ event_in g m k action ∷ []) in
      subst Next same (open_own g m a v b events action is all of begun) r not
  | inr other ↦ elim begun [
    | inl h ↦ inl (cleared_other g m a v b c events action is all r of other h)
    | inr h ↦ inr (taken_other g m a v b c events action is all r other h)
  ]
]
