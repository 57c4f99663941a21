-- A Store or an Add to the page of an open transaction, once its flush ended, finds the word of v dirty.
use Rattle.std.proofs.Common.{◌≡◌, ◌≢◌, ℕ, Bool, true, false, List, [], ◌∷◌, Option, Some, None, IsSomeAnd, IsTrue, All, refl, sym, ap, subst, ◌∙◌, inl, inr, arith}
use Rattle.std.proofs.lemmas.Bool.{cases_eq, cases_Bool}
use Rattle.nm_base.specs.Geometry.{Geometry, IsGeometry, backing_page}
use Rattle.nm_base.specs.PageWord.{is_dirty}
use Rattle.nm_action.specs.declared.action.Action.{Action}
use Rattle.nm_action.specs.declared.action.Action.TheVariants.{Store, Add}
use Rattle.nm_view.specs.declared.view.CacheEntry.{CacheEntry}
use Rattle.nm_view.specs.declared.view.Phase.{Phase}
use Rattle.nm_view.specs.declared.view.Phase.TheVariants.{Cleared, Taken}
use Rattle.nm_view.specs.Lists.{find, first}
use Rattle.nm_view.specs.Views.{Op}
use Rattle.nm_view.specs.Operations.{cached_page, names_one, is_early, is_flush_ended, IsLookedOver, IsTaken}
use Rattle.nm_view.proofs.Items.{all_head, none_left, more}
use Rattle.nm_view.proofs.Known.{is-IsFlushEnded}
use Rattle.nm_permit.specs.Permitted.{Permitted}
use Rattle.nm_event.specs.Fitting.{Agrees}
use Rattle.nm_world.specs.Worlds.{World, op_at, pte_at}
use Rattle.nm_world.specs.Parts.{copier_of}
use Rattle.nm_world.specs.Sights.{sight_of}
use Rattle.nm_world.specs.Notions.{IsAloneAt, IsClean}
use Rattle.nm_world.specs.CopyLaw.{copy_sight, IsUnspoilt, OpCopies}
use Rattle.nm_world.specs.Laws.{AreAll}
use Rattle.nm_world.proofs.Options.{some_and}
use Rattle.nm_locks.proofs.Edits.{some_item}
use Rattle.nm_locks.proofs.Items.{is_some_of, looked_one, named_again}
use Rattle.nm_copies.specs.Facts.{IsInformed, CopyFacts}
use Rattle.nm_copies.proofs.Closing.{facts_hold}
use Rattle.nm_copies.proofs.Emptied.{if_at}
use Rattle.nm_transactions.specs.TransactionLaw.{StoresTo}
use Rattle.nm_transactions.proofs.Flushes.{IsEnded}

-- The one virtual page.

-- a word of b that maps a frame, and was not taken, was looked at as not 0
looked_some : (g : Geometry) (m : World) (b v : ℕ) (o : Op) → IsInformed g (sight_of g m) b o → IsLookedOver g o.page o.looked → backing_page g v ≡ Some b → find first v o.taken ≡ None → pte_at m v ≢ 0 → IsSomeAnd (find first v o.looked) (λ p. p.1 ≢ 0)
looked_some g m b v o informed over of none some =
    let p = some_item (find first v o.looked) (over v (of ∙ ap Some (sym informed.page))) in
    let agrees : Agrees p.0.1 (pte_at m v) = if_at (find first v o.looked) p.0 (λ q. Agrees q.1 (pte_at m v)) p.1 (informed.looked v of none) in
    subst (λ (x : Option (ℕ × ℕ)). IsSomeAnd x (λ q. q.1 ≢ 0)) (sym p.1) (λ zero. some (agrees.absent.0 zero))

-- every other table word of b is 0
zero_at : (g : Geometry) (m : World) (b v u : ℕ) (o : Op) (found : Option (ℕ × ℕ)) → find first u o.taken ≡ found → IsInformed g (sight_of g m) b o → IsLookedOver g o.page o.looked → IsAloneAt o.looked o.taken v → backing_page g u ≡ Some b → u ≢ v → pte_at m u ≡ 0
zero_at g m b v u o (Some p) is informed over alone of other = informed.taken u of (is_some_of (find first u o.taken) p is)
zero_at g m b v u o None is informed over alone of other = elim (cases_eq (pte_at m u) 0) [
  | inl zero ↦ zero
  | inr some ↦ absurd (other (looked_one o.looked o.taken u v alone (looked_some g m b u o informed over of is some)))
]

-- an operation that names v: all of its page were looked at, and v alone is looked at as not 0 or taken
pub record NamesAlone (g : Geometry) (m : World) (b v : ℕ) (o : Op) : Type 0 where
  pub naming : names_one o.phase o.cleared o.moved ≡ true
  pub informed : IsInformed g (sight_of g m) b o
  pub over : IsLookedOver g o.page o.looked
  pub alone : IsAloneAt o.looked o.taken v

pub others_zero : (g : Geometry) (m : World) (b v u : ℕ) (o : Op) → NamesAlone g m b v o → backing_page g u ≡ Some b → u ≢ v → pte_at m u ≡ 0
others_zero g m b v u o names of other = zero_at g m b v u o (find first u o.taken) refl names.informed names.over names.alone of other

naming_cleared : (phase : Phase) (cleared moved : Bool) → phase ≡ Cleared → names_one phase cleared moved ≡ true
naming_cleared phase cleared moved is = rw is refl

-- in phase Cleared the one is the one that maps a frame
pub names_cleared : (g : Geometry) (m : World) (a b v : ℕ) (o : Op) → IsGeometry g → AreAll g m → op_at m a b ≡ Some o → backing_page g v ≡ Some b → o.phase ≡ Cleared → o.taken ≡ [] → pte_at m v ≢ 0 → NamesAlone g m b v o
names_cleared g m a b v o is all here of phase taken some =
    let facts : CopyFacts g (sight_of g m) = facts_hold g m is all in
    let naming : names_one o.phase o.cleared o.moved ≡ true = naming_cleared o.phase o.cleared o.moved phase in
    let informed = facts.informed.informed a b o here in
    let over = facts.named.over a b o here naming in
    let one = facts.named.alone a b o here naming in
    let looked = looked_some g m b v o informed over of (ap (find first v) taken) some in
    let same : v ≡ one.0 = looked_one o.looked o.taken v one.0 one.1 looked in
    record { naming = naming; informed = informed; over = over; alone = subst (IsAloneAt o.looked o.taken) (sym same) one.1 }

-- after Unmap it is the one that was taken
pub names_taken : (g : Geometry) (m : World) (a b v word : ℕ) (o : Op) → IsGeometry g → AreAll g m → op_at m a b ≡ Some o → o.cleared ≡ true → o.moved ≡ false → o.taken ≡ (v, word) ∷ [] → NamesAlone g m b v o
names_taken g m a b v word o is all here cleared unmoved taken =
    let facts : CopyFacts g (sight_of g m) = facts_hold g m is all in
    let naming : names_one o.phase o.cleared o.moved ≡ true = named_again o.phase o.cleared o.moved cleared unmoved in
    let one = facts.named.alone a b o here naming in
    let takes : All (λ p. p.0 ≡ one.0) ((v, word) ∷ []) = subst (All (λ p. p.0 ≡ one.0)) taken one.1.takes in
    let same : v ≡ one.0 = all_head (λ p. p.0 ≡ one.0) (v, word) [] takes in
    record { naming = naming; informed = facts.informed.informed a b o here; over = facts.named.over a b o here naming; alone = subst (IsAloneAt o.looked o.taken) (sym same) one.1 }

-- Stores.

-- a dirty translation of a page
record IsCachedDirtyOf (g : Geometry) (m : World) (c b : ℕ) : Type 0 where
  vpage : ℕ
  entry : CacheEntry
  of : backing_page g vpage ≡ Some b
  here : find cached_page vpage (m.view c).cache ≡ Some entry
  dirty : entry.dirty ≡ true

through : (g : Geometry) (m : World) (c b v : ℕ) → backing_page g v ≡ Some b → IsSomeAnd (find cached_page v (m.view c).cache) (λ e. IsTrue e.dirty) → IsCachedDirtyOf g m c b
through g m c b v of cached =
    let e = some_and (find cached_page v (m.view c).cache) (λ e. IsTrue e.dirty) cached in
    record { vpage = v; entry = e.0; of = of; here = e.1.0; dirty = e.1.1 }

stored_through : (g : Geometry) (m : World) (c b : ℕ) (action : Action) → StoresTo g b action → Permitted g (m.view c) action → IsCachedDirtyOf g m c b
stored_through g m c b (Store v i x) of may = through g m c b v of may.cached
stored_through g m c b (Add v i x) of may = through g m c b v of may.cached
stored_through g m c b action of may = absurd of

-- so where the operation names v, and its first flush ended, its copies are spoilt
spoilt : (g : Geometry) (m : World) (a b c : ℕ) (o : Op) (action : Action) → AreAll g m → op_at m a b ≡ Some o → names_one o.phase o.cleared o.moved ≡ true → is_early o.phase (is_flush_ended g o) ≡ false → StoresTo g b action → Permitted g (m.view c) action → IsUnspoilt g (pte_at m) b (names_one o.phase o.cleared o.moved) o.taken → ⊥
spoilt g m a b c o action all here naming late stores may unspoilt =
    let through = stored_through g m c b action stores may in
    let copies : OpCopies g (copy_sight (sight_of g m)) a b (copier_of g o) = all.copies.ops a b o here in
    let clean : IsClean g (sight_of g m).entry b = copies.dirty naming late unspoilt in
    let off : through.entry.dirty ≡ false = clean c through.vpage through.entry through.of through.here in
    let on : through.entry.dirty ≡ true = through.dirty in
    cc

zero_clean : (word : ℕ) → word ≡ 0 → is_dirty word ≡ false
zero_clean word zero = ap is_dirty zero

late_cleared : (phase : Phase) (ended : Bool) → phase ≡ Cleared → ended ≡ true → is_early phase ended ≡ false
late_cleared phase ended is over = rw (is, over) refl

late_taken : (phase : Phase) (ended : Bool) → phase ≡ Taken → is_early phase ended ≡ false
late_taken phase ended is = rw is refl

found_one : (v word : ℕ) → find first v ((v, word) ∷ []) ≡ Some (v, word)
found_one v word = grind arith

is_taken_one : (taken : List (ℕ × ℕ)) (v word : ℕ) → taken ≡ (v, word) ∷ [] → IsTaken taken v
is_taken_one taken v word is = is_some_of (find first v taken) (v, word) (ap (find first v) is ∙ found_one v word)

-- before Unmap
pub store_cleared : (g : Geometry) (m : World) (a b v c : ℕ) (o : Op) (action : Action) → AreAll g m → op_at m a b ≡ Some o → NamesAlone g m b v o → o.phase ≡ Cleared → o.taken ≡ [] → IsEnded g o.due o.flush o.seen → StoresTo g b action → Permitted g (m.view c) action → is_dirty (pte_at m v) ≡ true
store_cleared g m a b v c o action all here names phase taken ended stores may = elim (cases_Bool (is_dirty (pte_at m v))) [
  | inl dirty ↦ dirty
  | inr clean ↦
      let over : is_flush_ended g o ≡ true = is-IsFlushEnded g o (record { made = ended.made; seen = ended.seen_all }) in
      absurd (spoilt g m a b c o action all here names.naming (late_cleared o.phase (is_flush_ended g o) phase over) stores may (record {
        table = λ _ u of. elim (cases_eq u v) [ inl same ↦ ap (λ k. is_dirty (pte_at m k)) same ∙ clean | inr other ↦ zero_clean (pte_at m u) (others_zero g m b v u o names of other) ];
        taken = λ _. subst (All (λ p. is_dirty p.1 ≡ false)) (sym taken) (none_left (λ p. is_dirty p.1 ≡ false));
      }))
]

-- after Unmap
pub store_taken : (g : Geometry) (m : World) (a b v word c : ℕ) (o : Op) (action : Action) → AreAll g m → op_at m a b ≡ Some o → NamesAlone g m b v o → o.phase ≡ Taken → o.taken ≡ (v, word) ∷ [] → StoresTo g b action → Permitted g (m.view c) action → is_dirty word ≡ true
store_taken g m a b v word c o action all here names phase taken stores may = elim (cases_Bool (is_dirty word)) [
  | inl dirty ↦ dirty
  | inr clean ↦
      let there : IsTaken o.taken v = is_taken_one o.taken v word taken in
      absurd (spoilt g m a b c o action all here names.naming (late_taken o.phase (is_flush_ended g o) phase) stores may (record {
        table = λ _ u of. elim (cases_eq u v) [
          | inl same ↦ zero_clean (pte_at m u) (names.informed.taken u of (subst (IsTaken o.taken) (sym same) there))
          | inr other ↦ zero_clean (pte_at m u) (others_zero g m b v u o names of other)
        ];
        taken = λ _. subst (All (λ p. is_dirty p.1 ≡ false)) (sym taken) (more (λ p. is_dirty p.1 ≡ false) (v, word) [] clean (none_left (λ p. is_dirty p.1 ≡ false)));
      }))
]
