-- That a SetHome keeps the cache law: no cache has an entry of the page.
use Rattle.std.proofs.Common.{◌≡◌, ◌≢◌, ℕ, ◌==◌, not, Bool, true, false, List, [], ◌∷◌, Option, Some, None, IsSome, IfSome, All, refl, sym, ap, subst, ◌∙◌, ◌⊎◌, inl, inr, arith}
use Rattle.std.specs.Prelude.{option_map}
use Rattle.std.proofs.lemmas.Bool.{cases_eq, eq-eqb}
use Rattle.nm_base.specs.Geometry.{Geometry, backing_page}
use Rattle.nm_base.specs.HomeWord.{home_word}
use Rattle.nm_action.specs.declared.action.Reply.TheVariants.{Done}
use Rattle.nm_action.specs.declared.action.Action.TheVariants.{SetHome}
use Rattle.nm_words.specs.declared.names.Where.TheVariants as words
use Rattle.nm_view.specs.declared.view.CacheEntry.{CacheEntry}
use Rattle.nm_view.specs.declared.view.Phase.{Phase}
use Rattle.nm_view.specs.declared.view.Phase.TheVariants.{Taken}
use Rattle.nm_view.specs.declared.view.Fill.{Fill}
use Rattle.nm_view.specs.declared.view.Fill.TheVariants.{Copied}
use Rattle.nm_view.specs.Lists.{find, first}
use Rattle.nm_view.specs.Views.{Op, View}
use Rattle.nm_view.specs.Operations.{page_of, op_on, fill_of, names_one, IsTaken, IsLookedOver, IsUnmapped, IsFlushEnded}
use Rattle.nm_view.proofs.Items.{all_find, all_head, some_same}
use Rattle.nm_view.proofs.Finds.{find_number}
use Rattle.nm_permit.specs.Permitted.{Allowed, MaySetHome, HasNewHome, IsHomeCommitted}
use Rattle.nm_event.specs.After.{after_of, homed_at}
use Rattle.nm_event.specs.Fitting.{Agrees}
use Rattle.nm_world.specs.Worlds.{World, written, viewing, moved, pte_at, home_at, op_at}
use Rattle.nm_world.specs.Parts.{flight_of, desk_of, lore_of, flight_at}
use Rattle.nm_world.specs.Notions.{IsOut, HasOne}
use Rattle.nm_world.specs.ShapeLaw.{ShapeLaw}
use Rattle.nm_world.specs.LockLaw.{LockLaw, IsTrueOp, IsStaged}
use Rattle.nm_world.specs.CacheLaw.{IsEntrySound, CacheLaw}
use Rattle.nm_world.proofs.Choose.{choose}
use Rattle.nm_world.proofs.Parts.{part_edit}
use Rattle.nm_caches.specs.Facts.{HasCacheFacts}
use Rattle.nm_caches.proofs.Shapes.{GoesOn, IsRunning, some_parts, some_more, flight_kept, law_kept, stands_still, view_part}
use Rattle.nm_caches.proofs.Table.{none_stands, known_of}
use Rattle.nm_caches.proofs.Holds.{page_not_owed}

-- a page has no entry in any cache
abbrev NoEntry : Geometry → World → ℕ → Type 0
NoEntry g m b = (p : ℕ) → IsRunning g m p → (e : CacheEntry) → IsEntrySound g m p e → backing_page g e.vpage ≡ Some b → ⊥

some_or : {A : Type 0} (found : Option A) → (found ≡ None) ⊎ IsSome found
some_or None = inl refl
some_or (Some x) = inr cc

some_found : {A : Type 0} (found : Option A) → IsSome found → (x : A) × (found ≡ Some x)
some_found None h = absurd (let bad : ⊥ = cc in bad)
some_found (Some x) h = (x, refl)

-- Pages that are out of the table.

agrees_at : (found : Option (ℕ × ℕ)) (p : ℕ × ℕ) (word : ℕ) → found ≡ Some p → IfSome found (λ q. Agrees q.1 word) → Agrees p.1 word
agrees_at None p word is agrees = absurd (let bad : ⊥ = cc in bad)
agrees_at (Some q) p word is agrees = let Ag : ℕ × ℕ → Type 0 = λ x. Agrees x.1 word in subst Ag (some_same q p is) agrees

-- a word that was looked at as 0 is 0, whether it was taken or not
looked_none : (m : World) (b v : ℕ) (o : Op) (p : ℕ × ℕ) → IsTrueOp m b (lore_of o) → find first v o.looked ≡ Some p → p.1 ≡ 0 → pte_at m v ≡ 0
looked_none m b v o p known found none =
    elim (some_or (find first v o.taken)) [
      | inl there ↦ (agrees_at (find first v o.looked) p (pte_at m v) found (known.looked v there)).absent.0 none
      | inr taken ↦ known.taken v taken
    ]

-- where all virtual pages were looked at, and those that were looked at as not 0 are 0 by another reason, the page is out
out_of : (g : Geometry) (m : World) (b : ℕ) (o : Op) → o.page ≡ b → IsTrueOp m b (lore_of o) → IsLookedOver g o.page o.looked → ((v : ℕ) (p : ℕ × ℕ) → find first v o.looked ≡ Some p → p.1 ≢ 0 → pte_at m v ≡ 0) → IsOut g (pte_at m) b
out_of g m b o page known over some v of =
    let p = some_found (find first v o.looked) (over v (of ∙ ap (λ (j : ℕ). Some j) (sym page))) in
    elim (cases_eq p.0.1 0) [
      | inl none ↦ looked_none m b v o p.0 known p.1 none
      | inr there ↦ some v p.0 p.1 there
    ]

-- every word that was looked at as not 0 was taken
unmapped_out : (g : Geometry) (m : World) (b : ℕ) (o : Op) → o.page ≡ b → IsTrueOp m b (lore_of o) → IsUnmapped g o → IsOut g (pte_at m) b
unmapped_out g m b o page known is =
    out_of g m b o page known is.over (λ v p found there.
    let taken : IsTaken o.taken p.0 = all_find first v (λ q. q.1 ≢ 0 → IsTaken o.taken q.0) o.looked p is.taken found there in
    known.taken v (subst (IsTaken o.taken) (find_number first v o.looked p found) taken))

-- where something was taken, and only of v, v was taken
one_taken : (v : ℕ) (taken : List (ℕ × ℕ)) → taken ≢ [] → All (λ p. p.0 ≡ v) taken → IsTaken taken v
one_taken v [] some all = absurd (some refl)
one_taken v (p ∷ ps) some all = let same : (p.0 == v) ≡ true = eq-eqb p.0 v (all_head (λ q. q.0 ≡ v) p ps all) in rw same cc

-- the one word that was looked at as not 0 was taken
alone_out : (g : Geometry) (m : World) (b : ℕ) (o : Op) → o.page ≡ b → IsTrueOp m b (lore_of o) → IsLookedOver g o.page o.looked → HasOne o.looked o.taken → o.taken ≢ [] → IsOut g (pte_at m) b
alone_out g m b o page known over one some =
    out_of g m b o page known over (λ v p found there.
    let same : p.0 ≡ one.0 = all_find first v (λ q. q.1 ≢ 0 → q.0 ≡ one.0) o.looked p one.1.looks found there in
    let at : one.0 ≡ v = sym same ∙ find_number first v o.looked p found in
    known.taken v (subst (IsTaken o.taken) at (one_taken one.0 o.taken some one.1.takes)))

-- whether an operation in phase Taken that is cleared names a virtual page
taken_names : (phase : Phase) (cleared moved : Bool) → phase ≡ Taken → cleared ≡ true → names_one phase cleared moved ≡ not moved
taken_names phase cleared moved taken is = rw (taken, is) refl

-- a commit finds the page out of the table
committed_out : (g : Geometry) (m : World) (a b f : ℕ) (o : Op) (fill : Fill) (moved : Bool) → o.moved ≡ moved → op_at m a b ≡ Some o → fill_of (m.view a) f ≡ Some fill → IsHomeCommitted g o fill → HasCacheFacts g m → IsOut g (pte_at m) b
committed_out g m a b f o fill false unmoved here at is facts =
    let names : names_one o.phase o.cleared o.moved ≡ true = taken_names o.phase o.cleared o.moved is.phase is.cleared ∙ ap not unmoved in
    let staged : IsStaged g (lore_of o) = facts.locks.staged a b (lore_of o) (ap (option_map lore_of) here) in
    alone_out g m b o (find_number page_of b (m.view a).ops o here) (known_of g m a b o facts.locks here) (staged.over names) (staged.alone names) is.clean.some
committed_out g m a b f o fill true moved here at is facts =
    let names : names_one o.phase o.cleared o.moved ≡ false = taken_names o.phase o.cleared o.moved is.phase is.cleared ∙ ap not moved in
    let page : o.page ≡ b = find_number page_of b (m.view a).ops o here in
    let copied : fill ≡ Copied b g.words = is.filled ∙ ap (λ (j : ℕ). Copied j g.words) page in
    facts.copies a b o here names (record { frame = f; count = g.words; is = at ∙ ap (λ (x : Fill). Some x) copied })

-- No entries.

-- where the page is out of the table and the flush ended, no entry stands, and none is owed
out_empty : (g : Geometry) (m : World) (a b : ℕ) (o : Op) → op_at m a b ≡ Some o → IsFlushEnded g o → IsOut g (pte_at m) b → LockLaw g m → NoEntry g m b
out_empty g m a b o here ended out locks p runs e sound of =
    elim sound.stands [
      | inl stands ↦ none_stands (pte_at m e.vpage) e (out e.vpage of) stands
      | inr owed ↦ page_not_owed g m a b o here ended locks p runs e of owed
    ]

known_at : (found : Option ℕ) (h n : ℕ) → found ≡ Some h → IfSome found (λ x. x ≡ n) → h ≡ n
known_at None h n is known = absurd (let bad : ⊥ = cc in bad)
known_at (Some x) h n is known = sym (some_same x h is) ∙ known

-- a page without a home has no entry
demanded_empty : (g : Geometry) (m : World) (a b : ℕ) (o : Op) → o.home ≡ Some 0 → IsTrueOp m b (lore_of o) → NoEntry g m b
demanded_empty g m a b o none known p runs e sound of =
    let home : 0 ≡ home_at m b = known_at o.home 0 (home_at m b) none known.home in
    let at = some_parts (backing_page g e.vpage) (λ j. home_at m j ≡ home_word e.frame) sound.home in
    let same : at.0 ≡ b = some_same at.0 b (sym at.1.0 ∙ of) in
    omega (arith, home, at.1.1, ap (home_at m) same)

new_home_empty : (g : Geometry) (m : World) (a b f : ℕ) (o : Op) (fill : Fill) → op_at m a b ≡ Some o → fill_of (m.view a) f ≡ Some fill → HasNewHome g fill o → HasCacheFacts g m → NoEntry g m b
new_home_empty g m a b f o fill here at (inl demanded) facts = demanded_empty g m a b o demanded.home (known_of g m a b o facts.locks here)
new_home_empty g m a b f o fill here at (inr (inl committed)) facts = out_empty g m a b o here committed.flushed (committed_out g m a b f o fill o.moved refl here at committed facts) facts.locks
new_home_empty g m a b f o fill here at (inr (inr is)) facts =
    out_empty g m a b o here is.unmapped.flushed (unmapped_out g m b o (find_number page_of b (m.view a).ops o here) (known_of g m a b o facts.locks here) is.unmapped) facts.locks

-- The step.

-- the home of another page is as before
home_other : (m : World) (b n j : ℕ) → j ≢ b → written (words.Home b) n m.word (words.Home j) ≡ home_at m j
home_other m b n j other = choose (λ x. x ≡ home_at m j) j b n (home_at m j) (λ same. absurd (other same)) (λ _. refl)

home_done : (g : Geometry) (m : World) (a b n : ℕ) (new : View) → NoEntry g m b → desk_of new ≡ desk_of (m.view a) → ((j : ℕ) → option_map flight_of (op_on new j) ≡ option_map flight_of (op_on (m.view a) j)) → ShapeLaw g m → CacheLaw g m → CacheLaw g (record { word = written (words.Home b) n m.word; view = viewing a new m.view })
home_done g m a b n new empty desk flights shape h =
    let m' : World = record { word = written (words.Home b) n m.word; view = viewing a new m.view } in
    let goes : GoesOn m m' = record { stamps = λ v. omega arith; req = omega arith } in
    let same : (c j : ℕ) → flight_at m' c j ≡ flight_at m c j = λ c j. view_part (λ v. option_map flight_of (op_on v j)) a new m.view (flights j) c in
    law_kept g m m' goes (λ p. refl) (view_part desk_of a new m.view desk)
    (λ p runs e sound. record {
      stamp = sound.stamp;
      home = some_more (backing_page g e.vpage) _ _ (λ j of is. home_other m b n j (λ page. empty p runs e sound (of ∙ ap (λ (i : ℕ). Some i) page)) ∙ is) sound.home;
      stands = stands_still g m m' p e (λ is. is) refl same sound.stands;
    })
    (λ c j o is. flight_kept m m' o goes.stamps (h.flights c j o (sym (same c j) ∙ is)))
    (λ p c j o is. (h.desks p).fresh c j o (sym (same c j) ∙ is))
    shape h

pub cache_set_home : (g : Geometry) (m : World) (a b f : ℕ) → Allowed g (m.view a) (SetHome b f) → HasCacheFacts g m → ShapeLaw g m → CacheLaw g m → CacheLaw g (moved g m a (SetHome b f))
cache_set_home g m a b f allowed facts shape h =
    let new : View = after_of g (m.view a) (SetHome b f) Done in
    let own = some_parts (op_at m a b) (MaySetHome g (fill_of (m.view a) f)) allowed.permitted in
    let fill = some_parts (fill_of (m.view a) f) (λ known. HasNewHome g known own.0) own.1.1 in
    home_done g m a b (home_word f) new (new_home_empty g m a b f own.0 fill.0 own.1.0 fill.1.0 fill.1.1 facts) refl
    (λ j. part_edit flight_of b (homed_at f) j (m.view a).ops (λ o. refl) (λ o. refl)) shape h
