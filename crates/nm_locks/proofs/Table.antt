-- The kinds that look at table words, clear, take, map and grant them.
use Rattle.std.proofs.Common.{◌≡◌, ◌≢◌, ℕ, ◌&&◌, bit_and, true, false, List, [], ◌∷◌, ◌++◌, Option, Some, None, IsSome, IsSomeAnd, IfSome, All, ◌⊎◌, refl, sym, ap, subst, ◌∙◌, inl, inr, arith}
use Rattle.std.specs.Prelude.{option_map}
use Rattle.std.specs.Int.{bit_at}
use Rattle.std.proofs.lemmas.Bool.{cases_eq}
use Rattle.std.proofs.lemmas.Nat.Bits.{bit_at-zero}
use Rattle.nm_base.specs.Geometry.{Geometry, backing_page}
use Rattle.nm_base.specs.PageWord.{IsPageWord, all_but, dirty_mask, grant_mask, granted_word}
use Rattle.nm_action.specs.declared.action.Reply.TheVariants.{Done, Word}
use Rattle.nm_action.specs.declared.action.Action.TheVariants.{Look, ClearDirty, Unmap, Map, Grant}
use Rattle.nm_view.specs.Lists.{find, edit, erase, put, first, Once}
use Rattle.nm_view.specs.Views.{Op, View}
use Rattle.nm_view.specs.Operations.{page_of, op_on, names_one}
use Rattle.nm_view.proofs.Items.{none_left, all_same, not_none}
use Rattle.nm_view.proofs.Finds.{find_erase, find_erase_other, find_join, find_join_other}
use Rattle.nm_permit.specs.Permitted.{MayClear, MayUnmap, MayMap, MayGrant, IsSavedWord}
use Rattle.nm_words.specs.declared.names.Where.TheVariants as words
use Rattle.nm_event.specs.After.{after_of, edit_of, edit_under, looked_at, cleared_at, taken_at, mapped_at, granted_at, has_some}
use Rattle.nm_event.specs.Fitting.{Agrees}
use Rattle.nm_world.specs.Worlds.{World, moved, viewing, written, pte_at, home_at, shadow_at, op_at}
use Rattle.nm_world.specs.Parts.{Lore, lore_of}
use Rattle.nm_world.specs.Sights.{WritesOne, Sets}
use Rattle.nm_world.specs.Notions.{IsAloneAt}
use Rattle.nm_world.specs.ShapeLaw.{ShapeLaw}
use Rattle.nm_world.specs.LockLaw.{LockLaw, IsTrueOp, IsStaged}
use Rattle.nm_world.specs.Laws.{IsReady}
use Rattle.nm_world.proofs.Writing.{word_writes, edit_sets}
use Rattle.nm_world.proofs.Moves.{on_page}
use Rattle.nm_world.proofs.Bits.{bit_xor_kept, saved_some}
use Rattle.nm_locks.specs.Facts.{LockFacts}
use Rattle.nm_locks.proofs.Still.{lock_quiet, read_keeps, view_part}
use Rattle.nm_locks.proofs.Edits.{lock_edit, page_other, op_lore, found_op, some_item}
use Rattle.nm_locks.proofs.Flags.{Softens, softens_and}
use Rattle.nm_locks.proofs.Items.{not_some, looked_put, over_put, looked_one, taken_one, alone_put, alone_taken, none_left_of, named_taken, named_mapped, named_again, edit_absent}
use Rattle.nm_world.proofs.Options.{if_more, some_and}

-- the world after the table word of v was written, with a new view of the actor
abbrev pub tabled : World → ℕ → ℕ → ℕ → View → World
tabled m a v x new = record { word = written (words.Pte v) x m.word; view = viewing a new m.view }

-- what the operation on the page of v knows afterwards, and how far it has come, is all that is to be shown
lock_tabled : (g : Geometry) (m : World) (a v x page : ℕ) (f : Op → Op) (o : Op) (new : View) → ((y : Op) → page_of (f y) ≡ page_of y) → backing_page g v ≡ Some page → op_on (m.view a) page ≡ Some o → new.ops ≡ edit_of g v f (m.view a).ops → new.turn ≡ (m.view a).turn → new.scan.least ≡ (m.view a).scan.least → ShapeLaw g m → IsTrueOp (tabled m a v x new) page (lore_of (f o)) → IsStaged g (lore_of (f o)) → LockLaw g m → LockLaw g (tabled m a v x new)
lock_tabled g m a v x page f o new keeps of here ops turn least shape own stage h =
    let m' : World = tabled m a v x new in
    let edited : new.ops ≡ edit page_of page f (m.view a).ops = ops ∙ ap (λ p. edit_under p f (m.view a).ops) of in
    let sets : Sets (op_at m) (op_at m') a page (Some (f o)) = edit_sets a page f o new m.view keeps edited here in
    lock_edit g m m' a page o (f o) sets here (λ c. refl)
    (record { word = λ t. refl; turn = view_part (λ w. w.turn) a new m.view turn; least = view_part (λ w. w.scan.least) a new m.view least; free = λ k. refl })
    (λ c j p other is k. page_other g m m' page v x of (word_writes (pte_at m) v x) (λ b. refl) (λ s. refl) shape c j p other is k)
    own stage h

-- ClearDirty: what was known stays so, as no comparison reads the dirty bit
true_softened : (m m' : World) (b v x : ℕ) (o : Lore) → WritesOne (pte_at m) (pte_at m') v x → home_at m' ≡ home_at m → shadow_at m' ≡ shadow_at m → Softens (pte_at m v) x → IsTrueOp m b o → IsTrueOp m' b o
true_softened m m' b v x o writes home shadow soft k =
    let zero : (u : ℕ) → pte_at m u ≡ 0 → pte_at m' u ≡ 0 = λ u was. elim (cases_eq u v) [
      | inl same ↦ ap (pte_at m') same ∙ writes.here ∙ soft.zero (ap (pte_at m) (sym same) ∙ was)
      | inr other ↦ writes.rest u other ∙ was
    ] in
    let agrees : (u old : ℕ) → Agrees old (pte_at m u) → Agrees old (pte_at m' u) = λ u old was. elim (cases_eq u v) [
      | inl same ↦ subst (Agrees old) (sym (ap (pte_at m') same ∙ writes.here)) (soft.agrees old (subst (λ (n : ℕ). Agrees old (pte_at m n)) same was))
      | inr other ↦ subst (Agrees old) (sym (writes.rest u other)) was
    ] in
    record {
      home = if_more o.home _ _ (λ y _ is. is ∙ sym (ap (λ f. f b) home)) k.home;
      shadow = if_more o.shadow _ _ (λ y _ knows f at. knows f (sym (ap (λ h. h b) home) ∙ at) ∙ sym (ap (λ s. s f) shadow)) k.shadow;
      taken = λ u there. zero u (k.taken u there);
      looked = λ u there. if_more (find first u o.looked) _ _ (λ p _ was. agrees u p.1 was) (k.looked u there);
    }

staged_cleared : (g : Geometry) (v : ℕ) (o : Op) → MayClear g v o → IsStaged g (lore_of o) → IsStaged g (lore_of (cleared_at v o))
staged_cleared g v o may s =
    let none : o.taken ≡ [] = s.held_taken may.phase in
    record {
      held_taken = λ is. absurd cc;
      held_cleared = λ is. absurd cc;
      cleared = λ is. refl;
      over = λ named. may.over;
      alone = λ named. (
        v,
        record {
          there = inl may.mapped;
          looks = all_same (λ p. (p.1 ≡ 0) ⊎ (p.0 ≡ v)) (λ p. p.1 ≢ 0 → p.0 ≡ v) o.looked (λ p either some. elim either [ inl zero ↦ absurd (some zero) | inr is ↦ is ]) may.alone;
          takes = subst (All (λ p. p.0 ≡ v)) (sym none) (none_left (λ p. p.0 ≡ v));
        },
      );
    }

pub lock_clear : (g : Geometry) (m : World) (a v : ℕ) → LockFacts g m → IsReady g m a (ClearDirty v) → LockLaw g m → LockLaw g (moved g m a (ClearDirty v))
lock_clear g m a v facts r h =
    let n : ℕ = pte_at m v in
    let x : ℕ = bit_and n (all_but dirty_mask) in
    let new : View = after_of g (m.view a) (ClearDirty v) (Word n) in
    let on = on_page g (m.view a) v (MayClear g v) r.allowed.permitted in
    let m' : World = tabled m a v x new in
    let lore = op_lore m a on.page on.op on.here in
    let soft = softens_and n dirty_mask (omega arith) refl refl refl (facts.page_words v) in
    let known = true_softened m m' on.page v x (lore_of on.op) (word_writes (pte_at m) v x) refl refl soft (h.known a on.page (lore_of on.op) lore) in
    lock_tabled g m a v x on.page (cleared_at v) on.op new (λ y. refl) on.of on.here refl refl refl r.shaped
    (record { home = known.home; shadow = known.shadow; taken = known.taken; looked = known.looked })
    (staged_cleared g v on.op on.may (h.staged a on.page (lore_of on.op) lore)) h

-- Unmap

staged_taken : (g : Geometry) (v n : ℕ) (o : Op) → MayUnmap g v o → IsStaged g (lore_of o) → IsStaged g (lore_of (taken_at v n o))
staged_taken g v n o may s = record {
  held_taken = λ is. absurd cc;
  held_cleared = λ is. absurd cc;
  cleared = λ is. absurd cc;
  over = λ named. s.over (named_taken o.phase o.cleared o.moved named);
  alone = λ named.
      let one = s.alone (named_taken o.phase o.cleared o.moved named) in
      (one.0, alone_taken o.looked o.taken v n one.0 one.1 (looked_one o.looked o.taken v one.0 one.1 may.mapped.looked) may.mapped.there);
}

pub lock_unmap : (g : Geometry) (m : World) (a v : ℕ) → IsReady g m a (Unmap v) → LockLaw g m → LockLaw g (moved g m a (Unmap v))
lock_unmap g m a v r h =
    let n : ℕ = pte_at m v in
    let new : View = after_of g (m.view a) (Unmap v) (Word n) in
    let on = on_page g (m.view a) v (MayUnmap g v) r.allowed.permitted in
    let o : Op = on.op in
    let m' : World = tabled m a v 0 new in
    let writes : WritesOne (pte_at m) (pte_at m') v 0 = word_writes (pte_at m) v 0 in
    let lore = op_lore m a on.page o on.here in
    let known = h.known a on.page (lore_of o) lore in
    lock_tabled g m a v 0 on.page (taken_at v n) o new (λ y. refl) on.of on.here refl refl refl r.shaped
    (record {
      home = known.home;
      shadow = known.shadow;
      taken = λ u there. elim (cases_eq u v) [
        | inl same ↦ ap (pte_at m') same ∙ writes.here
        | inr other ↦ writes.rest u other ∙ known.taken u (subst IsSome (find_join_other first (v, n) u o.taken (λ e. other (sym e))) there)
      ];
      looked = λ u none. elim (cases_eq u v) [
        | inl same ↦ absurd (not_none (v, n) (sym (subst (λ (k : ℕ). find first k (o.taken ++ (v, n) ∷ []) ≡ None) same none) ∙ find_join first (v, n) o.taken on.may.mapped.there))
        | inr other ↦
            let before : find first u o.taken ≡ None = sym (find_join_other first (v, n) u o.taken (λ e. other (sym e))) ∙ none in
            if_more (find first u o.looked) _ _ (λ p _ was. subst (Agrees p.1) (sym (writes.rest u other)) was) (known.looked u before)
      ];
    })
    (staged_taken g v n o on.may (h.staged a on.page (lore_of o) lore)) h

-- Map

staged_mapped : (g : Geometry) (v word : ℕ) (o : Op) → MayMap g v word o → Once first o.taken → IsStaged g (lore_of o) → IsStaged g (lore_of (mapped_at v word o))
staged_mapped g v word o may once s =
    let Never : Type 0 = names_one o.phase (o.cleared && has_some (erase first v o.taken)) o.moved ≡ true → ⊥ in
    let never : Never = λ named.
    let parts = named_mapped o.phase o.cleared (has_some (erase first v o.taken)) o.moved may.phase named in
    let one = s.alone (named_again o.phase o.cleared o.moved parts.0 parts.2) in
    let back = may.back parts.0 parts.2 in
    let p = some_and (find first v o.taken) (λ p. p.1 ≡ word) back.taken in
    let same : v ≡ one.0 = taken_one o.looked o.taken v one.0 p.0 one.1 p.1.0 in
    let left : has_some (erase first v o.taken) ≡ false = none_left_of v o.taken (subst (λ (k : ℕ). All (λ p. p.0 ≡ k) o.taken) (sym same) one.1.takes) once in
    let some : has_some (erase first v o.taken) ≡ true = parts.1 in
    cc in
    record {
      held_taken = λ is. ap (erase first v) (s.held_taken is);
      held_cleared = λ is. rw (s.held_cleared is) refl;
      cleared = λ is. absurd (may.phase is);
      over = λ named. absurd (never named);
      alone = λ named. absurd (never named);
    }

pub lock_map : (g : Geometry) (m : World) (a v word : ℕ) → IsReady g m a (Map v word) → LockLaw g m → LockLaw g (moved g m a (Map v word))
lock_map g m a v word r h =
    let new : View = after_of g (m.view a) (Map v word) Done in
    let on = on_page g (m.view a) v (MayMap g v word) r.allowed.permitted in
    let o : Op = on.op in
    let m' : World = tabled m a v word new in
    let writes : WritesOne (pte_at m) (pte_at m') v word = word_writes (pte_at m) v word in
    let lore = op_lore m a on.page o on.here in
    let known = h.known a on.page (lore_of o) lore in
    let once = (found_op g m a on.page o r.shaped on.here).keyed.taken.once in
    lock_tabled g m a v word on.page (mapped_at v word) o new (λ y. refl) on.of on.here refl refl refl r.shaped
    (record {
      home = known.home;
      shadow = known.shadow;
      taken = λ u there. elim (cases_eq u v) [
        | inl same ↦ absurd (not_some (find first u (erase first v o.taken)) (ap (λ k. find first k (erase first v o.taken)) same ∙ find_erase first v o.taken once) there)
        | inr other ↦ writes.rest u other ∙ known.taken u (subst IsSome (find_erase_other first v u o.taken (λ e. other (sym e))) there)
      ];
      looked = λ u none. looked_put o.looked v word (pte_at m) (pte_at m') writes u
          (λ other. known.looked u (sym (find_erase_other first v u o.taken (λ e. other (sym e))) ∙ none));
    })
    (staged_mapped g v word o on.may once (h.staged a on.page (lore_of o) lore)) h

-- Grant

granted_some : (word : ℕ) → IsPageWord word → word ≢ 0 → granted_word word ≢ 0
granted_some word page some none = elim page [
  | inl zero ↦ some zero
  | inr present ↦ omega (arith, present.present, bit_xor_kept word grant_mask 0 refl, ap (λ n. bit_at n 0) none ∙ bit_at-zero 0)
]

staged_granted : (g : Geometry) (v n : ℕ) (o : Op) → granted_word n ≢ 0 → MayGrant v o → IsStaged g (lore_of o) → IsStaged g (lore_of (granted_at v n o))
staged_granted g v n o some may s =
    let p = some_and (find first v o.looked) (λ p. IsSavedWord p.1) may.saved in
    let looked : IsSomeAnd (find first v o.looked) (λ p. p.1 ≢ 0) = subst (λ (q : Option (ℕ × ℕ)). IsSomeAnd q (λ p. p.1 ≢ 0)) (sym p.1.0) (saved_some p.0.1 p.1.1) in
    record {
      held_taken = s.held_taken;
      held_cleared = s.held_cleared;
      cleared = s.cleared;
      over = λ named. over_put g o.page v (granted_word n) o.looked (s.over named);
      alone = λ named.
          let one = s.alone named in
          (one.0, alone_put o.looked o.taken v (granted_word n) one.0 one.1 (λ _. looked_one o.looked o.taken v one.0 one.1 looked) (λ _. inl some));
    }

pub lock_grant : (g : Geometry) (m : World) (a v : ℕ) → LockFacts g m → IsReady g m a (Grant v) → LockLaw g m → LockLaw g (moved g m a (Grant v))
lock_grant g m a v facts r h =
    let n : ℕ = pte_at m v in
    let x : ℕ = granted_word n in
    let new : View = after_of g (m.view a) (Grant v) (Word n) in
    let on = on_page g (m.view a) v (MayGrant v) r.allowed.permitted in
    let o : Op = on.op in
    let m' : World = tabled m a v x new in
    let writes : WritesOne (pte_at m) (pte_at m') v x = word_writes (pte_at m) v x in
    let lore = op_lore m a on.page o on.here in
    let known = h.known a on.page (lore_of o) lore in
    lock_tabled g m a v x on.page (granted_at v n) o new (λ y. refl) on.of on.here refl refl refl r.shaped
    (record {
      home = known.home;
      shadow = known.shadow;
      taken = λ u there. elim (cases_eq u v) [
        | inl same ↦ absurd (not_some (find first u o.taken) (ap (λ k. find first k o.taken) same ∙ on.may.there) there)
        | inr other ↦ writes.rest u other ∙ known.taken u there
      ];
      looked = λ u none. looked_put o.looked v x (pte_at m) (pte_at m') writes u (λ other. known.looked u none);
    })
    (staged_granted g v n o (granted_some n (facts.page_words v) r.fits.told.said.mapped) on.may (h.staged a on.page (lore_of o) lore)) h

-- Look

some_or_none : {A : Type 0} (o : Option A) → (o ≡ None) ⊎ IsSome o
some_or_none None = inl refl
some_or_none (Some x) = inr cc

-- a word that is noted again is as the one noted before: so the one virtual page stays alone
looked_alone : (looked taken : List (ℕ × ℕ)) (v n w : ℕ) → IsSome (find first v looked) → (IsSome (find first v taken) → n ≡ 0) → (find first v taken ≡ None → IfSome (find first v looked) (λ p. Agrees p.1 n)) → IsAloneAt looked taken w → IsAloneAt (put first (v, n) looked) taken w
looked_alone looked taken v n w over zero agrees alone =
    let p = some_item (find first v looked) over in
    let as_known : find first v taken ≡ None → Agrees p.0.1 n = λ none. subst (λ (o : Option (ℕ × ℕ)). IfSome o (λ p. Agrees p.1 n)) p.1 (agrees none) in
    let noted : (p.0.1 ≢ 0) → IsSomeAnd (find first v looked) (λ p. p.1 ≢ 0) = λ some. subst (λ (o : Option (ℕ × ℕ)). IsSomeAnd o (λ p. p.1 ≢ 0)) (sym p.1) some in
    alone_put looked taken v n w alone
    (λ some. elim (some_or_none (find first v taken)) [
      | inl none ↦ looked_one looked taken v w alone (noted (λ old. some ((as_known none).absent.0 old)))
      | inr took ↦ absurd (some (zero took))
    ])
    (λ same. elim (some_or_none (find first v taken)) [
      | inl none ↦ elim alone.there [
        | inl old ↦
            let At : ℕ → Type 0 = λ k. IsSomeAnd (find first k looked) (λ p. p.1 ≢ 0) in
            let was : p.0.1 ≢ 0 = subst (λ (o : Option (ℕ × ℕ)). IsSomeAnd o (λ p. p.1 ≢ 0)) p.1 (subst At same old) in
            inl (λ now. was ((as_known none).absent.1 now))
        | inr took ↦ inr (subst (λ (k : ℕ). IsSome (find first k taken)) same took)
      ]
      | inr took ↦ inr took
    ])

staged_looked : (g : Geometry) (m : World) (b v : ℕ) (o : Op) → backing_page g v ≡ Some o.page → IsTrueOp m b (lore_of o) → IsStaged g (lore_of o) → IsStaged g (lore_of (looked_at v (pte_at m v) o))
staged_looked g m b v o of known s = record {
  held_taken = s.held_taken;
  held_cleared = s.held_cleared;
  cleared = s.cleared;
  over = λ named. over_put g o.page v (pte_at m v) o.looked (s.over named);
  alone = λ named.
      let one = s.alone named in
      (one.0, looked_alone o.looked o.taken v (pte_at m v) one.0 (s.over named v of) (known.taken v) (known.looked v) one.1);
}

-- a Look on a page of which the actor has an operation
look_known : (g : Geometry) (m : World) (a v page : ℕ) (o : Op) → backing_page g v ≡ Some page → op_on (m.view a) page ≡ Some o → ShapeLaw g m → LockLaw g m → LockLaw g (moved g m a (Look v))
look_known g m a v page o of here shape h =
    let n : ℕ = pte_at m v in
    let new : View = after_of g (m.view a) (Look v) (Word n) in
    let m' : World = tabled m a v n new in
    let writes : WritesOne (pte_at m) (pte_at m') v n = word_writes (pte_at m) v n in
    let kept = read_keeps g (words.Pte v) m.word in
    let lore = op_lore m a page o here in
    let known = h.known a page (lore_of o) lore in
    let own : backing_page g v ≡ Some o.page = of ∙ ap Some (sym (found_op g m a page o shape here).page) in
    lock_tabled g m a v n page (looked_at v n) o new (λ y. refl) of here refl refl refl shape
    (record {
      home = known.home;
      shadow = known.shadow;
      taken = λ u there. kept.pte u ∙ known.taken u there;
      looked = λ u none. looked_put o.looked v n (pte_at m) (pte_at m') writes u (λ other. known.looked u none);
    })
    (staged_looked g m page v o own known (h.staged a page (lore_of o) lore)) h

-- a Look where the actor has no operation leaves its view
look_unknown : (g : Geometry) (m : World) (a v : ℕ) → edit_of g v (looked_at v (pte_at m v)) (m.view a).ops ≡ (m.view a).ops → LockLaw g m → LockLaw g (moved g m a (Look v))
look_unknown g m a v same h =
    let new : View = after_of g (m.view a) (Look v) (Word (pte_at m v)) in
    lock_quiet g m (written (words.Pte v) (pte_at m v) m.word) a new (read_keeps g (words.Pte v) m.word)
    (record { turn = refl; least = refl; lore = λ b. ap (λ ops. option_map lore_of (find page_of b ops)) same }) h

look_on : (g : Geometry) (m : World) (a v page : ℕ) (found : Option Op) → backing_page g v ≡ Some page → op_on (m.view a) page ≡ found → ShapeLaw g m → LockLaw g m → LockLaw g (moved g m a (Look v))
look_on g m a v page None of here shape h =
    look_unknown g m a v (ap (λ p. edit_under p (looked_at v (pte_at m v)) (m.view a).ops) of ∙ edit_absent page (looked_at v (pte_at m v)) (m.view a).ops here) h
look_on g m a v page (Some o) of here shape h = look_known g m a v page o of here shape h

look_at : (g : Geometry) (m : World) (a v : ℕ) (page : Option ℕ) → backing_page g v ≡ page → ShapeLaw g m → LockLaw g m → LockLaw g (moved g m a (Look v))
look_at g m a v None of shape h = look_unknown g m a v (ap (λ p. edit_under p (looked_at v (pte_at m v)) (m.view a).ops) of) h
look_at g m a v (Some page) of shape h = look_on g m a v page (op_on (m.view a) page) of refl shape h

pub lock_look : (g : Geometry) (m : World) (a v : ℕ) → ShapeLaw g m → LockLaw g m → LockLaw g (moved g m a (Look v))
lock_look g m a v shape h = look_at g m a v (backing_page g v) refl shape h
