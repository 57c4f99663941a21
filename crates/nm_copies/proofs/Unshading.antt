-- SetShadow to none: the shadow is owned, and may be Equal of the page, whose twin it is.
use Rattle.std.proofs.Common.{◌≡◌, ◌≢◌, ℕ, ◌-◌, ◌⊎◌, Bool, true, false, List, Option, Some, None, IsSome, refl, sym, ap, subst, ◌∙◌, inl, inr, arith}
use Rattle.nm_base.specs.Geometry.{Geometry}
use Rattle.nm_base.specs.HomeWord.{home_word}
use Rattle.nm_base.specs.ShadowWord.{shadow_frame}
use Rattle.nm_action.specs.declared.action.Reply.TheVariants.{Done}
use Rattle.nm_action.specs.declared.action.Action.TheVariants.{SetShadow}
use Rattle.nm_words.specs.declared.names.Where.{Where}
use Rattle.nm_words.specs.declared.names.Where.TheVariants as words
use Rattle.nm_view.specs.declared.view.Fill.{Fill}
use Rattle.nm_view.specs.declared.view.Fill.TheVariants.{Raw, Zeroed, Copied, Equal}
use Rattle.nm_view.specs.declared.view.Owned.{Owned}
use Rattle.nm_view.specs.Views.{Op, View}
use Rattle.nm_view.specs.Operations.{op_on}
use Rattle.nm_view.proofs.Items.{not_none, some_same}
use Rattle.nm_permit.specs.Permitted.{MayUnshade}
use Rattle.nm_event.specs.After.{after_of, shaded, owning, unshaded, unshading, unshaded_fill, is_quiet}
use Rattle.nm_world.specs.Worlds.{World, moved, viewing, written}
use Rattle.nm_world.specs.Parts.{copier_of}
use Rattle.nm_world.specs.Sights.{Sight, Sets, sight_of, sight_at}
use Rattle.nm_world.specs.Notions.{page_value, fill_page}
use Rattle.nm_world.specs.CopyLaw.{CopyLaw, CopySight, copy_sight, HasCopies, IsUnspoilt, IsTwin, OpCopies}
use Rattle.nm_world.specs.Laws.{IsReady}
use Rattle.nm_world.proofs.Writing.{edit_sets, fill_put}
use Rattle.nm_world.proofs.Moves.{edited}
use Rattle.nm_copies.specs.Facts.{HasHolders, HasInformed, HasShadowed}
use Rattle.nm_copies.proofs.Still.{Leaves, clean_stays, value_same}
use Rattle.nm_copies.proofs.Quiet.{unread_keeps, entries_before}
use Rattle.nm_copies.proofs.Holders.{some_op}
use Rattle.nm_copies.proofs.Fills.{KeepsRest}
use Rattle.nm_copies.proofs.Edits.{law_edited}
use Rattle.nm_copies.proofs.Copying.{known_op, known_word, value_home}

-- a fill after the step was there before, or is that of the shadow: Equal of page b, or Raw
abbrev pub FillsOrShadow : Sight → Sight → ℕ → ℕ → ℕ → Type 0
FillsOrShadow m after a b s = (c f : ℕ) (x : Fill) → after.fill c f ≡ Some x → (m.fill c f ≡ Some x) ⊎ ((c ≡ a) × ((f ≡ s) × ((x ≡ Equal b) ⊎ (x ≡ Raw))))

-- so a fill that tells what the shadow's does not was there before
shadow_before : (m after : Sight) (a b s c f : ℕ) (x : Fill) → FillsOrShadow m after a b s → after.fill c f ≡ Some x → x ≢ Equal b → x ≢ Raw → m.fill c f ≡ Some x
shadow_before m after a b s c f x fills is unequal told =
    elim (fills c f x is) [
      | inl was ↦ was
      | inr new ↦ elim new.1.1 [ inl equal ↦ absurd (unequal equal) | inr raw ↦ absurd (told raw) ]
    ]

raw_told : (x : Fill) (j : ℕ) → fill_page x ≡ Some j → x ≢ Raw
raw_told x j of raw = not_none j (sym (ap fill_page raw) ∙ of)

equal_told : (x : Fill) (b j : ℕ) → fill_page x ≡ Some j → j ≢ b → x ≢ Equal b
equal_told x b j of other equal = other (some_same j b (sym of ∙ ap fill_page equal))

copied_unequal : (b n : ℕ) → Copied b n ≢ Equal b
copied_unequal b n is = cc

copied_told : (b n : ℕ) → Copied b n ≢ Raw
copied_told b n is = cc

zeroed_unequal : (b n : ℕ) → Zeroed n ≢ Equal b
zeroed_unequal b n is = cc

zeroed_told : (n : ℕ) → Zeroed n ≢ Raw
zeroed_told n is = cc

unshade_leaves : (g : Geometry) (m after : Sight) (a b s c j : ℕ) → KeepsRest (copy_sight m) (copy_sight after) → FillsOrShadow m after a b s → j ≢ b → Leaves g (copy_sight m) (copy_sight after) c j
unshade_leaves g m after a b s c j keeps fills other = record {
  fill = λ f x is of. shadow_before m after a b s c f x fills is (equal_told x b j of other) (raw_told x j of);
  words = λ f i x is of. keeps.mem f i;
  value = λ i. value_same (copy_sight m) (copy_sight after) j i (keeps.home j) keeps.mem;
  undirtied = λ h v of. rw (sym (keeps.pte v)) (h v of);
  cached = λ u. clean_stays g (copy_sight m) (copy_sight after) j keeps.entry;
  out = λ h v of. keeps.pte v ∙ h v of;
  out_clean = λ u. clean_stays g (copy_sight m) (copy_sight after) j keeps.entry;
  twin = λ h v of. rw (keeps.pte v) (h v of);
  twin_clean = λ u. clean_stays g (copy_sight m) (copy_sight after) j keeps.entry;
}

twin_rest : (g : Geometry) (k after : CopySight) (b f : ℕ) → KeepsRest k after → IsTwin g k b f → IsTwin g after b f
twin_rest g k after b f s h = record {
  equal = λ i index. s.mem f i ∙ h.equal i index ∙ sym (value_same k after b i (s.home b) s.mem);
  unwritable = λ v of. rw (s.pte v) (h.unwritable v of);
  clean = clean_stays g k after b s.entry h.clean;
}

-- the operation whose shadow goes keeps its copies, and the shadow is a twin
unshade_own : (g : Geometry) (m after : Sight) (a b s : ℕ) (o : Op) → KeepsRest (copy_sight m) (copy_sight after) → FillsOrShadow m after a b s → IsTwin g (copy_sight m) b s → OpCopies g (copy_sight m) a b (copier_of g o) → OpCopies g (copy_sight after) a b (copier_of g (shaded b None o))
unshade_own g m after a b s o keeps fills twin h =
    let k = copy_sight m in
    let new = copy_sight after in
    let copy : (f n : ℕ) → after.fill a f ≡ Some (Copied b n) → m.fill a f ≡ Some (Copied b n) = λ f n is. shadow_before m after a b s a f (Copied b n) fills is (copied_unequal b n) (copied_told b n) in
    let has : HasCopies after.fill a b o.last → HasCopies m.fill a b o.last = λ copies. elim copies [
      | inl some ↦ inl some
      | inr owns ↦ inr (record { frame = owns.frame; count = owns.count; is = copy owns.frame owns.count owns.is })
    ] in
    let before : IsUnspoilt g after.pte b (copier_of g o).naming o.taken → IsUnspoilt g m.pte b (copier_of g o).naming o.taken = λ u. record { table = λ n v of. rw (sym (keeps.pte v)) (u.table n v of); taken = u.taken } in
    let value : (i : ℕ) → page_value after.home after.mem b i ≡ page_value m.home m.mem b i = λ i. value_same k new b i (keeps.home b) keeps.mem in
    record {
      early = λ early copies. h.early early (has copies);
      last = λ x is index u. h.last x is index (before u) ∙ sym (value o.copied);
      copied = λ f n is u i index lt. keeps.mem f i ∙ h.copied f n (copy f n is) (before u) i index lt ∙ sym (value i);
      dirty = λ naming late u. clean_stays g k new b keeps.entry (h.dirty naming late (before u));
      out = λ unnamed copies v of. keeps.pte v ∙ h.out unnamed (has copies) v of;
      out_clean = λ unnamed copies. clean_stays g k new b keeps.entry (h.out_clean unnamed (has copies));
      equal = λ f is. elim (fills a f (Equal b) is) [
        | inl was ↦ twin_rest g k new b f keeps (h.equal f was)
        | inr here ↦ twin_rest g k new b f keeps (subst (IsTwin g k b) (sym here.1.0) twin)
      ];
    }

law_unshaded : (g : Geometry) (m after : Sight) (a b s : ℕ) (o : Op) → HasHolders m.op → Sets m.op after.op a b (Some (shaded b None o)) → m.op a b ≡ Some o → KeepsRest (copy_sight m) (copy_sight after) → FillsOrShadow m after a b s → IsTwin g (copy_sight m) b s → CopyLaw g m → CopyLaw g after
law_unshaded g m after a b s o holders sets here keeps fills twin h =
    law_edited g m after a b o (shaded b None o) holders sets here
    (λ c f n is i lt. keeps.mem f i ∙ h.zeroed c f n (shadow_before m after a b s c f (Zeroed n) fills is (zeroed_unequal b n) (zeroed_told n)) i lt)
    (λ c f j x is of. elim (fills c f x is) [
      | inl was ↦ h.has_op c f j x was of
      | inr new ↦ elim new.1.1 [
        | inl equal ↦
            let page : b ≡ j = some_same b j (sym (ap fill_page equal) ∙ of) in
            subst (λ (n : ℕ). IsSome (m.op n j)) (sym new.0) (subst (λ (n : ℕ). IsSome (m.op a n)) page (some_op (m.op a b) o here))
        | inr raw ↦ absurd (raw_told x j of raw)
      ]
    ])
    (unshade_own g m after a b s o keeps fills twin (h.ops a b o here))
    (λ c j other. unshade_leaves g m after a b s c j keeps fills other) h

fill_unshaded : (quiet : Bool) (b : ℕ) → (unshaded_fill quiet b ≡ Equal b) ⊎ (unshaded_fill quiet b ≡ Raw)
fill_unshaded true b = inl refl
fill_unshaded false b = inr refl

-- the frames after the known shadow goes
unshaded_is : (g : Geometry) (b word : ℕ) (o : Op) (found : Option Op) (owned : List Owned) → found ≡ Some o → o.shadow ≡ Some word → unshaded g b found owned ≡ owning (shadow_frame word) (unshaded_fill (is_quiet g o) b) owned
unshaded_is g b word o found owned here known = ap (λ f. unshaded g b f owned) here ∙ ap (λ w. unshading (unshaded_fill (is_quiet g o) b) w owned) known

pub copies-unshade : (g : Geometry) (m : World) (a b k : ℕ) → HasHolders (sight_of g m).op → HasInformed g (sight_of g m) → HasShadowed g (sight_of g m) → IsReady g m a (SetShadow b k None) → CopyLaw g (sight_of g m) → CopyLaw g (sight_of g (moved g m a (SetShadow b k None)))
copies-unshade g m a b k holders knows shadows r h =
    let view : View = m.view a in
    let new : View = after_of g view (SetShadow b k None) Done in
    let before : Sight = sight_of g m in
    let word : Where → ℕ = written (words.Shadow k) 0 m.word in
    let after : Sight = sight_at g word (viewing a new m.view) in
    let on = known_op (MayUnshade k) (op_on view b) r.allowed.permitted in
    let o : Op = on.0 in
    let shadow = known_word o.shadow (λ n. n ≢ 0) on.1.1.some in
    let informed = knows.informed a b o on.1.0 in
    let home : before.home b ≡ home_word k = sym (informed.home (home_word k) on.1.1.home) in
    let stands : shadow.0 ≡ before.shadow k = informed.shadow shadow.0 k shadow.1.0 home in
    let s : ℕ = shadow_frame shadow.0 in
    let fill : Fill = unshaded_fill (is_quiet g o) b in
    let shadowed = shadows.shadowed b k home (λ none. shadow.1.1 (stands ∙ none)) in
    let some : before.home b ≢ 0 = λ none. (omega (arith, none, home)) in
    let frame : before.home b - 1 ≡ k = omega (arith, home) in
    let named : shadow_frame (before.shadow k) ≡ s = ap shadow_frame (sym stands) in
    let twin : IsTwin g (copy_sight before) b s = record {
      equal = λ i index. ap (λ n. before.mem n i) (sym named) ∙ sym (shadowed.equal i index) ∙ ap (λ n. before.mem n i) (sym frame) ∙ sym (value_home before.home before.mem b i some);
      unwritable = shadowed.unwritable;
      clean = shadowed.clean;
    } in
    let keeps = unread_keeps (words.Shadow k) 0 m.word tt in
    let sets : Sets before.fill after.fill a s (Some fill) = fill_put a (record { frame = s; fill = fill }) new m.view (unshaded_is g b shadow.0 o (op_on view b) view.owned on.1.0 shadow.1.0) in
    law_unshaded g before after a b s o holders
    (edit_sets a b (shaded b None) o new m.view (λ o. refl) refl on.1.0) on.1.0
    (record { pte = keeps.pte; home = keeps.home; mem = keeps.mem; entry = entries_before a new m.view (λ v e is. is) })
    (λ c f x is. edited (λ c f x. (before.fill c f ≡ Some x) ⊎ ((c ≡ a) × ((f ≡ s) × ((x ≡ Equal b) ⊎ (x ≡ Raw))))) before.fill after.fill a s fill sets
    (inr (refl, (refl, fill_unshaded (is_quiet g o) b))) (λ c f x apart was. inl was) c f x is)
    twin h
