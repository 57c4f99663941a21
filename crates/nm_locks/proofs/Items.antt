-- Lists of looked and taken words after one was put, joined or erased, and the one virtual page that an operation names.
use Rattle.std.proofs.Common.{◌≡◌, ◌≢◌, ℕ, ◌&&◌, Bool, true, false, List, [], ◌∷◌, ◌++◌, Option, Some, None, IsSome, IsSomeAnd, IfSome, All, refl, sym, ap, subst, ◌∙◌, ◌⊎◌, inl, inr, arith}
use Rattle.std.proofs.lemmas.Bool.{cases_eq}
use Rattle.nm_base.specs.Geometry.{Geometry}
use Rattle.nm_view.specs.declared.view.Phase.{Phase}
use Rattle.nm_view.specs.declared.view.Phase.TheVariants.{Held, Cleared, Taken}
use Rattle.nm_view.specs.Lists.{find, edit, erase, put, first, Once}
use Rattle.nm_view.specs.Views.{Op}
use Rattle.nm_view.specs.Operations.{page_of, names_one, IsLookedOver}
use Rattle.nm_view.proofs.Items.{all_find, all_head, all_tail, all_put, all_join}
use Rattle.nm_view.proofs.Finds.{find_number, find_put, find_put_other, find_join}
use Rattle.nm_event.specs.After.{has_some}
use Rattle.nm_event.specs.Fitting.{Agrees}
use Rattle.nm_world.specs.Sights.{WritesOne}
use Rattle.nm_world.specs.Notions.{IsAloneAt}
use Rattle.nm_world.proofs.Options.{some_and}

pub agrees_same : (n : ℕ) → Agrees n n
agrees_same n = record { absent = (λ e. e, λ e. e); frame = refl; writable = refl; saved = refl }

pub is_some_of : {A : Type 0} (o : Option A) (x : A) → o ≡ Some x → IsSome o
is_some_of o x is = rw is cc

pub not_some : {A : Type 0} (o : Option A) → o ≡ None → IsSome o → ⊥
not_some None is some = cc
not_some (Some x) is some = cc

-- after the word x of v was noted, each noted word agrees with the table, in which v has x
pub looked_put : (looked : List (ℕ × ℕ)) (v x : ℕ) (pte after : ℕ → ℕ) → WritesOne pte after v x → (u : ℕ) → (u ≢ v → IfSome (find first u looked) (λ p. Agrees p.1 (pte u))) → IfSome (find first u (put first (v, x) looked)) (λ p. Agrees p.1 (after u))
looked_put looked v x pte after writes u before =
    let Known : Option (ℕ × ℕ) → ℕ → Type 0 = λ o n. IfSome o (λ p. Agrees p.1 n) in
    elim (cases_eq u v) [
      | inl same ↦
          let At : ℕ → Type 0 = λ k. IfSome (find first k (put first (v, x) looked)) (λ p. Agrees p.1 (after k)) in
          subst At (sym same) (subst (λ (o : Option (ℕ × ℕ)). Known o (after v)) (sym (find_put first (v, x) looked)) (subst (Agrees x) (sym writes.here) (agrees_same x)))
      | inr other ↦
          subst (λ (o : Option (ℕ × ℕ)). Known o (after u)) (sym (find_put_other first (v, x) u looked (λ e. other (sym e))))
          (subst (Known (find first u looked)) (sym (writes.rest u other)) (before other))
    ]

-- what was looked at stays so
pub over_put : (g : Geometry) (page v x : ℕ) (looked : List (ℕ × ℕ)) → IsLookedOver g page looked → IsLookedOver g page (put first (v, x) looked)
over_put g page v x looked h u of =
    elim (cases_eq u v) [
      | inl same ↦ subst (λ (k : ℕ). IsSome (find first k (put first (v, x) looked))) (sym same) (is_some_of _ (v, x) (find_put first (v, x) looked))
      | inr other ↦ subst IsSome (sym (find_put_other first (v, x) u looked (λ e. other (sym e)))) (h u of)
    ]

-- a word that was looked at as not 0 is of the one virtual page, and so is a taken one
pub looked_one : (looked taken : List (ℕ × ℕ)) (v w : ℕ) → IsAloneAt looked taken w → IsSomeAnd (find first v looked) (λ p. p.1 ≢ 0) → v ≡ w
looked_one looked taken v w alone h =
    let p = some_and (find first v looked) (λ p. p.1 ≢ 0) h in
    sym (find_number first v looked p.0 p.1.0) ∙ all_find first v (λ p. p.1 ≢ 0 → p.0 ≡ w) looked p.0 alone.looks p.1.0 p.1.1

pub taken_one : (looked taken : List (ℕ × ℕ)) (v w : ℕ) (p : ℕ × ℕ) → IsAloneAt looked taken w → find first v taken ≡ Some p → v ≡ w
taken_one looked taken v w p alone is = sym (find_number first v taken p is) ∙ all_find first v (λ p. p.0 ≡ w) taken p alone.takes is

-- the one stays alone where v is noted: as not 0 only if v is the one, and as not 0 or taken if it is
pub alone_put : (looked taken : List (ℕ × ℕ)) (v x w : ℕ) → IsAloneAt looked taken w → (x ≢ 0 → v ≡ w) → (w ≡ v → (x ≢ 0) ⊎ IsSome (find first v taken)) → IsAloneAt (put first (v, x) looked) taken w
alone_put looked taken v x w alone only there = record {
  there = elim (cases_eq w v) [
    | inl same ↦ elim (there same) [
      | inl some ↦
          let At : Option (ℕ × ℕ) → Type 0 = λ o. IsSomeAnd o (λ p. p.1 ≢ 0) in
          inl (subst (λ (k : ℕ). At (find first k (put first (v, x) looked))) (sym same) (subst At (sym (find_put first (v, x) looked)) some))
      | inr took ↦ inr (subst (λ (k : ℕ). IsSome (find first k taken)) (sym same) took)
    ]
    | inr other ↦ elim alone.there [
      | inl some ↦ inl (subst (λ (o : Option (ℕ × ℕ)). IsSomeAnd o (λ p. p.1 ≢ 0)) (sym (find_put_other first (v, x) w looked (λ e. other (sym e)))) some)
      | inr took ↦ inr took
    ]
  ];
  looks = all_put first (λ p. p.1 ≢ 0 → p.0 ≡ w) (v, x) looked only alone.looks;
  takes = alone.takes;
}

-- the one stays alone where its word is taken
pub alone_taken : (looked taken : List (ℕ × ℕ)) (v n w : ℕ) → IsAloneAt looked taken w → v ≡ w → find first v taken ≡ None → IsAloneAt looked (taken ++ (v, n) ∷ []) w
alone_taken looked taken v n w alone same none = record {
  there = inr (subst (λ (k : ℕ). IsSome (find first k (taken ++ (v, n) ∷ []))) same (is_some_of _ (v, n) (find_join first (v, n) taken none)));
  looks = alone.looks;
  takes = all_join (λ p. p.0 ≡ w) taken (v, n) alone.takes same;
}

twice : (x y : ℕ × ℕ) (ys : List (ℕ × ℕ)) → y.0 ≡ x.0 → find first (first x) (y ∷ ys) ≡ None → ⊥
twice x y ys same none = grind (arith, same, none)

erased_rest : (x : ℕ × ℕ) (xs : List (ℕ × ℕ)) (v : ℕ) → x.0 ≡ v → erase first v (x ∷ xs) ≡ xs
erased_rest x xs v same = grind (arith, same)

only_one : (x : ℕ × ℕ) (xs : List (ℕ × ℕ)) (v : ℕ) → x.0 ≡ v → All (λ p. p.0 ≡ v) xs → find first (first x) xs ≡ None → has_some xs ≡ false
only_one x [] v same all none = refl
only_one x (y ∷ ys) v same all none = absurd (twice x y ys (all_head (λ p. p.0 ≡ v) y ys all ∙ sym same) none)

-- where one virtual page alone is taken, nothing is left without it
pub none_left_of : (v : ℕ) (taken : List (ℕ × ℕ)) → All (λ p. p.0 ≡ v) taken → Once first taken → has_some (erase first v taken) ≡ false
none_left_of v [] all once = refl
none_left_of v (x ∷ xs) all once =
    let head : x.0 ≡ v = all_head (λ p. p.0 ≡ v) x xs all in
    ap has_some (erased_rest x xs v head) ∙ only_one x xs v head (all_tail (λ p. p.0 ≡ v) x xs all) once.0

-- which operations name a virtual page

pub named_taken : (phase : Phase) (cleared moved : Bool) → names_one Taken cleared moved ≡ true → names_one phase cleared moved ≡ true
named_taken Held cleared moved is = is
named_taken Cleared cleared moved is = refl
named_taken Taken cleared moved is = is

pub named_mapped : (phase : Phase) (cleared more moved : Bool) → phase ≢ Cleared → names_one phase (cleared && more) moved ≡ true → (cleared ≡ true) × (more ≡ true) × (moved ≡ false)
named_mapped Cleared cleared more moved apart is = absurd (apart refl)
named_mapped Held true true false apart is = (refl, refl, refl)
named_mapped Held true true true apart is = absurd cc
named_mapped Held true false moved apart is = absurd cc
named_mapped Held false more moved apart is = absurd cc
named_mapped Taken true true false apart is = (refl, refl, refl)
named_mapped Taken true true true apart is = absurd cc
named_mapped Taken true false moved apart is = absurd cc
named_mapped Taken false more moved apart is = absurd cc

pub named_again : (phase : Phase) (cleared moved : Bool) → cleared ≡ true → moved ≡ false → names_one phase cleared moved ≡ true
named_again Held true false is same = refl
named_again Cleared cleared moved is same = refl
named_again Taken true false is same = refl
named_again phase false moved is same = absurd cc
named_again phase true true is same = absurd cc

-- an edit of an item that is not there
pub edit_absent : (b : ℕ) (f : Op → Op) (ops : List Op) → find page_of b ops ≡ None → edit page_of b f ops ≡ ops
edit_absent b f [] none = refl
edit_absent b f (o ∷ ops) none = grind (arith, none, edit_absent b f ops)
