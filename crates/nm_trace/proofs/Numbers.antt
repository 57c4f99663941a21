-- Two references have one page number exactly where they have one page.
use Rattle.std.proofs.Common.{◌≡◌, ◌+◌, ℕ, true, nat_eq, List, [], ◌∷◌, ◌++◌, get_or, refl, sym, ap, subst, ◌∙◌, inl, inr, arith, append_assoc}
use Rattle.std.specs.List.{AllByRecursion, list_any}
use Rattle.std.proofs.lemmas.Bool.{cases_Bool, eqb-true}
use Rattle.std.proofs.lemmas.List.{append-nil}
use Rattle.std.proofs.lemmas.List.Elements.{All-from_recursion}
use Rattle.nm_trace.specs.declared.reference.Reference.{Reference}
use Rattle.nm_trace.specs.Imports.{referenced_page, pages_seen, page_number}
use Rattle.nm_trace.specs.Laws.{HasOwnNumbers}
use Rattle.nm_trace.specs.Drafts.{IsPageSeen}
use Rattle.nm_trace.proofs.Pages.{seen-push}

-- pages with one place in a list are one
same-place : (ks : List ℕ) (j k : ℕ) → list_any (nat_eq j) ks ≡ true → list_any (nat_eq k) ks ≡ true → page_number ks j ≡ page_number ks k → j ≡ k
same-place [] j k a b e = cc a
same-place (x ∷ ks) j k a b e = elim (cases_Bool (nat_eq j x)) [
  | inl p ↦
      elim (cases_Bool (nat_eq k x)) [
        | inl q ↦ eqb-true j x p ∙ sym (eqb-true k x q)
        | inr q ↦
            let first : page_number (x ∷ ks) j ≡ 0 = rw p refl in
            let later : page_number (x ∷ ks) k ≡ 1 + page_number ks k = rw q refl in
            absurd (omega (arith, first, later, e))
      ]
  | inr p ↦
      elim (cases_Bool (nat_eq k x)) [
        | inl q ↦
            let later : page_number (x ∷ ks) j ≡ 1 + page_number ks j = rw p refl in
            let first : page_number (x ∷ ks) k ≡ 0 = rw q refl in
            absurd (omega (arith, first, later, e))
        | inr q ↦
            let one : page_number (x ∷ ks) j ≡ 1 + page_number ks j = rw p refl in
            let other : page_number (x ∷ ks) k ≡ 1 + page_number ks k = rw q refl in
            same-place ks j k (rw p at a) (rw q at b) (omega (arith, one, other, e))
      ]
]

seen-all : (front rest : List Reference) → AllByRecursion (IsPageSeen (pages_seen front)) front → AllByRecursion (IsPageSeen (pages_seen (front ++ rest))) (front ++ rest)
seen-all front [] h = subst (λ l. AllByRecursion (IsPageSeen (pages_seen l)) l) (sym (append-nil front)) h
seen-all front (r ∷ rest) h = subst (λ l. AllByRecursion (IsPageSeen (pages_seen l)) l) (append_assoc front (r ∷ []) rest) (seen-all (front ++ r ∷ []) rest (seen-push front r h))

pub own-numbers : (refs : List Reference) → HasOwnNumbers refs
own-numbers refs i j d h k =
    let seen = All-from_recursion (IsPageSeen (pages_seen refs)) refs (seen-all [] refs tt) in
    (same-place (pages_seen refs) (referenced_page (get_or refs i d)) (referenced_page (get_or refs j d)) (seen i d h) (seen j d k), λ e. ap (page_number (pages_seen refs)) e)
