-- The virtual pages of each backing page, in chains.
use Rattle.std.proofs.Common.{◌≡◌, ◌≢◌, ℕ, ◌+◌, ◌-◌, ◌<◌, ◌≤◌, List, length, get_or, set, Option, Some, None, inl, inr, sym, ap, ◌∙◌, subst, arith, length-set}
use Rattle.std.proofs.lemmas.Bool.{cases_eq, cases_lt}
use Rattle.std.proofs.lemmas.List.{get_or-set_same, get_or-set_other, get_or_past, get_or_default}
use Rattle.std.specs.Prelude.{option_map}
use Rattle.nm_base.specs.declared.geometry.VPage.{VPage}
use Rattle.nm_base.specs.Geometry.{backing_among}
use Rattle.nm_base.specs.Chains.{IsNextIn, IsNextFromBelow, AreChains}
use Rattle.nm_base.proofs.Pages.{backing_among-lt}

-- there is nothing past the last virtual page
none_past : (vs : List (Option VPage)) (page v : ℕ) → length vs ≤ v → backing_among vs v ≢ Some page
none_past vs page v past e =
    let none : backing_among vs v ≡ None = ap (option_map (λ (p : VPage). p.page)) (get_or_past vs v None past) in
    cc

pub mapped_below : (vs : List (Option VPage)) (page v : ℕ) → backing_among vs v ≡ Some page → v < length vs
mapped_below vs page v e = elim (cases_lt v (length vs)) [
  | inl low ↦ low
  | inr past ↦ absurd (none_past vs page v past e)
]

-- what there is from one virtual page on, where that one is not of the page
next-skips : (vs : List (Option VPage)) (page i : ℕ) (next : Option ℕ) → backing_among vs i ≢ Some page → IsNextIn vs page (i + 1) next → IsNextIn vs page i next
next-skips vs page i None other h = λ v ge e. elim (cases_eq v i) [
  | inl same ↦ other (subst (λ (n : ℕ). backing_among vs n ≡ Some page) same e)
  | inr differ ↦ h v (omega arith) e
]
next-skips vs page i (Some n) other h = record {
  is = h.is;
  from = omega (arith, h.from);
  least = λ u ge e. elim (cases_eq u i) [
    | inl same ↦ absurd (other (subst (λ (n : ℕ). backing_among vs n ≡ Some page) same e))
    | inr differ ↦ h.least u (omega arith) e
  ];
}

-- the first virtual page is itself the next one from it on
next-here : (vs : List (Option VPage)) (page i : ℕ) → backing_among vs i ≡ Some page → IsNextIn vs page i (Some i)
next-here vs page i e = record { is = e; from = omega arith; least = λ u ge _. ge }

some-same : (a b : ℕ) → Some a ≡ Some b → a ≡ b
some-same a b e = cc

-- a mapped one is linked before the first of its backing page
pub chains-link : (vs : List (Option VPage)) (i : ℕ) (first next : List (Option ℕ)) (p : VPage) → get_or vs i None ≡ Some p → AreChains vs (i + 1) first next
    → AreChains vs i (set first p.page (Some i)) (set next i (get_or first p.page None))
chains-link vs i first next p is h =
    let here : backing_among vs i ≡ Some p.page = ap (option_map (λ (p : VPage). p.page)) is in
    let inside : i < length vs = mapped_below vs p.page i here in
    let there : p.page < length first = omega (arith, backing_among-lt vs i p.page here, h.pages) in
    record {
      pages = length-set first p.page (Some i) ∙ h.pages;
      vpages = length-set next i (get_or first p.page None) ∙ h.vpages;
      least = λ page. elim (cases_eq page p.page) [
        | inl same ↦
            let at : get_or (set first p.page (Some i)) page None ≡ Some i = ap (λ (n : ℕ). get_or (set first p.page (Some i)) n None) same ∙ get_or-set_same first p.page (Some i) None there in
            subst (IsNextIn vs page i) (sym at) (next-here vs page i (here ∙ ap Some (sym same)))
        | inr differ ↦
            let at = get_or-set_other first p.page page (Some i) None differ in
            subst (IsNextIn vs page i) (sym at) (next-skips vs page i (get_or first page None) (λ e. differ (some-same page p.page (sym e ∙ here))) (h.least page))
      ];
      after = λ v page ge e. elim (cases_eq v i) [
        | inl same ↦
            let at : get_or (set next i (get_or first p.page None)) v None ≡ get_or first p.page None = ap (λ (n : ℕ). get_or (set next i (get_or first p.page None)) n None) same ∙ get_or-set_same next i (get_or first p.page None) None (omega (arith, h.vpages)) in
            let its : page ≡ p.page = some-same page p.page (sym e ∙ ap (backing_among vs) same ∙ here) in
            let rest : IsNextIn vs page (i + 1) (get_or first p.page None) = subst (λ (n : ℕ). IsNextIn vs page (i + 1) (get_or first n None)) its (h.least page) in
            subst (IsNextIn vs page (v + 1)) (sym at) (subst (λ (n : ℕ). IsNextIn vs page (n + 1) (get_or first p.page None)) (sym same) rest)
        | inr differ ↦
            let at = get_or-set_other next i v (get_or first p.page None) None differ in
            subst (IsNextIn vs page (v + 1)) (sym at) (h.after v page (omega arith) e)
      ];
    }

-- from a start on that is at most this one, none, or one that is at least this one
pub next-none : (vs : List (Option VPage)) (page from : ℕ) → IsNextFromBelow vs page from None → IsNextIn vs page from None
next-none vs page from h = λ v ge e. h.is v (omega (arith, h.below)) e

pub next-some : (vs : List (Option VPage)) (page from v : ℕ) → from ≤ v → IsNextFromBelow vs page from (Some v) → IsNextIn vs page from (Some v)
next-some vs page from v ge h = record { is = h.is.is; from = ge; least = λ u up e. h.is.least u (omega (arith, h.below)) e }

-- how many virtual pages are left where a chain has come so far
abbrev pub left_at : ℕ → Option ℕ → ℕ
left_at all None = 0
left_at all (Some v) = all - v

pub left_at-less : (vs : List (Option VPage)) (page v : ℕ) (next : Option ℕ) → v < length vs → IsNextIn vs page (v + 1) next → left_at (length vs) next < left_at (length vs) (Some v)
left_at-less vs page v None low h = omega arith
left_at-less vs page v (Some u) low h = omega (arith, h.from)

-- what a chain has after one of its virtual pages
pub next-after : (vs : List (Option VPage)) (first next : List (Option ℕ)) (page v : ℕ) (found : Option ℕ) → AreChains vs 0 first next → backing_among vs v ≡ Some page → found ≡ get_or next v found
    → IsNextIn vs page (v + 1) found
next-after vs first next page v found h e read =
    let low : v < length next = omega (arith, mapped_below vs page v e, h.vpages) in
    subst (IsNextIn vs page (v + 1)) (get_or_default next v None found low ∙ sym read) (h.after v page (omega arith) e)

-- the search begins there, or goes on there
pub start-after : (vs : List (Option VPage)) (first next : List (Option ℕ)) (page from v : ℕ) (found : Option ℕ) → AreChains vs 0 first next → backing_among vs v ≡ Some page → v + 1 ≤ from → found ≡ get_or next v found
    → IsNextFromBelow vs page from found
start-after vs first next page from v found h e low read = record { start = v + 1; below = low; is = next-after vs first next page v found h e read }

-- a virtual page to which a search has come is of the page
pub come_to : (vs : List (Option VPage)) (page from v : ℕ) (at : Option ℕ) → IsNextFromBelow vs page from at → at ≡ Some v → backing_among vs v ≡ Some page
come_to vs page from v at h e = let some : IsNextFromBelow vs page from (Some v) = subst (IsNextFromBelow vs page from) e h in some.is.is

-- the chains after a link
pub chains-linked : (vs : List (Option VPage)) (i j : ℕ) (first next now then : List (Option ℕ)) (p : VPage) → j ≡ i + 1 → get_or vs i None ≡ Some p → AreChains vs j first next
    → now ≡ set first p.page (Some i) → then ≡ set next i (get_or first p.page None) → AreChains vs i now then
chains-linked vs i j first next now then p e is h f n =
    subst (λ (l : List (Option ℕ)). AreChains vs i l then) (sym f)
    (subst (AreChains vs i (set first p.page (Some i))) (sym n) (chains-link vs i first next p is (subst (λ (k : ℕ). AreChains vs k first next) e h)))
