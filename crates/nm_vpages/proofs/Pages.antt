-- The virtual pages of a backing page.
use Rattle.std.proofs.Common.{◌≡◌, ◌≢◌, ℕ, zero, suc, ◌+◌, ◌-◌, ◌<◌, ◌≤◌, cond, Bool, true, false, inl, inr, List, [], ◌∷◌, ◌++◌, length, get_or, take, Option, Some, None, refl, sym, ap, ◌∙◌, subst, arith}
use Rattle.std.proofs.Math.Seq.{take-length}
use Rattle.std.proofs.lemmas.Bool.{cases_lt}
use Rattle.std.proofs.lemmas.Bool.Decides.{nat_tests}
use Rattle.std.proofs.lemmas.List.{take_more, append-nil, get_or_past}
use Rattle.std.proofs.lemmas.List.Elements.{All-nil, All-cons}
use Rattle.std.proofs.Common.{length-take-le}
use Rattle.std.specs.Prelude.{option_map}
use Rattle.nm_base.specs.Geometry.{IsNextVPage, backing_among}
use Rattle.nm_base.specs.declared.geometry.VPage.{VPage}
use Rattle.nm_view.specs.Opening.{is_mapped_to}
use Rattle.nm_vpages.specs.VPages.{vpages_among, AreBelow}

cond-push : {A : Type 0} (t : Bool) (x : A) (xs ys : List A) → cond t (x ∷ (xs ++ ys)) (xs ++ ys) ≡ cond t (x ∷ xs) xs ++ ys
cond-push true x xs ys = refl
cond-push false x xs ys = refl

-- one virtual page more
pub vpages-push : (page : ℕ) (vs : List (Option VPage)) (p : Option VPage) (v w : ℕ) → w ≡ v + length vs
    → vpages_among page (vs ++ p ∷ []) v ≡ vpages_among page vs v ++ cond (is_mapped_to page p) (w ∷ []) []
vpages-push page [] p v w e = let at : v ≡ w = omega arith in ap (λ (n : ℕ). cond (is_mapped_to page p) (n ∷ []) []) at
vpages-push page (x ∷ xs) p v w e =
    let rest = vpages-push page xs p (v + 1) w (omega arith) in
    ap (λ (l : List ℕ). cond (is_mapped_to page x) (v ∷ l) l) rest
    ∙ cond-push (is_mapped_to page x) v (vpages_among page xs (v + 1)) (cond (is_mapped_to page p) (w ∷ []) [])

below-cons : (x n : ℕ) (xs : List ℕ) → x < n → AreBelow n xs → AreBelow n (x ∷ xs)
below-cons x n xs lt h = All-cons (λ u. u < n) x xs lt h

cond-below : (t : Bool) (x n : ℕ) (xs : List ℕ) → x < n → AreBelow n xs → AreBelow n (cond t (x ∷ xs) xs)
cond-below true x n xs lt h = below-cons x n xs lt h
cond-below false x n xs lt h = h

-- they are below the number after the last
pub vpages-below : (page : ℕ) (vs : List (Option VPage)) (v n : ℕ) → v + length vs ≤ n → AreBelow n (vpages_among page vs v)
vpages-below page [] v n h = All-nil _
vpages-below page (x ∷ xs) v n h = cond-below (is_mapped_to page x) v n (vpages_among page xs (v + 1)) (omega arith) (vpages-below page xs (v + 1) n (omega arith))

pub vpages-more : (page : ℕ) (vs : List (Option VPage)) (i : ℕ) → i < length vs
    → vpages_among page (take (i + 1) vs) 0 ≡ vpages_among page (take i vs) 0 ++ cond (is_mapped_to page (get_or vs i None)) (i ∷ []) []
vpages-more page vs i lt =
    let size : i ≡ 0 + length (take i vs) = omega (arith, length-take-le i vs (omega arith)) in
    ap (λ (l : List (Option VPage)). vpages_among page l 0) (take_more vs i None lt) ∙ vpages-push page (take i vs) (get_or vs i None) 0 i size

pub vpages-front : (page : ℕ) (vs : List (Option VPage)) (i : ℕ) → i ≤ length vs → AreBelow i (vpages_among page (take i vs) 0)
vpages-front page vs i le = vpages-below page (take i vs) 0 i (omega (arith, length-take-le i vs le))

mapped-yes : (page : ℕ) (p : Option VPage) → option_map (λ (v : VPage). v.page) p ≡ Some page → is_mapped_to page p ≡ true
mapped-yes page None e = absurd (cc)
mapped-yes page (Some p) e = let same : p.page ≡ page = cc in grind (arith, nat_tests)

mapped-no : (page : ℕ) (p : Option VPage) → option_map (λ (v : VPage). v.page) p ≢ Some page → is_mapped_to page p ≡ false
mapped-no page None h = refl
mapped-no page (Some p) h = let differ : p.page ≢ page = λ e. h (ap Some e) in grind (arith, nat_tests)

-- where no virtual page of so many from one on is of the page, they are the same up to their end
vpages-skip : (page : ℕ) (vs : List (Option VPage)) (i n : ℕ) → i + n ≤ length vs → ((v : ℕ) → i ≤ v → v < i + n → backing_among vs v ≢ Some page)
    → vpages_among page (take (i + n) vs) 0 ≡ vpages_among page (take i vs) 0
vpages-skip page vs i zero low none = let same : i + zero ≡ i = omega arith in ap (λ (k : ℕ). vpages_among page (take k vs) 0) same
vpages-skip page vs i (suc n) low none =
    let at : i + suc n ≡ i + n + 1 = omega arith in
    let more = vpages-more page vs (i + n) (omega arith) in
    let not = mapped-no page (get_or vs (i + n) None) (none (i + n) (omega arith) (omega arith)) in
    ap (λ (k : ℕ). vpages_among page (take k vs) 0) at
    ∙ more
    ∙ ap (λ (t : Bool). vpages_among page (take (i + n) vs) 0 ++ cond t ((i + n) ∷ []) []) not
    ∙ append-nil (vpages_among page (take (i + n) vs) 0)
    ∙ vpages-skip page vs i n (omega arith) (λ v ge lt. none v ge (omega arith))

past-none : (vs : List (Option VPage)) (page v : ℕ) → backing_among vs v ≡ Some page → v < length vs
past-none vs page v e = elim (cases_lt v (length vs)) [
  | inl low ↦ low
  | inr past ↦ let none : backing_among vs v ≡ None = ap (option_map (λ (p : VPage). p.page)) (get_or_past vs v None past) in absurd (cc)
]

-- a virtual page of the page is one of the geometry
pub vpage-within : (vs : List (Option VPage)) (page i v : ℕ) → IsNextVPage vs page i v → v < length vs
vpage-within vs page i v h = past-none vs page v h.is

-- up to the next virtual page of the page there is none
pub vpages-upto : (page : ℕ) (vs : List (Option VPage)) (i v : ℕ) → IsNextVPage vs page i v → vpages_among page (take v vs) 0 ≡ vpages_among page (take i vs) 0
vpages-upto page vs i v h =
    let at : i + (v - i) ≡ v = omega (arith, h.from) in
    let low = vpage-within vs page i v h in
    ap (λ (k : ℕ). vpages_among page (take k vs) 0) (sym at) ∙ vpages-skip page vs i (v - i) (omega arith) (λ u ge lt e. omega (arith, h.least u ge e))

-- and with it there is one more
pub vpages-next : (page : ℕ) (vs : List (Option VPage)) (i v : ℕ) → IsNextVPage vs page i v → vpages_among page (take (v + 1) vs) 0 ≡ vpages_among page (take i vs) 0 ++ v ∷ []
vpages-next page vs i v h =
    vpages-more page vs v (vpage-within vs page i v h)
    ∙ ap (λ (t : Bool). vpages_among page (take v vs) 0 ++ cond t (v ∷ []) []) (mapped-yes page (get_or vs v None) h.is)
    ∙ ap (λ (l : List ℕ). l ++ v ∷ []) (vpages-upto page vs i v h)

-- where there is no further one, they are all
pub vpages-over : (page : ℕ) (vs : List (Option VPage)) (i : ℕ) → i ≤ length vs → ((v : ℕ) → i ≤ v → backing_among vs v ≢ Some page) → vpages_among page (take i vs) 0 ≡ vpages_among page vs 0
vpages-over page vs i low none =
    let at : i + (length vs - i) ≡ length vs = omega arith in
    sym (ap (λ (l : List (Option VPage)). vpages_among page l 0) (sym (take-length vs)) ∙ ap (λ (k : ℕ). vpages_among page (take k vs) 0) (sym at) ∙ vpages-skip page vs i (length vs - i) (omega arith) (λ v ge lt. none v ge))

-- those before a next one are below it
pub vpages-before : (page : ℕ) (vs : List (Option VPage)) (i v : ℕ) (pages : List ℕ) → i ≤ length vs → pages ≡ vpages_among page (take i vs) 0 → IsNextVPage vs page i v → AreBelow v pages
vpages-before page vs i v pages low is h =
    subst (AreBelow v) (vpages-upto page vs i v h ∙ sym is) (vpages-front page vs v (omega (arith, vpage-within vs page i v h)))
