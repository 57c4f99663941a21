-- The numbers whose bits are set, in order.
use Rattle.std.proofs.Common.{◌≡◌, ℕ, zero, suc, ◌+◌, ◌-◌, ◌<◌, ◌≤◌, nat_le, cond, Bool, true, false, inl, inr, List, [], ◌∷◌, ◌++◌, length, get_or, All, refl, sym, ap, ◌∙◌, subst, arith}
use Rattle.std.proofs.lemmas.Bool.{cases_eq}
use Rattle.std.proofs.lemmas.Bool.Decides.{nat_tests}
use Rattle.std.proofs.lemmas.List.Elements.{filter-append}
use Rattle.std.proofs.Common.{not, Option, Some, None, IsTrue, IfSome, IfNone, ◌↔◌}
use Rattle.std.specs.Option.{is_some}
use Rattle.nm_vpages.specs.Bits.{has_bit, members_from}
use Rattle.nm_vpages.specs.VPages.{at_or_after}

-- One number more.

cond-append : {A : Type 0} (t : Bool) (x : A) (a b : List A) → cond t (x ∷ (a ++ b)) (a ++ b) ≡ cond t (x ∷ a) a ++ b
cond-append true x a b = refl
cond-append false x a b = refl

cond-all : {A : Type 0} (P : A → Type 0) (t : Bool) (x : A) (xs : List A) → All P (cond t (x ∷ xs) xs) → (t ≡ true → P x) × All P xs
cond-all P true x xs h = (λ e. h zero x (omega arith), λ i d lt. h (suc i) d (omega arith))
cond-all P false x xs h = (λ e. cc, h)

all-cons-at : {A : Type 0} (P : A → Type 0) (x : A) (xs : List A) → P x → All P xs → (i : ℕ) (d : A) → i < length (x ∷ xs) → P (get_or (x ∷ xs) i d)
all-cons-at P x xs p h zero d lt = p
all-cons-at P x xs p h (suc i) d lt = h i d (omega arith)

all-cond : {A : Type 0} (P : A → Type 0) (t : Bool) (x : A) (xs : List A) → P x → All P xs → All P (cond t (x ∷ xs) xs)
all-cond P true x xs p h = λ i d lt. all-cons-at P x xs p h i d lt
all-cond P false x xs p h = h

-- Parts of the numbers.

-- where the bits are the same
pub members-same : (ws us : List ℕ) (first more : ℕ) → ((u : ℕ) → first ≤ u → u < first + more → has_bit us u ≡ has_bit ws u) → members_from us first more ≡ members_from ws first more
members-same ws us first zero same = refl
members-same ws us first (suc more) same =
    let rest = members-same ws us (first + 1) more (λ u ge lt. same u (omega arith) (omega arith)) in
    ap (λ (t : Bool). cond t (first ∷ members_from us (first + 1) more) (members_from us (first + 1) more)) (same first (omega arith) (omega arith))
    ∙ ap (λ (l : List ℕ). cond (has_bit ws first) (first ∷ l) l) rest

-- where no bit is set
pub members-none : (ws : List ℕ) (first more : ℕ) → ((u : ℕ) → first ≤ u → u < first + more → has_bit ws u ≡ false) → members_from ws first more ≡ []
members-none ws first zero none = refl
members-none ws first (suc more) none =
    ap (λ (t : Bool). cond t (first ∷ members_from ws (first + 1) more) (members_from ws (first + 1) more)) (none first (omega arith) (omega arith))
    ∙ members-none ws (first + 1) more (λ u ge lt. none u (omega arith) (omega arith))

-- where the first bit is set
pub members-first : (ws : List ℕ) (first more : ℕ) → has_bit ws first ≡ true → members_from ws first (suc more) ≡ first ∷ members_from ws (first + 1) more
members-first ws first more set = ap (λ (t : Bool). cond t (first ∷ members_from ws (first + 1) more) (members_from ws (first + 1) more)) set

-- so many, and then the others
pub members-split : (ws : List ℕ) (first some more all : ℕ) → all ≡ some + more → members_from ws first all ≡ members_from ws first some ++ members_from ws (first + some) more
members-split ws first zero more all e =
    let same : all ≡ more = omega arith in
    let at : first ≡ first + 0 = omega arith in
    ap (members_from ws first) same ∙ ap (λ (n : ℕ). members_from ws n more) at
members-split ws first (suc some) more zero e = absurd (omega arith)
members-split ws first (suc some) more (suc all) e =
    let rest = members-split ws (first + 1) some more all (omega arith) in
    let at : first + 1 + some ≡ first + suc some = omega arith in
    let L : List ℕ = members_from ws (first + 1) some in
    ap (λ (l : List ℕ). cond (has_bit ws first) (first ∷ l) l) (rest ∙ ap (λ (n : ℕ). L ++ members_from ws n more) at)
    ∙ cond-append (has_bit ws first) first L (members_from ws (first + suc some) more)

-- what holds of each of them holds of a number whose bit is set
pub bit-holds : (P : ℕ → Type 0) (ws : List ℕ) (first more : ℕ) → All P (members_from ws first more) → (u : ℕ) → first ≤ u → u < first + more → has_bit ws u ≡ true → P u
bit-holds P ws first zero h u ge lt set = absurd (omega arith)
bit-holds P ws first (suc more) h u ge lt set =
    let parts = cond-all P (has_bit ws first) first (members_from ws (first + 1) more) h in
    elim (cases_eq first u) [
      | inl same ↦ subst P same (parts.0 (subst (λ (n : ℕ). has_bit ws n ≡ true) (sym same) set))
      | inr other ↦ bit-holds P ws (first + 1) more parts.1 u (omega arith) (omega arith) set
    ]

-- The numbers that are at least one.

at-least-cond-no : (ws : List ℕ) (k first more : ℕ) (t : Bool) → nat_le k first ≡ false → at_or_after k (members_from ws (first + 1) more) ≡ []
    → at_or_after k (cond t (first ∷ members_from ws (first + 1) more) (members_from ws (first + 1) more)) ≡ []
at-least-cond-no ws k first more true skips rest = rw skips rest
at-least-cond-no ws k first more false skips rest = rest

at-least-cond-yes : (ws : List ℕ) (k first more : ℕ) (t : Bool) → nat_le k first ≡ true → at_or_after k (members_from ws (first + 1) more) ≡ members_from ws (first + 1) more
    → at_or_after k (cond t (first ∷ members_from ws (first + 1) more) (members_from ws (first + 1) more)) ≡ cond t (first ∷ members_from ws (first + 1) more) (members_from ws (first + 1) more)
at-least-cond-yes ws k first more true keeps rest = rw keeps (ap (λ (l : List ℕ). first ∷ l) rest)
at-least-cond-yes ws k first more false keeps rest = rest

at-least-none : (ws : List ℕ) (k first more : ℕ) → first + more ≤ k → at_or_after k (members_from ws first more) ≡ []
at-least-none ws k first zero h = refl
at-least-none ws k first (suc more) h = at-least-cond-no ws k first more (has_bit ws first) (grind (arith, nat_tests)) (at-least-none ws k (first + 1) more (omega arith))

at-least-all : (ws : List ℕ) (k first more : ℕ) → k ≤ first → at_or_after k (members_from ws first more) ≡ members_from ws first more
at-least-all ws k first zero h = refl
at-least-all ws k first (suc more) h = at-least-cond-yes ws k first more (has_bit ws first) (grind (arith, nat_tests)) (at-least-all ws k (first + 1) more (omega arith))

pub at-least-from : (ws : List ℕ) (k all : ℕ) → k ≤ all → at_or_after k (members_from ws 0 all) ≡ members_from ws k (all - k)
at-least-from ws k all h =
    let split = members-split ws 0 k (all - k) all (omega arith) in
    let at : 0 + k ≡ k = omega arith in
    ap (at_or_after k) split
    ∙ filter-append (nat_le k) (members_from ws 0 k) (members_from ws (0 + k) (all - k))
    ∙ ap (λ (l : List ℕ). l ++ at_or_after k (members_from ws (0 + k) (all - k))) (at-least-none ws k 0 k (omega arith))
    ∙ at-least-all ws k (0 + k) (all - k) (omega arith)
    ∙ ap (λ (n : ℕ). members_from ws n (all - k)) at

pub at-least-past : (ws : List ℕ) (k all : ℕ) → all ≤ k → at_or_after k (members_from ws 0 all) ≡ []
at-least-past ws k all h = at-least-none ws k 0 all (omega arith)

few-cond : (t : Bool) (x : ℕ) (xs : List ℕ) (n : ℕ) → length xs ≤ n → length (cond t (x ∷ xs) xs) ≤ suc n
few-cond true x xs n h = omega arith
few-cond false x xs n h = omega arith

-- there are no more of them than there are numbers
pub members-few : (ws : List ℕ) (first more : ℕ) → length (members_from ws first more) ≤ more
members-few ws first zero = omega arith
members-few ws first (suc more) = few-cond (has_bit ws first) first (members_from ws (first + 1) more) more (members-few ws (first + 1) more)

-- all numbers are at least 0
pub at-least-zero : (pages : List ℕ) → at_or_after 0 pages ≡ pages
at-least-zero [] = refl
at-least-zero (v ∷ pages) =
    let kept : nat_le 0 v ≡ true = grind (arith, nat_tests) in
    ap (λ (t : Bool). cond t (v ∷ at_or_after 0 pages) (at_or_after 0 pages)) kept ∙ ap (λ (l : List ℕ). v ∷ l) (at-least-zero pages)

-- the first of them: there is none exactly where the list is empty
pub none-first : (pages : List ℕ) (next : Option ℕ) (none : Bool) → is_some next ≡ not none → IfSome next (λ v. at_or_after 0 pages ≡ v ∷ at_or_after (v + 1) pages) → IfNone next (at_or_after 0 pages ≡ [])
    → IsTrue none ↔ (pages ≡ [])
none-first pages None true e some nothing = (λ t. sym (at-least-zero pages) ∙ nothing, λ is. refl)
none-first pages None false e some nothing = cc
none-first pages (Some v) true e some nothing = cc
none-first pages (Some v) false e some nothing = (λ t. cc, λ is. let h : v ∷ at_or_after (v + 1) pages ≡ [] = sym some ∙ at-least-zero pages ∙ is in cc)

-- and there is none after it exactly where it is the only one
pub none-after : (pages : List ℕ) (v least : ℕ) (next : Option ℕ) (none : Bool) → at_or_after 0 pages ≡ least ∷ at_or_after (least + 1) pages → least ≡ v
    → is_some next ≡ not none → IfSome next (λ u. at_or_after (least + 1) pages ≡ u ∷ at_or_after (u + 1) pages) → IfNone next (at_or_after (least + 1) pages ≡ [])
    → IsTrue none ↔ (pages ≡ v ∷ [])
none-after pages v least None true is-first same e some nothing =
    (λ t. sym (at-least-zero pages) ∙ is-first ∙ ap (λ (l : List ℕ). least ∷ l) nothing ∙ ap (λ (n : ℕ). n ∷ []) same, λ is. refl)
none-after pages v least None false is-first same e some nothing = cc
none-after pages v least (Some u) true is-first same e some nothing = cc
none-after pages v least (Some u) false is-first same e some nothing =
    (λ t. cc, λ is. let h : least ∷ (u ∷ at_or_after (u + 1) pages) ≡ v ∷ [] = ap (λ (l : List ℕ). least ∷ l) (sym some) ∙ sym is-first ∙ at-least-zero pages ∙ is in cc)
