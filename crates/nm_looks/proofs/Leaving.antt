-- What Looks leave: for whoever runs them.
use Rattle.std.proofs.Common.{◌≡◌, ◌≢◌, ℕ, ◌==◌, if◌then◌else◌, Bool, true, false, List, [], ◌∷◌, map, All, Option, Some, None, IsSomeAnd, inl, inr, refl, sym, ap, ◌∙◌, subst, arith}
use Rattle.std.specs.List.{filter}
use Rattle.std.proofs.lemmas.Bool.{cases_eq}
use Rattle.nm_base.specs.Geometry.{Geometry}
use Rattle.nm_view.specs.Lists.{find, first, Once}
use Rattle.nm_view.specs.Views.{Op, View}
use Rattle.nm_view.specs.Operations.{page_of, op_on}
use Rattle.nm_view.proofs.Items.{all_head, all_tail, more, none_left}
use Rattle.nm_view.proofs.Places.{edit-none}
use Rattle.nm_mappings.specs.declared.visits.Visit.TheVariants as visits
use Rattle.nm_mappings.specs.Visits.{looks_made, visited, IsVisited}
use Rattle.nm_looks.specs.declared.seen.Seen.{Seen}
use Rattle.nm_looks.specs.Seeing.{LooksData, is_mapped_word, is_outside, HasLooked}

-- with no operation on the page they leave the view as it was
pub seen-alone : (made : LooksData) (view left : View) (seen : Seen) → HasLooked made view seen left → op_on view made.1.page ≡ None → left ≡ view
seen-alone made view left seen h none = h.is ∙ ap (λ (l : List Op). record view { ops = l }) (edit-none page_of made.1.page (visited visits.Look h.told) view.ops none)

-- they leave what the Looks leave that find the mapped virtual pages alone
pub seen-visited : (made : LooksData) (view left : View) (seen : Seen) → HasLooked made view seen left → IsVisited (looks_made made.1.page made.1.pages) view seen.mapped left
seen-visited made view left seen h = record { told = h.told; pages = h.pages; once = h.once; mapped = ap (λ (s : Seen). s.mapped) h.shown; is = h.is }

-- Those of which a test holds.

of-go : (P : ℕ → Type 0) (p : ℕ × ℕ) (test : ℕ × ℕ → Bool) (ps : List (ℕ × ℕ)) (t : Bool) → P p.0 → All P (map first (filter test ps)) → All P (map first (if t then p ∷ filter test ps else filter test ps))
of-go P p test ps true here h = more P p.0 (map first (filter test ps)) here h
of-go P p test ps false here h = h

-- what holds of all virtual pages holds of them
pub where-all : (P : ℕ → Type 0) (test : ℕ × ℕ → Bool) (told : List (ℕ × ℕ)) → All P (map first told) → All P (map first (filter test told))
where-all P test [] h = none_left P
where-all P test (p ∷ ps) h = of-go P p test ps (test p) (all_head P p.0 (map first ps) h) (where-all P test ps (all_tail P p.0 (map first ps) h))

abbrev IsTold : List (ℕ × ℕ) → ℕ → Type 0
IsTold told v = IsSomeAnd (find first v told) (λ q. q.1 ≢ 0)

find-not : (v : ℕ) (p : ℕ × ℕ) (ps : List (ℕ × ℕ)) (o : Option (ℕ × ℕ)) → find first v ps ≡ o → IsSomeAnd o (λ q. q.1 ≢ 0) → find first p.0 ps ≡ None → (p.0 == v) ≡ false
find-not v p ps None e h none = absurd h
find-not v p ps (Some q) e h none = elim (cases_eq p.0 v) [
  | inl same ↦ absurd (let N : ℕ → Type 0 = λ n. find first n ps ≡ None in let f : find first v ps ≡ None = subst N same none in cc)
  | inr other ↦ grind (arith, other)
]

told-later : (v : ℕ) (p : ℕ × ℕ) (ps : List (ℕ × ℕ)) → find first p.0 ps ≡ None → IsTold ps v → IsTold (p ∷ ps) v
told-later v p ps none h =
    let B : Bool → Type 0 = λ b. IsSomeAnd (if b then Some p else find first v ps) (λ q. q.1 ≢ 0) in
    subst B (sym (find-not v p ps (find first v ps) refl h none)) h

told-here : (p : ℕ × ℕ) (ps : List (ℕ × ℕ)) → p.1 ≢ 0 → IsTold (p ∷ ps) p.0
told-here p ps h =
    let t : (p.0 == p.0) ≡ true = grind arith in
    let B : Bool → Type 0 = λ b. IsSomeAnd (if b then Some p else find first p.0 ps) (λ q. q.1 ≢ 0) in
    subst B (sym t) h

all-later : (p : ℕ × ℕ) (ps : List (ℕ × ℕ)) (vs : List ℕ) → find first p.0 ps ≡ None → All (IsTold ps) vs → All (IsTold (p ∷ ps)) vs
all-later p ps [] none h = none_left (IsTold (p ∷ ps))
all-later p ps (v ∷ vs) none h = more (IsTold (p ∷ ps)) v vs (told-later v p ps none (all_head (IsTold ps) v vs h)) (all-later p ps vs none (all_tail (IsTold ps) v vs h))

told-go : (p : ℕ × ℕ) (test : ℕ × ℕ → Bool) (ps : List (ℕ × ℕ)) (t : Bool) → test p ≡ t → (test p ≡ true → p.1 ≢ 0) → find first p.0 ps ≡ None → All (IsTold ps) (map first (filter test ps))
    → All (IsTold (p ∷ ps)) (map first (if t then p ∷ filter test ps else filter test ps))
told-go p test ps true e some none h = more (IsTold (p ∷ ps)) p.0 (map first (filter test ps)) (told-here p ps (some e)) (all-later p ps (map first (filter test ps)) none h)
told-go p test ps false e some none h = all-later p ps (map first (filter test ps)) none h

-- where the test holds of words alone that are not 0, each of them was told of such a word
where-told : (test : ℕ × ℕ → Bool) (told : List (ℕ × ℕ)) → ((p : ℕ × ℕ) → test p ≡ true → p.1 ≢ 0) → Once first told → All (IsTold told) (map first (filter test told))
where-told test [] some once = none_left (IsTold [])
where-told test (p ∷ ps) some once = told-go p test ps (test p) refl (some p) once.0 (where-told test ps some once.1)

outside-some : (g : Geometry) (tier : ℕ) (p : ℕ × ℕ) → is_outside g tier p.1 ≡ true → p.1 ≢ 0
outside-some g tier p e = λ zero-is. let t : is_mapped_word p.1 ≡ false = rw zero-is refl in cc

-- each virtual page whose frame is outside the tier was told of a word that is not 0
pub outside-told : (made : LooksData) (view left : View) (seen : Seen) → (h : HasLooked made view seen left) → All (λ v. IsSomeAnd (find first v h.told) (λ q. q.1 ≢ 0)) seen.outside
outside-told made view left seen h =
    subst (λ (s : Seen). All (IsTold h.told) s.outside) (sym h.shown) (where-told (λ p. is_outside made.0 made.1.tier p.1) h.told (outside-some made.0 made.1.tier) h.once)

-- what holds of all virtual pages that were looked at holds of it
pub outside-all : (P : ℕ → Type 0) (made : LooksData) (view left : View) (seen : Seen) → HasLooked made view seen left → All P made.1.pages → All P seen.outside
outside-all P made view left seen h all =
    subst (λ (s : Seen). All P s.outside) (sym h.shown) (where-all P (λ p. is_outside made.0 made.1.tier p.1) h.told (subst (All P) (sym h.pages) all))

-- so it does of each that is mapped
pub mapped-all : (P : ℕ → Type 0) (made : LooksData) (view left : View) (seen : Seen) → HasLooked made view seen left → All P made.1.pages → All P seen.mapped
mapped-all P made view left seen h all =
    subst (λ (s : Seen). All P s.mapped) (sym h.shown) (where-all P (λ p. is_mapped_word p.1) h.told (subst (All P) (sym h.pages) all))
