-- Lists of virtual pages, with the words that were told of them.
use Rattle.std.proofs.Common.{◌≡◌, ℕ, zero, suc, ◌<◌, ◌≤◌, ◌==◌, not, nat_le, cond, Bool, true, false, List, [], ◌∷◌, ◌++◌, map, length, All, Option, Some, None, refl, sym, ap, ◌∙◌, subst, arith}
use Rattle.std.specs.List.{filter}
use Rattle.std.proofs.lemmas.Bool.Decides.{nat_tests}
use Rattle.std.proofs.lemmas.List.{map-append, append-nil}
use Rattle.std.proofs.lemmas.List.Elements.{All-append, All-nil, All-cons, filter-append}
use Rattle.nm_base.specs.Geometry.{Geometry, backing_among, backing_page}
use Rattle.nm_base.specs.declared.geometry.VPage.{VPage}
use Rattle.nm_view.specs.Lists.{find, put, first, Once}
use Rattle.nm_vpages.specs.VPages.{at_or_after, AreBelow}
use Rattle.nm_mappings.specs.Visits.{found_with, mapped_of}

-- The virtual pages that are at least one.

first-kept : (v x : ℕ) (t : Bool) (rest others : List ℕ) (u : ℕ) → nat_le v x ≡ t → (rest ≡ u ∷ others → v ≤ u) → (l : List ℕ) → cond t (x ∷ rest) rest ≡ u ∷ l → (t ≡ false → l ≡ others) → v ≤ u
first-kept v x true rest others u is later l e same = let head : x ≡ u = cc in let le : v ≤ x = grind (arith, nat_tests) in omega arith
first-kept v x false rest others u is later l e same = later (e ∙ ap (λ (k : List ℕ). u ∷ k) (same refl))

-- the first of them is at least it
pub first-least : (v u : ℕ) (pages rest : List ℕ) → at_or_after v pages ≡ u ∷ rest → v ≤ u
first-least v u [] rest e = cc
first-least v u (x ∷ pages) rest e = first-kept v x (nat_le v x) (at_or_after v pages) rest u refl (first-least v u pages rest) rest e (λ _. refl)

all-at : (P : ℕ → Type 0) (told rest : List ℕ) (v : ℕ) → All P (told ++ v ∷ rest) → P v
all-at P [] rest v h = h zero 0 (omega arith)
all-at P (x ∷ told) rest v h = all-at P told rest v (λ i d lt. h (suc i) d (omega arith))

-- one of them has what all have
pub split-has : (P : ℕ → Type 0) (pages told rest : List ℕ) (v : ℕ) → pages ≡ told ++ v ∷ rest → All P pages → P v
split-has P pages told rest v split h = all-at P told rest v (subst (All P) split h)

pub below-up : (v u : ℕ) (pages : List ℕ) → v ≤ u → AreBelow v pages → AreBelow u pages
below-up v u pages le h = λ i d lt. let low = h i d lt in omega (arith, low)

pub below-push : (v u : ℕ) (pages : List ℕ) → v < u → AreBelow v pages → AreBelow u (pages ++ v ∷ [])
below-push v u pages lt h = All-append (λ n. n < u) pages (v ∷ []) (below-up v u pages (omega arith) h) (All-cons (λ n. n < u) v [] lt (All-nil _))

-- a virtual page that is mapped is there
backing-there : (vs : List (Option VPage)) (v b : ℕ) → backing_among vs v ≡ Some b → v < length vs
backing-there [] v b e = absurd (cc)
backing-there (x ∷ vs) zero b e = omega arith
backing-there (x ∷ vs) (suc v) b e = let rest = backing-there vs v b e in omega arith

pub vpage-there : (g : Geometry) (v b : ℕ) → backing_page g v ≡ Some b → v < length g.vpages
vpage-there g v b e = backing-there g.vpages v b e

-- What was told.

-- of no virtual page that is not below
pub below-absent : (v : ℕ) (told : List (ℕ × ℕ)) → AreBelow v (map first told) → find first v told ≡ None
below-absent v [] h = refl
below-absent v (p ∷ told) h =
    let low : p.0 < v = h zero 0 (omega arith) in
    let other : (p.0 == v) ≡ false = grind (arith, nat_tests) in
    ap (λ (t : Bool). cond t (Some p) (find first v told)) other ∙ below-absent v told (λ i d lt. h (suc i) d (omega arith))

once-other : (told more : List (ℕ × ℕ)) (p q : ℕ × ℕ) → find first q.0 (told ++ p ∷ more) ≡ None → (q.0 == p.0) ≡ false
once-other [] more p q e = grind (arith, nat_tests)
once-other (r ∷ told) more p q e = grind (arith, nat_tests, once-other told more p q)

-- one that is told of once
pub once-absent : (told more : List (ℕ × ℕ)) (p : ℕ × ℕ) → Once first (told ++ p ∷ more) → find first p.0 told ≡ None
once-absent [] more p h = refl
once-absent (q ∷ told) more p h = grind (arith, once-absent told more p h.1, once-other told more p q h.0)

pub put-new : (told : List (ℕ × ℕ)) (p : ℕ × ℕ) → find first p.0 told ≡ None → put first p told ≡ told ++ p ∷ []
put-new [] p e = refl
put-new (q ∷ told) p e = grind (arith, put-new told p)

mapped-go : (v w : ℕ) (told : List (ℕ × ℕ)) (t : Bool) → (w == 0) ≡ t → cond t (mapped_of told) (mapped_of told ++ v ∷ []) ≡ mapped_of told ++ map first (cond (not t) ((v, w) ∷ []) [])
mapped-go v w told true e = sym (append-nil (mapped_of told))
mapped-go v w told false e = refl

-- the pages found, with one word more
pub mapped-push : (v w : ℕ) (found : List ℕ) (told : List (ℕ × ℕ)) → found ≡ mapped_of told → found_with v w found ≡ mapped_of (told ++ (v, w) ∷ [])
mapped-push v w found told is =
    ap (found_with v w) is
    ∙ mapped-go v w told (w == 0) refl
    ∙ sym (ap (λ (l : List (ℕ × ℕ)). map first l) (filter-append (λ p. not (p.1 == 0)) told ((v, w) ∷ [])) ∙ map-append first (filter (λ p. not (p.1 == 0)) told) (filter (λ p. not (p.1 == 0)) ((v, w) ∷ [])))

below-cond : (v : ℕ) (p : ℕ × ℕ) (t : Bool) (told : List (ℕ × ℕ)) → p.0 < v → AreBelow v (mapped_of told) → AreBelow v (map first (cond t (p ∷ filter (λ p. not (p.1 == 0)) told) (filter (λ p. not (p.1 == 0)) told)))
below-cond v p true told low h = All-cons (λ u. u < v) p.0 (mapped_of told) low h
below-cond v p false told low h = h

-- the pages found are below where all told of are
pub mapped-below : (v : ℕ) (told : List (ℕ × ℕ)) → AreBelow v (map first told) → AreBelow v (mapped_of told)
mapped-below v [] h = All-nil _
mapped-below v (p ∷ told) h = below-cond v p (not (p.1 == 0)) told (h zero 0 (omega arith)) (mapped-below v told (λ i d lt. h (suc i) d (omega arith)))
