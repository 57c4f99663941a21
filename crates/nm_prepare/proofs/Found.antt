-- What Looks at the virtual pages of a page tell.
use Rattle.std.proofs.Common.{◌≡◌, ◌≢◌, ℕ, zero, suc, ◌+◌, ◌==◌, ◌⊎◌, inl, inr, not, if◌then◌else◌, Bool, true, false, List, [], ◌∷◌, map, All, Option, Some, None, option_map, IsSome, IsSomeAnd, get_or, refl, sym, ap, ◌∙◌, subst, arith}
use Rattle.std.proofs.lemmas.Bool.{cases_eq}
use Rattle.std.specs.List.{filter}
use Rattle.nm_base.specs.Geometry.{Geometry, backing_among, backing_page}
use Rattle.nm_base.specs.declared.geometry.VPage.{VPage}
use Rattle.nm_view.specs.Lists.{find, first, itself, Once}
use Rattle.nm_view.specs.Opening.{is_mapped_to}
use Rattle.nm_view.specs.Operations.{IsLookedOver}
use Rattle.nm_view.proofs.Items.{all_head, all_tail, more, none_left}
use Rattle.nm_vpages.specs.VPages.{vpages_among, vpages_of}
use Rattle.nm_mappings.specs.Visits.{mapped_of}
use Rattle.nm_prepare.specs.Preparing.{is_only}

-- The virtual pages of a page.

mapped-page : (page : ℕ) (p : Option VPage) → is_mapped_to page p ≡ true → option_map (λ (v : VPage). v.page) p ≡ Some page
mapped-page page None e = cc
mapped-page page (Some p) e = let same : p.page ≡ page = grind arith in ap Some same

page-mapped : (page : ℕ) (p : Option VPage) → option_map (λ (v : VPage). v.page) p ≡ Some page → is_mapped_to page p ≡ true
page-mapped page None e = cc
page-mapped page (Some p) e = let same : p.page ≡ page = cc in rw same (grind arith)

-- the list from place v on is the end of the whole
record IsEnd (whole vs : List (Option VPage)) (v : ℕ) : Type 0 where
  at : (i : ℕ) → get_or vs i None ≡ get_or whole (v + i) None

end-next : (whole : List (Option VPage)) (p : Option VPage) (ps : List (Option VPage)) (v : ℕ) → IsEnd whole (p ∷ ps) v → IsEnd whole ps (v + 1)
end-next whole p ps v h = record { at = λ i. let e : (v + 1) + i ≡ v + suc i = omega arith in h.at (suc i) ∙ ap (λ (n : ℕ). get_or whole n None) (sym e) }

end-head : (whole : List (Option VPage)) (p : Option VPage) (ps : List (Option VPage)) (v : ℕ) → IsEnd whole (p ∷ ps) v → get_or whole v None ≡ p
end-head whole p ps v h = let e : v ≡ v + 0 = omega arith in ap (λ (n : ℕ). get_or whole n None) e ∙ sym (h.at 0)

among-go : (page : ℕ) (whole : List (Option VPage)) (p : Option VPage) (vs : List ℕ) (v : ℕ) (test : Bool) → is_mapped_to page p ≡ test → get_or whole v None ≡ p → All (λ u. backing_among whole u ≡ Some page) vs
    → All (λ u. backing_among whole u ≡ Some page) (if test then v ∷ vs else vs)
among-go page whole p vs v true e at h = more (λ u. backing_among whole u ≡ Some page) v vs (ap (option_map (λ (v : VPage). v.page)) at ∙ mapped-page page p e) h
among-go page whole p vs v false e at h = h

among-all : (page : ℕ) (whole vs : List (Option VPage)) (v : ℕ) → IsEnd whole vs v → All (λ u. backing_among whole u ≡ Some page) (vpages_among page vs v)
among-all page whole [] v h = none_left (λ u. backing_among whole u ≡ Some page)
among-all page whole (p ∷ ps) v h = among-go page whole p (vpages_among page ps (v + 1)) v (is_mapped_to page p) refl (end-head whole p ps v h) (among-all page whole ps (v + 1) (end-next whole p ps v h))

whole-end : (whole : List (Option VPage)) → IsEnd whole whole 0
whole-end whole = record { at = λ i. let e : 0 + i ≡ i = omega arith in ap (λ (n : ℕ). get_or whole n None) (sym e) }

-- they are virtual pages of it
pub vpages-all : (g : Geometry) (page : ℕ) → All (λ v. backing_page g v ≡ Some page) (vpages_of g page)
vpages-all g page = among-all page g.vpages g.vpages 0 (whole-end g.vpages)

some-choice : (test : Bool) (v : ℕ) (o : Option ℕ) → IsSome o → IsSome (if test then Some v else o)
some-choice true v o h = refl
some-choice false v o h = h

found-later : (u v : ℕ) (vs : List ℕ) → IsSome (find itself u vs) → IsSome (find itself u (v ∷ vs))
found-later u v vs h = some-choice (v == u) v (find itself u vs) h

found-here : (u v : ℕ) (vs : List ℕ) → v ≡ u → IsSome (find itself u (v ∷ vs))
found-here u v vs e = let t : (v == u) ≡ true = rw e (grind arith) in let S : Bool → Type 0 = λ b. IsSome (if b then Some v else find itself u vs) in subst S (sym t) refl

has-later : (page u : ℕ) (p : Option VPage) (vs : List ℕ) (v : ℕ) (test : Bool) → IsSome (find itself u vs) → IsSome (find itself u (if test then v ∷ vs else vs))
has-later page u p vs v true h = found-later u v vs h
has-later page u p vs v false h = h

has-here : (u : ℕ) (vs : List ℕ) (v : ℕ) (test : Bool) → test ≡ true → v ≡ u → IsSome (find itself u (if test then v ∷ vs else vs))
has-here u vs v true e same = found-here u v vs same
has-here u vs v false e same = cc

-- the page of place i of a list that begins at v
among-has : (page v : ℕ) (vs : List (Option VPage)) (i : ℕ) → option_map (λ (v : VPage). v.page) (get_or vs i None) ≡ Some page → IsSome (find itself (v + i) (vpages_among page vs v))
among-has page v [] i e = cc
among-has page v (p ∷ ps) zero e = has-here (v + 0) (vpages_among page ps (v + 1)) v (is_mapped_to page p) (page-mapped page p e) (omega arith)
among-has page v (p ∷ ps) (suc i) e =
    let n : (v + 1) + i ≡ v + suc i = omega arith in
    let F : ℕ → Type 0 = λ u. IsSome (find itself u (vpages_among page ps (v + 1))) in
    has-later page (v + suc i) p (vpages_among page ps (v + 1)) v (is_mapped_to page p) (subst F n (among-has page (v + 1) ps i e))

-- and all of them are
pub vpages-has : (g : Geometry) (page v : ℕ) → backing_page g v ≡ Some page → IsSome (find itself v (vpages_of g page))
vpages-has g page v e =
    let n : 0 + v ≡ v = omega arith in
    let F : ℕ → Type 0 = λ u. IsSome (find itself u (vpages_of g page)) in
    subst F n (among-has page 0 g.vpages v e)

-- What was told, by virtual page.

first-go : (test : Bool) (v : ℕ) (p : ℕ × ℕ) (o : Option ℕ) (q : Option (ℕ × ℕ)) → (IsSome o → IsSome q) → IsSome (if test then Some v else o) → IsSome (if test then Some p else q)
first-go true v p o q step h = refl
first-go false v p o q step h = step h

told-found : (u : ℕ) (told : List (ℕ × ℕ)) → IsSome (find itself u (map first told)) → IsSome (find first u told)
told-found u [] h = h
told-found u (p ∷ ps) h = first-go (p.0 == u) p.0 p (find itself u (map first ps)) (find first u ps) (told-found u ps) h

-- every virtual page of the page was looked at
pub looked-over : (g : Geometry) (page : ℕ) (told : List (ℕ × ℕ)) → map first told ≡ vpages_of g page → IsLookedOver g page told
looked-over g page told e = λ v backing. let L : List ℕ → Type 0 = λ l. IsSome (find itself v l) in told-found v told (subst L (sym e) (vpages-has g page v backing))

-- a pair more at the front
find-not : (v : ℕ) (p : ℕ × ℕ) (ps : List (ℕ × ℕ)) (q : ℕ × ℕ) → find first p.0 ps ≡ None → find first v ps ≡ Some q → (p.0 == v) ≡ false
find-not v p ps q none some = elim (cases_eq p.0 v) [
  | inl same ↦ absurd (let N : ℕ → Type 0 = λ n. find first n ps ≡ None in let e : find first v ps ≡ None = subst N same none in cc)
  | inr other ↦ grind (arith, other)
]

mapped-later : (v : ℕ) (p : ℕ × ℕ) (ps : List (ℕ × ℕ)) (o : Option (ℕ × ℕ)) → find first v ps ≡ o → find first p.0 ps ≡ None → IsSomeAnd o (λ q. q.1 ≢ 0) → IsSomeAnd (find first v (p ∷ ps)) (λ q. q.1 ≢ 0)
mapped-later v p ps None e none h = absurd h
mapped-later v p ps (Some q) e none h =
    let t = find-not v p ps q none e in
    let B : Bool → Type 0 = λ b. IsSomeAnd (if b then Some p else find first v ps) (λ q. q.1 ≢ 0) in
    let O : Option (ℕ × ℕ) → Type 0 = λ o. IsSomeAnd o (λ q. q.1 ≢ 0) in
    subst B (sym t) (subst O (sym e) h)

mapped-here : (p : ℕ × ℕ) (ps : List (ℕ × ℕ)) → p.1 ≢ 0 → IsSomeAnd (find first p.0 (p ∷ ps)) (λ q. q.1 ≢ 0)
mapped-here p ps h =
    let t : (p.0 == p.0) ≡ true = grind arith in
    let B : Bool → Type 0 = λ b. IsSomeAnd (if b then Some p else find first p.0 ps) (λ q. q.1 ≢ 0) in
    subst B (sym t) h

all-later : (p : ℕ × ℕ) (ps : List (ℕ × ℕ)) (vs : List ℕ) → find first p.0 ps ≡ None → All (λ v. IsSomeAnd (find first v ps) (λ q. q.1 ≢ 0)) vs → All (λ v. IsSomeAnd (find first v (p ∷ ps)) (λ q. q.1 ≢ 0)) vs
all-later p ps [] none h = none_left (λ v. IsSomeAnd (find first v (p ∷ ps)) (λ q. q.1 ≢ 0))
all-later p ps (v ∷ vs) none h =
    more (λ v. IsSomeAnd (find first v (p ∷ ps)) (λ q. q.1 ≢ 0)) v vs (mapped-later v p ps (find first v ps) refl none (all_head (λ v. IsSomeAnd (find first v ps) (λ q. q.1 ≢ 0)) v vs h))
    (all-later p ps vs none (all_tail (λ v. IsSomeAnd (find first v ps) (λ q. q.1 ≢ 0)) v vs h))

mapped-go : (p : ℕ × ℕ) (ps : List (ℕ × ℕ)) (test : Bool) → (p.1 == 0) ≡ test → find first p.0 ps ≡ None → All (λ v. IsSomeAnd (find first v ps) (λ q. q.1 ≢ 0)) (mapped_of ps)
    → All (λ v. IsSomeAnd (find first v (p ∷ ps)) (λ q. q.1 ≢ 0)) (map first (if not test then p ∷ filter (λ q. not (q.1 == 0)) ps else filter (λ q. not (q.1 == 0)) ps))
mapped-go p ps true e none h = all-later p ps (mapped_of ps) none h
mapped-go p ps false e none h = more (λ v. IsSomeAnd (find first v (p ∷ ps)) (λ q. q.1 ≢ 0)) p.0 (mapped_of ps) (mapped-here p ps (grind (arith, e))) (all-later p ps (mapped_of ps) none h)

-- those found were looked at as not 0
pub found-mapped : (told : List (ℕ × ℕ)) → Once first told → All (λ v. IsSomeAnd (find first v told) (λ q. q.1 ≢ 0)) (mapped_of told)
found-mapped [] once = none_left (λ v. IsSomeAnd (find first v []) (λ q. q.1 ≢ 0))
found-mapped (p ∷ ps) once = mapped-go p ps (p.1 == 0) refl once.0 (found-mapped ps once.1)

of-go : (P : ℕ → Type 0) (p : ℕ × ℕ) (ps : List (ℕ × ℕ)) (test : Bool) → P p.0 → All P (mapped_of ps) → All P (map first (if not test then p ∷ filter (λ q. not (q.1 == 0)) ps else filter (λ q. not (q.1 == 0)) ps))
of-go P p ps true here h = h
of-go P p ps false here h = more P p.0 (mapped_of ps) here h

-- what holds of all virtual pages holds of those found
pub found-all : (P : ℕ → Type 0) (told : List (ℕ × ℕ)) → All P (map first told) → All P (mapped_of told)
found-all P [] h = none_left P
found-all P (p ∷ ps) h = of-go P p ps (p.1 == 0) (all_head P p.0 (map first ps) h) (found-all P ps (all_tail P p.0 (map first ps) h))

none-go : (v : ℕ) (p : ℕ × ℕ) (ps : List (ℕ × ℕ)) (test : Bool) → (p.1 == 0) ≡ test → map first (if not test then p ∷ filter (λ q. not (q.1 == 0)) ps else filter (λ q. not (q.1 == 0)) ps) ≡ [] → (mapped_of ps ≡ [] → All (λ q. (q.1 ≡ 0) ⊎ (q.0 ≡ v)) ps)
    → All (λ q. (q.1 ≡ 0) ⊎ (q.0 ≡ v)) (p ∷ ps)
none-go v p ps true e none step = let z : p.1 ≡ 0 = grind (arith, e) in more (λ q. (q.1 ≡ 0) ⊎ (q.0 ≡ v)) p ps (inl z) (step none)
none-go v p ps false e none step = cc

none-found : (v : ℕ) (told : List (ℕ × ℕ)) → mapped_of told ≡ [] → All (λ q. (q.1 ≡ 0) ⊎ (q.0 ≡ v)) told
none-found v [] none = none_left (λ q. (q.1 ≡ 0) ⊎ (q.0 ≡ v))
none-found v (p ∷ ps) none = none-go v p ps (p.1 == 0) refl none (none-found v ps)

alone-go : (v : ℕ) (p : ℕ × ℕ) (ps : List (ℕ × ℕ)) (test : Bool) → (p.1 == 0) ≡ test → map first (if not test then p ∷ filter (λ q. not (q.1 == 0)) ps else filter (λ q. not (q.1 == 0)) ps) ≡ v ∷ [] → (mapped_of ps ≡ v ∷ [] → All (λ q. (q.1 ≡ 0) ⊎ (q.0 ≡ v)) ps)
    → All (λ q. (q.1 ≡ 0) ⊎ (q.0 ≡ v)) (p ∷ ps)
alone-go v p ps true e one step = let z : p.1 ≡ 0 = grind (arith, e) in more (λ q. (q.1 ≡ 0) ⊎ (q.0 ≡ v)) p ps (inl z) (step one)
alone-go v p ps false e one step = let same : p.0 ≡ v = cc in let none : mapped_of ps ≡ [] = cc in more (λ q. (q.1 ≡ 0) ⊎ (q.0 ≡ v)) p ps (inr same) (none-found v ps none)

-- where v alone was found, every other word is 0
pub found-alone : (v : ℕ) (told : List (ℕ × ℕ)) → mapped_of told ≡ v ∷ [] → All (λ q. (q.1 ≡ 0) ⊎ (q.0 ≡ v)) told
found-alone v [] one = cc
found-alone v (p ∷ ps) one = alone-go v p ps (p.1 == 0) refl one (found-alone v ps)

-- The test.

pub is-only : (v : ℕ) (found : List ℕ) → is_only v found ≡ true → found ≡ v ∷ []
is-only v [] e = cc
is-only v (u ∷ []) e = let same : u ≡ v = grind (arith, e) in ap (λ (n : ℕ). n ∷ []) same
is-only v (u ∷ (w ∷ ws)) e = cc

pub only-is : (v : ℕ) (found : List ℕ) → found ≡ v ∷ [] → is_only v found ≡ true
only-is v found e = rw e (grind arith)
