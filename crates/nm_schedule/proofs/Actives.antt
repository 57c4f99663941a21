-- The actors that have not ended, turn by turn.
use Rattle.std.proofs.Common.{◌≡◌, ◌≢◌, ◌/◌, ◌%◌, ◌^◌, ◌<◌, ◌≤◌, ◌+◌, ◌==◌, ◌&&◌, ◌||◌, ℕ, zero, suc, not, Bool, true, false, cond, List, [], ◌∷◌, ◌++◌, length, get_or, drop, All, refl, sym, ap, subst, ◌∙◌, arith}
use Rattle.std.proofs.lemmas.List.Elements.{All-head, All-tail, All-cons, All-nil, All-filter, All-append, filter_passes}
use Rattle.std.proofs.lemmas.List.Folds.{list_any-append}
use Rattle.std.proofs.lemmas.Bool.{eqb-true, eqb-false}
use Rattle.std.proofs.Math.Seq.{drop-cons}
use Rattle.std.specs.List.{filter, list_any, range_with_len}
use Rattle.std.specs.Prelude.{nat_le}
use Rattle.nm_schedule.specs.declared.turn.Played.{Played}
use Rattle.nm_schedule.specs.Played.{is_end_of, has_ended, active_actors}
use Rattle.nm_schedule.specs.Picks.{first_from, drawn_from}

-- ---- filters

filter-cons : {A : Type 0} (p q : A → Bool) (x : A) (xs ys : List A) (b c : Bool) → p x ≡ b → q x ≡ c → ys ≡ filter q (filter p xs) → cond (b && c) (x ∷ ys) ys ≡ filter q (cond b (x ∷ filter p xs) (filter p xs))
filter-cons p q x xs ys true true e f h = rw f (ap (λ l. x ∷ l) h)
filter-cons p q x xs ys true false e f h = rw f h
filter-cons p q x xs ys false c e f h = h

-- what passes two tests passes one after the other
pub filter-both : {A : Type 0} (p q : A → Bool) (xs : List A) → filter (λ x. p x && q x) xs ≡ filter q (filter p xs)
filter-both p q [] = refl
filter-both p q (x ∷ xs) = filter-cons p q x xs (filter (λ x. p x && q x) xs) (p x) (q x) refl refl (filter-both p q xs)

pub filter-alike : {A : Type 0} (p q : A → Bool) (xs : List A) → ((x : A) → p x ≡ q x) → filter p xs ≡ filter q xs
filter-alike p q xs e = λ i. filter (λ x. e x i) xs

-- ---- ends

or-false : (b : Bool) → (b || false) ≡ b
or-false true = refl
or-false false = refl

and-false : (b : Bool) → (b && false) ≡ false
and-false true = refl
and-false false = refl

and-true : (b : Bool) → (b && true) ≡ b
and-true true = refl
and-true false = refl

-- who has ended after a turn more
pub ended-push : (before : List Played) (p : Played) (actor : ℕ) → has_ended (before ++ p ∷ []) actor ≡ (has_ended before actor || ((p.actor == actor) && p.ended))
ended-push before p actor = list_any-append (is_end_of actor) before (p ∷ []) ∙ ap (λ b. has_ended before actor || b) (or-false ((p.actor == actor) && p.ended))

pub ended-same : (before : List Played) (p : Played) (actor : ℕ) → p.ended ≡ false → has_ended (before ++ p ∷ []) actor ≡ has_ended before actor
ended-same before p actor e =
    ended-push before p actor ∙ ap (λ b. has_ended before actor || b) (ap (λ b. (p.actor == actor) && b) e ∙ and-false (p.actor == actor)) ∙ or-false (has_ended before actor)

not-or : (a b : Bool) → not (a || b) ≡ (not a && not b)
not-or true b = refl
not-or false b = refl

pub actives-same : (actors : ℕ) (before : List Played) (p : Played) → p.ended ≡ false → active_actors actors (before ++ p ∷ []) ≡ active_actors actors before
actives-same actors before p e = filter-alike (λ a. not (has_ended (before ++ p ∷ []) a)) (λ a. not (has_ended before a)) (range_with_len 0 actors) (λ a. ap not (ended-same before p a e))

pub actives-without : (actors : ℕ) (before : List Played) (p : Played) → p.ended ≡ true → active_actors actors (before ++ p ∷ []) ≡ filter (λ a. not (p.actor == a)) (active_actors actors before)
actives-without actors before p e =
    filter-alike (λ a. not (has_ended (before ++ p ∷ []) a)) (λ a. not (has_ended before a) && not (p.actor == a)) (range_with_len 0 actors)
    (λ a. ap not (ended-push before p a ∙ ap (λ b. has_ended before a || b) (ap (λ b. (p.actor == a) && b) e ∙ and-true (p.actor == a))) ∙ not-or (has_ended before a) (p.actor == a))
    ∙ filter-both (λ a. not (has_ended before a)) (λ a. not (p.actor == a)) (range_with_len 0 actors)

-- ---- members

pub record IsActive (actors : ℕ) (before : List Played) (actor : ℕ) : Type 0 where
  pub exists : actor < actors
  pub active : has_ended before actor ≡ false

below-range : (from n : ℕ) → All (λ a. a < from + n) (range_with_len from n)
below-range from zero = All-nil (λ a. a < from + zero)
below-range from (suc n) = All-cons (λ a. a < from + suc n) from (range_with_len (from + 1) n) (omega arith) (λ k d lt. let b = below-range (from + 1) n k d lt in omega (arith, b))

not-false : (b : Bool) → not b ≡ true → b ≡ false
not-false true e = cc
not-false false e = refl

pub all-active : (actors : ℕ) (before : List Played) → All (IsActive actors before) (active_actors actors before)
all-active actors before = λ k d lt. record {
  exists = omega (arith, All-filter (λ a. not (has_ended before a)) (λ a. a < 0 + actors) (range_with_len 0 actors) (below-range 0 actors) k d lt);
  active = not-false (has_ended before (get_or (active_actors actors before) k d)) (filter_passes (λ a. not (has_ended before a)) (range_with_len 0 actors) k d lt);
}

length-append' : {A : Type 0} (xs ys : List A) → 0 < length ys → 0 < length (xs ++ ys)
length-append' [] ys h = h
length-append' (x ∷ xs) ys h = omega arith

-- the first of some actors, in cyclic order, is one of them
pub first-of : (P : ℕ → Type 0) (from : ℕ) (active : List ℕ) → All P active → 0 < length active → P (first_from from active)
first-of P from active h some = All-append P (filter (nat_le from) active) active (All-filter (nat_le from) P active h) h 0 0 (length-append' (filter (nat_le from) active) active some)

pub drawn-of : (P : ℕ → Type 0) (x : ℕ) (active : List ℕ) → All P active → 0 < length active → P (drawn_from x active)
drawn-of P x active h some = h (x / 2 ^ 33 % length active) 0 (omega arith)

-- the first of a list that is not empty, where it begins so
any-go : (p : ℕ → Bool) (x a : ℕ) (xs : List ℕ) (b : Bool) → p x ≡ b → (x == a ≡ true → b ≡ true) → (x == a ≡ false → list_any (λ y. y == a) xs ≡ true) → (c : Bool) → (x == a) ≡ c → list_any (λ y. y == a) (cond b (x ∷ xs) xs) ≡ true
any-go p x a xs true e here there true f = rw f refl
any-go p x a xs true e here there false f = rw f (there f)
any-go p x a xs false e here there true f = let h = here f in cc h
any-go p x a xs false e here there false f = there f

le-next : (a b : ℕ) → a ≤ b → a ≢ b → a + 1 ≤ b
le-next a b le ne = omega (arith, le, ne)

any-range : (p : ℕ → Bool) (from n a : ℕ) → from ≤ a → a < from + n → p a ≡ true → list_any (λ y. y == a) (filter p (range_with_len from n)) ≡ true
any-range p from zero a le lt h = absurd (omega (arith, le, lt))
any-range p from (suc n) a le lt h =
    any-go p from a (filter p (range_with_len (from + 1) n)) (p from) refl
    (λ e. ap p (eqb-true from a e) ∙ h)
    (λ e. let ne = eqb-false from a e in any-range p (from + 1) n a (le-next from a le ne) (omega (arith, lt)) h)
    (from == a) refl

-- an actor that has not ended is among them
pub is-among : (actors : ℕ) (before : List Played) (actor : ℕ) → actor < actors → has_ended before actor ≡ false → list_any (λ y. y == actor) (active_actors actors before) ≡ true
is-among actors before actor lt e = any-range (λ a. not (has_ended before a)) 0 actors actor (omega arith) (omega (arith, lt)) (ap not e)

any-holds-go : (P : ℕ → Type 0) (a x : ℕ) (xs : List ℕ) → All P (x ∷ xs) → (All P xs → list_any (λ y. y == a) xs ≡ true → P a) → (b : Bool) → (x == a) ≡ b → (b || list_any (λ y. y == a) xs) ≡ true → P a
any-holds-go P a x xs h rest true f e = subst P (eqb-true x a f) (All-head P x xs h)
any-holds-go P a x xs h rest false f e = rest (All-tail P x xs h) e

any-holds : (P : ℕ → Type 0) (a : ℕ) (xs : List ℕ) → All P xs → list_any (λ y. y == a) xs ≡ true → P a
any-holds P a [] h e = cc e
any-holds P a (x ∷ xs) h e = any-holds-go P a x xs h (any-holds P a xs) (x == a) refl e

-- who is among them has not ended
pub among-active : (actors : ℕ) (before : List Played) (actor : ℕ) → list_any (λ y. y == actor) (active_actors actors before) ≡ true → IsActive actors before actor
among-active actors before actor e = any-holds (IsActive actors before) actor (active_actors actors before) (all-active actors before) e

-- ---- searching

pub drop-past : {A : Type 0} (l : List A) (i : ℕ) → length l ≤ i → drop i l ≡ []
drop-past [] zero le = refl
drop-past [] (suc i) le = refl
drop-past (x ∷ l) zero le = absurd (omega (arith, le))
drop-past (x ∷ l) (suc i) le = drop-past l i (omega (arith, le))

-- the first that is found
pub first-found : (from : ℕ) (active : List ℕ) (i x : ℕ) → i < length active → x ≡ get_or active i x → nat_le from x ≡ true → filter (nat_le from) active ≡ filter (nat_le from) (drop i active) → x ≡ first_from from active
first-found from active i x lt at le rest =
    let e : drop i active ≡ x ∷ drop (suc i) active = drop-cons active i x lt ∙ ap (λ (y : ℕ). y ∷ drop (suc i) active) (sym at) in
    let f : filter (nat_le from) active ≡ x ∷ filter (nat_le from) (drop (suc i) active) = rest ∙ ap (λ l. filter (nat_le from) l) e ∙ ap (λ b. cond b (x ∷ filter (nat_le from) (drop (suc i) active)) (filter (nat_le from) (drop (suc i) active))) le in
    sym (ap (λ (l : List ℕ). get_or (l ++ active) 0 0) f)

-- one that is passed
pub first-passed : (from : ℕ) (active : List ℕ) (i x : ℕ) → i < length active → x ≡ get_or active i x → nat_le from x ≡ false → filter (nat_le from) active ≡ filter (nat_le from) (drop i active) → filter (nat_le from) active ≡ filter (nat_le from) (drop (i + 1) active)
first-passed from active i x lt at gt rest =
    let g : suc i ≡ i + 1 = omega arith in
    let e : drop i active ≡ x ∷ drop (suc i) active = drop-cons active i x lt ∙ ap (λ (y : ℕ). y ∷ drop (suc i) active) (sym at) in
    rest ∙ ap (λ l. filter (nat_le from) l) e ∙ ap (λ b. cond b (x ∷ filter (nat_le from) (drop (suc i) active)) (filter (nat_le from) (drop (suc i) active))) gt ∙ ap (λ k. filter (nat_le from) (drop k active)) g

-- none is found, so it is the first of all
pub first-of-all : (from : ℕ) (active : List ℕ) (i : ℕ) → length active ≤ i → filter (nat_le from) active ≡ filter (nat_le from) (drop i active) → first_from from active ≡ get_or active 0 0
first-of-all from active i le rest = ap (λ (l : List ℕ). get_or (l ++ active) 0 0) (rest ∙ ap (λ l. filter (nat_le from) l) (drop-past active i le))

-- ---- all actors

range-more : (a n : ℕ) → range_with_len a (n + 1) ≡ range_with_len a n ++ (a + n) ∷ []
range-more a zero = let e : a ≡ a + 0 = omega arith in ap (λ k. k ∷ []) e
range-more a (suc n) = let e : (a + 1) + n ≡ a + suc n = omega arith in let g : suc n + 1 ≡ suc (n + 1) = omega arith in ap (λ k. range_with_len a k) g ∙ ap (λ l. a ∷ l) (range-more (a + 1) n ∙ ap (λ k. range_with_len (a + 1) n ++ k ∷ []) e)

pub below-more : (xs : List ℕ) (n : ℕ) → xs ≡ range_with_len 0 n → xs ++ n ∷ [] ≡ range_with_len 0 (n + 1)
below-more xs n e = let z : 0 + n ≡ n = omega arith in ap (λ l. l ++ n ∷ []) e ∙ ap (λ k. range_with_len 0 n ++ k ∷ []) (sym z) ∙ sym (range-more 0 n)
