-- The lane lists of those that have stood, by the order in which they stood.
use Rattle.std.proofs.Common.{◌≡◌, ◌≢◌, ℕ, zero, suc, ◌+◌, ◌<◌, ◌≤◌, ◌==◌, cond, Bool, true, false, List, [], ◌∷◌, ◌++◌, length, map, refl, sym, ap, ◌∙◌, eq-eqb, ne_eqb, arith}
use Rattle.std.specs.List.{All, range_with_len, sum_by}
use Rattle.std.proofs.lemmas.List.Elements.{All-head, All-tail}
use Rattle.std.proofs.lemmas.List.Sums.{sum_by-cons}
use native.Mathlib.Decide.{ℕ_discrete}
use mathlib.Core.Logic.{dite}
use Rattle.nm_actor.specs.Lanes.{LaneMove, LaneLists}
use Rattle.nm_queue.specs.Passes.{JoinedPass}
use Rattle.nm_queue.proofs.Numbers.{times}
use Rattle.nm_arena_chair.specs.ChairFaces.{moves_at, stood_table}
use Rattle.nm_actor.specs.Boards.{with_entry}

often-more : (a o : ℕ) (os : List ℕ) → times a (o ∷ os) ≡ cond {A = ℕ} (o == a) 1 0 + times a os
often-more a o os = sum_by-cons (λ b. cond {A = ℕ} (b == a) 1 0) o os

pub no_moves : (order : List ℕ) (js : List JoinedPass) (a : ℕ) → times a order ≡ 0 → moves_at order js a ≡ []
no_moves [] js a none = refl
no_moves (o ∷ os) [] a none = refl
no_moves (o ∷ os) (j ∷ js) a none = dite (ℕ_discrete a o)
    (λ e. let one : cond {A = ℕ} (o == a) 1 0 ≡ 1 = ap (λ b. cond {A = ℕ} b 1 0) (eq-eqb o a (sym e)) in let h = often-more a o os in absurd (omega (arith, one, h, none)))
    (λ ne. let h = often-more a o os in ap (λ b. cond b j.moves (moves_at os js a)) (ne_eqb a o ne) ∙ no_moves os js a (omega (arith, h, none)))

-- one more has stood
pub moves_more : (order : List ℕ) (js : List JoinedPass) (a : ℕ) (j : JoinedPass) (x : ℕ) → length js ≡ length order → All (λ o. o ≢ a) order
    → moves_at (order ++ a ∷ []) (js ++ j ∷ []) x ≡ cond (x == a) j.moves (moves_at order js x)
moves_more [] [] a j x long apart = refl
moves_more [] (k ∷ js) a j x long apart = absurd (omega (arith, long))
moves_more (o ∷ os) [] a j x long apart = absurd (omega (arith, long))
moves_more (o ∷ os) (k ∷ js) a j x long apart = dite (ℕ_discrete x o)
    (λ e. let at = eq-eqb x o e in
    let off : (x == a) ≡ false = ne_eqb x a (λ t. All-head (λ y. y ≢ a) o os apart (sym e ∙ t)) in
    ap (λ b. cond b k.moves (moves_at (os ++ a ∷ []) (js ++ j ∷ []) x)) at
    ∙ sym (ap (λ b. cond b j.moves (cond (x == o) k.moves (moves_at os js x))) off ∙ ap (λ b. cond b k.moves (moves_at os js x)) at))
    (λ ne. let at = ne_eqb x o ne in
    ap (λ b. cond b k.moves (moves_at (os ++ a ∷ []) (js ++ j ∷ []) x)) at
    ∙ moves_more os js a j x (omega (arith, long)) (All-tail (λ y. y ≢ a) o os apart)
    ∙ sym (ap (λ b. cond (x == a) j.moves (cond b k.moves (moves_at os js x))) at))

lists-by : (b : Bool) (c p d q : List LaneMove)
    → ◌≡◌ {A = LaneLists} (record { candidates = cond b c d; pending = cond b p q }) (cond b (record { candidates = c; pending = p }) (record { candidates = d; pending = q }))
lists-by true c p d q = refl
lists-by false c p d q = refl

pub table_more : (order : List ℕ) (cs ps : List JoinedPass) (a : ℕ) (c p : JoinedPass) (x : ℕ) → length cs ≡ length order → length ps ≡ length order → All (λ o. o ≢ a) order
    → stood_table (order ++ a ∷ []) (cs ++ c ∷ []) (ps ++ p ∷ []) x ≡ with_entry a (record { candidates = c.moves; pending = p.moves }) (stood_table order cs ps) x
table_more order cs ps a c p x lc lp apart =
    (λ i. record { candidates = moves_more order cs a c x lc apart i; pending = moves_more order ps a p x lp apart i })
    ∙ lists-by (x == a) c.moves p.moves (moves_at order cs x) (moves_at order ps x)

-- a sum over all actors, of which only one counts
none-of : (w o from n : ℕ) → o < from → sum_by (λ a. cond {A = ℕ} (a == o) w 0) (range_with_len from n) ≡ 0
none-of w o from zero lt = refl
none-of w o from (suc n) lt =
    let h = sum_by-cons (λ a. cond {A = ℕ} (a == o) w 0) from (range_with_len (from + 1) n) in
    let e : cond {A = ℕ} (from == o) w 0 ≡ 0 = ap (λ b. cond {A = ℕ} b w 0) (ne_eqb from o (λ t. omega arith)) in
    let r = none-of w o (from + 1) n (omega arith) in
    omega (arith, h, e, r)

one-of : (w o from n : ℕ) → from ≤ o → o < from + n → sum_by (λ a. cond {A = ℕ} (a == o) w 0) (range_with_len from n) ≡ w
one-of w o from zero le lt = absurd (omega arith)
one-of w o from (suc n) le lt =
    let h = sum_by-cons (λ a. cond {A = ℕ} (a == o) w 0) from (range_with_len (from + 1) n) in
    dite (ℕ_discrete from o)
    (λ e. let one : cond {A = ℕ} (from == o) w 0 ≡ w = ap (λ b. cond {A = ℕ} b w 0) (eq-eqb from o e) in let rest = none-of w o (from + 1) n (omega (arith, e)) in omega (arith, h, one, rest))
    (λ ne. let off : cond {A = ℕ} (from == o) w 0 ≡ 0 = ap (λ b. cond {A = ℕ} b w 0) (ne_eqb from o ne) in let rest = one-of w o (from + 1) n (omega (arith, ne)) (omega arith) in omega (arith, h, off, rest))

all-none : (f : ℕ → ℕ) (xs : List ℕ) → ((a : ℕ) → f a ≡ 0) → sum_by f xs ≡ 0
all-none f [] none = refl
all-none f (x ∷ xs) none = let h = sum_by-cons f x xs in let e = none x in let r = all-none f xs none in omega (arith, h, e, r)

two-sums : (f g h : ℕ → ℕ) (xs : List ℕ) → ((a : ℕ) → f a ≡ g a + h a) → sum_by f xs ≡ sum_by g xs + sum_by h xs
two-sums f g h [] each = refl
two-sums f g h (x ∷ xs) each =
    let a = sum_by-cons f x xs in let b = sum_by-cons g x xs in let c = sum_by-cons h x xs in let e = each x in let r = two-sums f g h xs each in omega (arith, a, b, c, e, r)

-- a sum over the lists of all actors is one over the passes of those that have stood
pub over_table : (f : List LaneMove → ℕ) (n : ℕ) (order : List ℕ) (js : List JoinedPass) → f [] ≡ 0 → length js ≡ length order → ((a : ℕ) → times a order ≤ 1) → All (λ o. o < n) order
    → sum_by (λ a. f (moves_at order js a)) (range_with_len 0 n) ≡ sum_by f (map (λ j. j.moves) js)
over_table f n [] [] nil long once there = all-none (λ a. f []) (range_with_len 0 n) (λ a. nil)
over_table f n [] (j ∷ js) nil long once there = absurd (omega (arith, long))
over_table f n (o ∷ os) [] nil long once there = absurd (omega (arith, long))
over_table f n (o ∷ os) (j ∷ js) nil long once there =
    two-sums (λ a. f (moves_at (o ∷ os) (j ∷ js) a)) (λ a. cond {A = ℕ} (a == o) (f j.moves) 0) (λ a. f (moves_at os js a)) (range_with_len 0 n) each
    ∙ ap (λ k. k + sum_by (λ a. f (moves_at os js a)) (range_with_len 0 n)) (one-of (f j.moves) o 0 n (omega arith) (omega (arith, below)))
    ∙ ap (λ k. f j.moves + k) (over_table f n os js nil (omega (arith, long)) (λ a. let h = often-more a o os in let u = once a in omega (arith, h, u)) (All-tail (λ x. x < n) o os there))
    ∙ sym (sum_by-cons f j.moves (map (λ (x : JoinedPass). x.moves) js))
  where
    below : o < n
    below = All-head (λ x. x < n) o os there

    gone : times o os ≡ 0
    gone = let h = often-more o o os in let u = once o in let one : cond {A = ℕ} (o == o) 1 0 ≡ 1 = ap (λ b. cond {A = ℕ} b 1 0) (eq-eqb o o refl) in omega (arith, h, u, one)

    each : (a : ℕ) → f (moves_at (o ∷ os) (j ∷ js) a) ≡ cond {A = ℕ} (a == o) (f j.moves) 0 + f (moves_at os js a)
    each a = dite (ℕ_discrete a o)
        (λ e. let at = eq-eqb a o e in
        let left : f (moves_at (o ∷ os) (j ∷ js) a) ≡ f j.moves = ap (λ b. f (cond b j.moves (moves_at os js a))) at in
        let one : cond {A = ℕ} (a == o) (f j.moves) 0 ≡ f j.moves = ap (λ b. cond {A = ℕ} b (f j.moves) 0) at in
        let rest : f (moves_at os js a) ≡ 0 = ap f (no_moves os js a (ap (λ k. times k os) e ∙ gone)) ∙ nil in
        omega (arith, left, one, rest))
        (λ ne. let at = ne_eqb a o ne in
        let left : f (moves_at (o ∷ os) (j ∷ js) a) ≡ f (moves_at os js a) = ap (λ b. f (cond b j.moves (moves_at os js a))) at in
        let zero_here : cond {A = ℕ} (a == o) (f j.moves) 0 ≡ 0 = ap (λ b. cond {A = ℕ} b (f j.moves) 0) at in
        omega (arith, left, zero_here))
