-- The lists of a lane that the last chair leaves empty.
use Rattle.std.proofs.Common.{◌≡◌, ◌≢◌, ℕ, zero, suc, ◌+◌, ◌<◌, ◌≤◌, Bool, List, [], ◌∷◌, ◌++◌, map, refl, sym, ap, ◌∙◌, subst, Option, None, arith}
use Rattle.std.specs.Prelude.{IsSomeAnd}
use Rattle.std.specs.List.{range_with_len, sum_by, count_by}
use Rattle.std.proofs.lemmas.List.Sums.{sum_by-cons, sum_by_push}
use native.Mathlib.Decide.{ℕ_discrete}
use mathlib.Core.Logic.{dite}
use Rattle.nm_base.specs.Geometry.{Geometry}
use Rattle.nm_action.specs.declared.turn.Lane.{Lane}
use Rattle.nm_action.specs.declared.turn.Lane.TheVariants.{Candidates, Pending}
use Rattle.nm_actor.specs.Lanes.{LaneMove, LaneLists, LaneState}
use Rattle.nm_actor.specs.Turns.{Turns, IsDrained}
use Rattle.nm_actor.specs.Chairs.{ChairState, lane_of}
use Rattle.nm_actor.specs.Boards.{BoardState, Seat, not_sat, sitting, stood, is_put, is_took, IsRest, IsRested, all_stood, lanes_of, told_lanes, stood_lanes}
use Rattle.nm_threads.specs.Driven.{AreMade}
use Rattle.nm_threads.proofs.Emptying.{drained-taken}
use Rattle.nm_thread_crew.specs.Boarded.{moves_of, told_moves, IsEmptied, IsStood, HaveOthersStood}

-- Sums over numbers.

sum-of-map : {A B : Type 0} (g : B → ℕ) (f : A → B) (xs : List A) → sum_by g (map f xs) ≡ sum_by (λ x. g (f x)) xs
sum-of-map g f [] = refl
sum-of-map g f (x ∷ xs) = sum_by-cons g (f x) (map f xs) ∙ ap (λ n. g (f x) + n) (sum-of-map g f xs) ∙ sym (sum_by-cons (λ y. g (f y)) x xs)

sum-same : (F G : ℕ → ℕ) (from len : ℕ) → ((a : ℕ) → from ≤ a → a < from + len → F a ≡ G a) → sum_by F (range_with_len from len) ≡ sum_by G (range_with_len from len)
sum-same F G from zero same = refl
sum-same F G from (suc len) same =
    let a = sum_by-cons F from (range_with_len (from + 1) len) in
    let b = sum_by-cons G from (range_with_len (from + 1) len) in
    let e = same from (omega arith) (omega arith) in
    let r = sum-same F G (from + 1) len (λ k le lt. same k (omega (arith, le)) (omega (arith, lt))) in
    omega (arith, a, b, e, r)

-- two functions that differ at one number alone
sum-but-one : (F G : ℕ → ℕ) (n x from len : ℕ) → from ≤ n → n < from + len → ((a : ℕ) → a < from + len → a ≢ n → F a ≡ G a) → F n ≡ G n + x
    → sum_by F (range_with_len from len) ≡ sum_by G (range_with_len from len) + x
sum-but-one F G n x from zero le lt same at = absurd (omega (arith, le, lt))
sum-but-one F G n x from (suc len) le lt same at =
    let a = sum_by-cons F from (range_with_len (from + 1) len) in
    let b = sum_by-cons G from (range_with_len (from + 1) len) in
    dite (ℕ_discrete from n)
    (λ is.
    let P : ℕ → Type 0 = λ k. F k ≡ G k + x in
    let e = subst P (sym is) at in
    let r = sum-same F G (from + 1) len (λ k more less. same k (omega (arith, less)) (λ back. omega (arith, more, is, back))) in
    omega (arith, a, b, e, r))
    (λ ne.
    let e = same from (omega arith) ne in
    let r = sum-but-one F G n x (from + 1) len (omega (arith, le, ne)) (omega (arith, lt)) (λ k below not. same k (omega (arith, below)) not) at in
    omega (arith, a, b, e, r))

-- Seats.

stood-lanes : (s : Seat) (lists : LaneLists) → IsStood s → stood_lanes s lists ≡ lists
stood-lanes not_sat lists is = elim is [ ]
stood-lanes sitting lists is = elim is [ ]
stood-lanes (stood own) lists is = refl

lane-moves : {N : Type 0} (lane : Lane) (c : ChairState N) → moves_of lane (lanes_of c) ≡ (lane_of lane c).moves
lane-moves Candidates c = refl
lane-moves Pending c = refl

no-moves : (p : LaneMove → Bool) (lane : Lane) (lists : LaneLists) → count_by p (moves_of lane (stood_lanes sitting lists)) ≡ 0
no-moves p Candidates lists = refl
no-moves p Pending lists = refl

-- the lists that the board tells at the end, and those that the last chair was told with its own
lists-counted : {N : Type 0} (p : LaneMove → Bool) (lane : Lane) (b b2 : BoardState N) (n : ℕ) (old new : ChairState N)
    → old.others ≡ None → n < b.geometry.cpus + 2 → b.seats n ≡ sitting → HaveOthersStood b n
    → b2.geometry ≡ b.geometry → b2.lanes n ≡ lanes_of new → ((a : ℕ) → a ≢ n → b2.lanes a ≡ b.lanes a)
    → sum_by (λ m. count_by p m) (told_moves lane b2) ≡ sum_by (λ m. count_by p m) (map (moves_of lane) (all_stood b old) ++ (lane_of lane new).moves ∷ [])
lists-counted {N} p lane b b2 n old new none exists sits others machine mine theirs =
    let h : List LaneMove → ℕ = λ m. count_by p m in
    let len : ℕ = b.geometry.cpus + 2 in
    let S : ℕ → LaneLists = λ a. stood_lanes (b.seats a) (b.lanes a) in
    let F : ℕ → ℕ = λ a. count_by p (moves_of lane (b2.lanes a)) in
    let G : ℕ → ℕ = λ a. count_by p (moves_of lane (S a)) in
    let x : ℕ = count_by p (lane_of lane new).moves in
    let first : sum_by h (told_moves lane b2) ≡ sum_by F (range_with_len 0 (b2.geometry.cpus + 2)) = sum-of-map h (λ a. moves_of lane (b2.lanes a)) (range_with_len 0 (b2.geometry.cpus + 2)) in
    let here : sum_by F (range_with_len 0 (b2.geometry.cpus + 2)) ≡ sum_by F (range_with_len 0 len) = ap (λ (g : Geometry). sum_by F (range_with_len 0 (g.cpus + 2))) machine in
    let Z : Seat → Type 0 = λ s. count_by p (moves_of lane (stood_lanes s (b.lanes n))) ≡ 0 in
    let gone : G n ≡ 0 = subst Z (sym sits) (no-moves p lane (b.lanes n)) in
    let own : F n ≡ x = ap (λ l. count_by p (moves_of lane l)) mine ∙ ap h (lane-moves lane new) in
    let at : F n ≡ G n + x = omega (arith, gone, own) in
    let one : sum_by F (range_with_len 0 len) ≡ sum_by G (range_with_len 0 len) + x =
    sum-but-one F G n x 0 len (omega arith) (omega (arith, exists))
    (λ a lt ne. ap (λ l. count_by p (moves_of lane l)) (theirs a ne ∙ sym (stood-lanes (b.seats a) (b.lanes a) (others a (omega (arith, lt)) ne)))) at in
    let Told : Option (ℕ → LaneLists) → List LaneLists = λ o. map (λ a. stood_lanes (b.seats a) (told_lanes o b.lanes a)) (range_with_len 0 len) in
    let all : all_stood b old ≡ map S (range_with_len 0 len) = ap Told none in
    let last : sum_by h (map (moves_of lane) (all_stood b old) ++ (lane_of lane new).moves ∷ []) ≡ sum_by h (map (moves_of lane) (all_stood b old)) + x = sum_by_push h (map (moves_of lane) (all_stood b old)) (lane_of lane new).moves in
    let sum : sum_by h (map (moves_of lane) (all_stood b old)) ≡ sum_by G (range_with_len 0 len) =
    ap (λ l. sum_by h (map (moves_of lane) l)) all ∙ sum-of-map h (moves_of lane) (map S (range_with_len 0 len)) ∙ sum-of-map (λ l. h (moves_of lane l)) S (range_with_len 0 len) in
    first ∙ here ∙ one ∙ ap (λ k. k + x) (sym sum) ∙ sym last

-- what a lane of the last chair holds after rest
rested-lane : {N : Type 0} (lane : Lane) (b : BoardState N) (old mid : ChairState N) → IsRested b old mid
    → (capacity : ℕ) × IsSomeAnd (lane_of lane mid).held (IsRest capacity (map (moves_of lane) (all_stood b old) ++ (lane_of lane mid).moves ∷ []))
rested-lane {N} Candidates b old mid r =
    let moves : mid.candidates.moves ≡ old.candidates.moves = ap (λ (l : LaneState). l.moves) r.candidates.is in
    let P : List LaneMove → Type 0 = λ m. IsSomeAnd mid.candidates.held (IsRest b.candidates (map (moves_of Candidates) (all_stood b old) ++ m ∷ [])) in
    (b.candidates, subst P (sym moves) r.candidates.held)
rested-lane {N} Pending b old mid r =
    let moves : mid.pending.moves ≡ old.pending.moves = ap (λ (l : LaneState). l.moves) r.pending.is in
    let P : List LaneMove → Type 0 = λ m. IsSomeAnd mid.pending.held (IsRest b.pending (map (moves_of Pending) (all_stood b old) ++ m ∷ [])) in
    (b.pending, subst P (sym moves) r.pending.held)

-- a lane that the last chair found empty at last is empty
pub emptied-lane : {N : Type 0} (lane : Lane) (b b2 : BoardState N) (n : ℕ) (old mid new : ChairState N) (turns : Turns)
    → old.others ≡ None → n < b.geometry.cpus + 2 → b.seats n ≡ sitting → HaveOthersStood b n
    → IsRested b old mid → AreMade mid turns new → IsDrained lane turns
    → b2.geometry ≡ b.geometry → b2.lanes n ≡ lanes_of new → ((a : ℕ) → a ≢ n → b2.lanes a ≡ b.lanes a) → IsEmptied lane b2
emptied-lane {N} lane b b2 n old mid new turns none exists sits others r made drained machine mine theirs page =
    let rest = rested-lane lane b old mid r in
    let even = drained-taken rest.0 (map (moves_of lane) (all_stood b old)) lane mid new turns rest.1 made drained page in
    lists-counted (is_took page) lane b b2 n old new none exists sits others machine mine theirs
    ∙ even
    ∙ sym (lists-counted (is_put page) lane b b2 n old new none exists sits others machine mine theirs)
