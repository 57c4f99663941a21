-- The history of a queue, told by the actors in place of their passes.
use Rattle.std.proofs.Common.{◌≡◌, ◌≢◌, ℕ, suc, ◌+◌, ◌≤◌, ◌==◌, cond, Bool, true, false, List, [], ◌∷◌, length, map, take, drop, get_or, refl, sym, ap, ◌∙◌, subst, eq-eqb, ne_eqb, arith}
use Rattle.std.specs.List.{All, filter}
use Rattle.std.proofs.lemmas.List.{take-map}
use Rattle.std.proofs.lemmas.List.Elements.{All-head, All-tail, All-cons}
use Rattle.std.proofs.lemmas.List.Sums.{sum_by-cons}
use native.Mathlib.Decide.{ℕ_discrete}
use mathlib.Core.Logic.{dite}
use Rattle.nm_actor.specs.Lanes.{LaneMove, put, took}
use Rattle.nm_queue.specs.Histories.{PassMove, History, moves_by, pages_put, pages_taken, pages_left, IsFirstOut, IsFifo}
use Rattle.nm_queue.specs.Passes.{Known, JoinedPass, IsWholeHistory}
use Rattle.nm_queue.specs.Rules.{HasNoTwice}
use Rattle.nm_queue.proofs.Numbers.{times}
use Rattle.nm_arena_chair.specs.ChairFaces.{moves_at, joined_later, first_moves, HasTaken}
use Rattle.nm_arena_board.specs.LaneHistories.{IsLaneHistory}

-- the numbers of passes
abbrev numbers : List JoinedPass → List ℕ
numbers js = map (λ j. j.number) js

-- the actor of a pass, by the order of the actors and their passes in that order
abbrev actor_at : List ℕ → List JoinedPass → ℕ → ℕ
actor_at [] js n = 0
actor_at (o ∷ os) [] n = 0
actor_at (o ∷ os) (j ∷ js) n = cond (n == j.number) o (actor_at os js n)

-- whether a pass is that of an actor
abbrev is_of : List ℕ → List JoinedPass → ℕ → ℕ → Bool
is_of [] js a n = false
is_of (o ∷ os) [] a n = false
is_of (o ∷ os) (j ∷ js) a n = cond (a == o) (n == j.number) (is_of os js a n)

-- a history with other numbers
abbrev renumbered : (ℕ → ℕ) → History → History
renumbered f h = map (λ m. record { pass = f m.pass; move = m.move }) h

times-more : (r x : ℕ) (xs : List ℕ) → times r (x ∷ xs) ≡ cond {A = ℕ} (x == r) 1 0 + times r xs
times-more r x xs = sum_by-cons (λ n. cond {A = ℕ} (n == r) 1 0) x xs

one_for : (x r : ℕ) → x ≡ r → cond {A = ℕ} (x == r) 1 0 ≡ 1
one_for x r e = ap (λ b. cond {A = ℕ} b 1 0) (eq-eqb x r e)

none_for : (x r : ℕ) → x ≢ r → cond {A = ℕ} (x == r) 1 0 ≡ 0
none_for x r ne = ap (λ b. cond {A = ℕ} b 1 0) (ne_eqb x r ne)

-- the actor of a pass stands in the order
actor_there : (os : List ℕ) (js : List JoinedPass) (n : ℕ) → length js ≡ length os → times n (numbers js) ≡ 1 → 1 ≤ times (actor_at os js n) os
actor_there [] [] n long one = absurd (omega (arith, one))
actor_there [] (j ∷ js) n long one = absurd (omega (arith, long))
actor_there (o ∷ os) [] n long one = absurd (omega (arith, long))
actor_there (o ∷ os) (j ∷ js) n long one = dite (ℕ_discrete n j.number)
    (λ e. let at : actor_at (o ∷ os) (j ∷ js) n ≡ o = ap (λ b. cond b o (actor_at os js n)) (eq-eqb n j.number e) in
    let h = times-more o o os in let u = one_for o o refl in
    let here : 1 ≤ times o (o ∷ os) = omega (arith, h, u) in
    subst (λ x. 1 ≤ times x (o ∷ os)) (sym at) here)
    (λ ne. let at : actor_at (o ∷ os) (j ∷ js) n ≡ actor_at os js n = ap (λ b. cond b o (actor_at os js n)) (ne_eqb n j.number ne) in
    let h = times-more n j.number (numbers js) in let z = none_for j.number n (λ t. ne (sym t)) in
    let r = actor_there os js n (omega (arith, long)) (omega (arith, one, h, z)) in
    let m = times-more (actor_at os js n) o os in
    let here : 1 ≤ times (actor_at os js n) (o ∷ os) = omega (arith, r, m) in
    subst (λ x. 1 ≤ times x (o ∷ os)) (sym at) here)

same-both : (b : Bool) → cond b false false ≡ false
same-both true = refl
same-both false = refl

-- a pass that is not there is nobody's
is_of_none : (os : List ℕ) (js : List JoinedPass) (a n : ℕ) → times n (numbers js) ≡ 0 → is_of os js a n ≡ false
is_of_none [] js a n none = refl
is_of_none (o ∷ os) [] a n none = refl
is_of_none (o ∷ os) (j ∷ js) a n none =
    let h = times-more n j.number (numbers js) in
    let ne : n ≢ j.number = λ e. (let u = one_for j.number n (sym e) in absurd (omega (arith, h, u, none))) in
    let off : (n == j.number) ≡ false = ne_eqb n j.number ne in
    let rest : is_of os js a n ≡ false = is_of_none os js a n (omega (arith, h, none)) in
    (λ i. cond (a == o) (off i) (rest i)) ∙ same-both (a == o)

turned : (o a : ℕ) → (o == a) ≡ cond (a == o) true false
turned o a = dite (ℕ_discrete o a)
    (λ e. eq-eqb o a e ∙ sym (ap (λ b. cond b true false) (eq-eqb a o (sym e))))
    (λ ne. ne_eqb o a ne ∙ sym (ap (λ b. cond b true false) (ne_eqb a o (λ t. ne (sym t)))))

-- the actor of a pass is this one exactly if the pass is that of this actor
by_one : (os : List ℕ) (js : List JoinedPass) (a n : ℕ) → length js ≡ length os → HasNoTwice os → times n (numbers js) ≡ 1 → (actor_at os js n == a) ≡ is_of os js a n
by_one [] [] a n long once one = absurd (omega (arith, one))
by_one [] (j ∷ js) a n long once one = absurd (omega (arith, long))
by_one (o ∷ os) [] a n long once one = absurd (omega (arith, long))
by_one (o ∷ os) (j ∷ js) a n long once one =
    let h = times-more n j.number (numbers js) in
    dite (ℕ_discrete n j.number)
    (λ e. let here = eq-eqb n j.number e in let u = one_for j.number n (sym e) in
    let rest : is_of os js a n ≡ false = is_of_none os js a n (omega (arith, h, u, one)) in
    ap (λ b. cond b o (actor_at os js n) == a) here ∙ turned o a ∙ sym (λ i. cond (a == o) (here i) (rest i)))
    (λ ne. let off = ne_eqb n j.number ne in let z = none_for j.number n (λ t. ne (sym t)) in
    let fewer : times n (numbers js) ≡ 1 = omega (arith, h, z, one) in
    let long_rest : length js ≡ length os = omega (arith, long) in
    ap (λ b. cond b o (actor_at os js n) == a) off
    ∙ dite (ℕ_discrete a o)
    (λ same. let there = actor_there os js n long_rest fewer in
    let other : actor_at os js n ≢ a = λ t. (let c = once a in let m = times-more a o os in let v = one_for o a (sym same) in let w : 1 ≤ times a os = subst (λ x. 1 ≤ times x os) t there in absurd (omega (arith, c, m, v, w))) in
    ne_eqb (actor_at os js n) a other ∙ sym (ap (λ b. cond b (n == j.number) (is_of os js a n)) (eq-eqb a o same) ∙ off))
    (λ other. by_one os js a n long_rest (λ r. let c = once r in let m = times-more r o os in omega (arith, c, m)) fewer
    ∙ sym (ap (λ b. cond b (n == j.number) (is_of os js a n)) (ne_eqb a o other))))

-- the part of an actor is that of its pass
parts_by : (f : ℕ → ℕ) (a : ℕ) (t : ℕ → Bool) (h : History) → All (λ m. (f m.pass == a) ≡ t m.pass) h → moves_by a (renumbered f h) ≡ map (λ m. m.move) (filter (λ m. t m.pass) h)
parts_by f a t [] each = refl
parts_by f a t (m ∷ h) each =
    let again : moves_by a (renumbered f h) ≡ map (λ x. x.move) (filter (λ x. t x.pass) h) = parts_by f a t h (All-tail (λ x. (f x.pass == a) ≡ t x.pass) m h each) in
    ap (λ b. map (λ (x : PassMove). x.move) (cond b (record { pass = f m.pass; move = m.move } ∷ filter (λ x. x.pass == a) (renumbered f h)) (filter (λ x. x.pass == a) (renumbered f h)))) (All-head (λ x. (f x.pass == a) ≡ t x.pass) m h each)
    ∙ by (t m.pass) again
  where
    by : (b : Bool) → moves_by a (renumbered f h) ≡ map (λ x. x.move) (filter (λ x. t x.pass) h)
        → map (λ (x : PassMove). x.move) (cond b (record { pass = f m.pass; move = m.move } ∷ filter (λ x. x.pass == a) (renumbered f h)) (filter (λ x. x.pass == a) (renumbered f h)))
        ≡ map (λ x. x.move) (cond b (m ∷ filter (λ x. t x.pass) h) (filter (λ x. t x.pass) h))
    by true again = ap (λ l. m.move ∷ l) again
    by false again = again

nobodys : (h : History) → map (λ m. m.move) (filter (λ m. false) h) ≡ []
nobodys [] = refl
nobodys (m ∷ h) = nobodys h

parts_at : (os : List ℕ) (js : List JoinedPass) (a : ℕ) (h : History) → All (λ j. moves_by j.number h ≡ j.moves) js → map (λ m. m.move) (filter (λ m. is_of os js a m.pass) h) ≡ moves_at os js a
parts_at [] js a h each = nobodys h
parts_at (o ∷ os) [] a h each = nobodys h
parts_at (o ∷ os) (j ∷ js) a h each = by (a == o) (parts_at os js a h (All-tail (λ x. moves_by x.number h ≡ x.moves) j js each))
  where
    by : (b : Bool) → map (λ (m : PassMove). m.move) (filter (λ m. is_of os js a m.pass) h) ≡ moves_at os js a
        → map (λ (m : PassMove). m.move) (filter (λ m. cond b (m.pass == j.number) (is_of os js a m.pass)) h) ≡ cond b j.moves (moves_at os js a)
    by true again = All-head (λ x. moves_by x.number h ≡ x.moves) j js each
    by false again = again

-- first in, first out does not ask who it was
same_puts : (f : ℕ → ℕ) (h : History) → pages_put (renumbered f h) ≡ pages_put h
same_puts f [] = refl
same_puts f (m ∷ h) = by m.move (same_puts f h)
  where
    by : (move : LaneMove) → pages_put (renumbered f h) ≡ pages_put h → pages_put (record { pass = f m.pass; move = move } ∷ renumbered f h) ≡ pages_put (record { pass = m.pass; move = move } ∷ h)
    by (put b) again = ap (λ l. b ∷ l) again
    by (took b) again = again

same_takes : (f : ℕ → ℕ) (h : History) → pages_taken (renumbered f h) ≡ pages_taken h
same_takes f [] = refl
same_takes f (m ∷ h) = by m.move (same_takes f h)
  where
    by : (move : LaneMove) → pages_taken (renumbered f h) ≡ pages_taken h → pages_taken (record { pass = f m.pass; move = move } ∷ renumbered f h) ≡ pages_taken (record { pass = m.pass; move = move } ∷ h)
    by (put b) again = again
    by (took b) again = ap (λ l. b ∷ l) again

same_first : (f : ℕ → ℕ) (h : History) → IsFirstOut h → IsFirstOut (renumbered f h)
same_first f h first = same_takes f h ∙ first ∙ sym (λ i. take (length (same_takes f h i)) (same_puts f h i))

same_fifo : (f : ℕ → ℕ) (h : History) → IsFifo h → IsFifo (renumbered f h)
same_fifo f h fifo n = subst IsFirstOut (sym (take-map (λ (m : PassMove). record { pass = f m.pass; move = m.move }) n h)) (same_first f (take n h) (fifo n))

-- a pass without moves has none in the history
absent_pass : (r : ℕ) (h : History) → moves_by r h ≡ [] → All (λ m. m.pass ≢ r) h
absent_pass r [] none = λ i d lt. absurd (omega (arith, lt))
absent_pass r (m ∷ h) none =
    let other : m.pass ≢ r = λ e. (let here : moves_by r (m ∷ h) ≡ m.move ∷ moves_by r h = ap (λ b. map (λ (x : PassMove). x.move) (cond b (m ∷ filter (λ x. x.pass == r) h) (filter (λ x. x.pass == r) h))) (eq-eqb m.pass r e) in absurd (cc (here, none))) in
    let rest : moves_by r h ≡ [] = sym (ap (λ b. map (λ (x : PassMove). x.move) (cond b (m ∷ filter (λ x. x.pass == r) h) (filter (λ x. x.pass == r) h))) (ne_eqb m.pass r other)) ∙ none in
    All-cons (λ x. x.pass ≢ r) m h other (absent_pass r h rest)

-- the history by the actors of these passes
history_by : (os : List ℕ) (js : List JoinedPass) (h : History) → length js ≡ length os → HasNoTwice os → IsFifo h → All (λ j. moves_by j.number h ≡ j.moves) js → All (λ m. times m.pass (numbers js) ≡ 1) h
    → IsLaneHistory (moves_at os js) (pages_left h)
history_by os js h long once fifo parts each = record {
  history = renumbered (actor_at os js) h;
  fifo = same_fifo (actor_at os js) h fifo;
  parts = λ a. parts_by (actor_at os js) a (is_of os js a) h (λ i d lt. by_one os js a (get_or h i d).pass long once (each i d lt)) ∙ parts_at os js a h parts;
  left = λ i. drop (length (same_takes (actor_at os js) h i)) (same_puts (actor_at os js) h i);
}

-- the pass of an actor itself
abbrev pub own_pass : Known → JoinedPass
own_pass k = record { number = k.number; moves = k.moves }

-- the pass of a board, which moved nothing, is left out
by_passes : (actor : ℕ) (order : List ℕ) (k : Known) (joined : List JoinedPass) → k.joined ≡ joined → length joined ≡ suc (length order) → first_moves joined ≡ [] → HasNoTwice (actor ∷ order) → IsWholeHistory k
    → IsLaneHistory (moves_at (actor ∷ order) (own_pass k ∷ joined_later joined)) (pages_left k.seen)
by_passes actor order k [] same long first once whole = absurd (omega (arith, long))
by_passes actor order k (j ∷ js) same long first once whole =
    history_by (actor ∷ order) (own_pass k ∷ js) k.seen (omega (arith, long)) once whole.fifo (All-cons (λ x. moves_by x.number k.seen ≡ x.moves) (own_pass k) js whole.own rest) each
  where
    parts : All (λ x. moves_by x.number k.seen ≡ x.moves) (j ∷ js)
    parts = subst (λ l. All (λ x. moves_by x.number k.seen ≡ x.moves) l) same whole.joined

    rest : All (λ x. moves_by x.number k.seen ≡ x.moves) js
    rest = All-tail (λ x. moves_by x.number k.seen ≡ x.moves) j js parts

    boards : All (λ m. m.pass ≢ j.number) k.seen
    boards = absent_pass j.number k.seen (All-head (λ x. moves_by x.number k.seen ≡ x.moves) j js parts ∙ first)

    fewer : (n : ℕ) → n ≢ j.number → times n (k.number ∷ j.number ∷ numbers js) ≡ 1 → times n (k.number ∷ numbers js) ≡ 1
    fewer n ne one =
        let h = times-more n k.number (j.number ∷ numbers js) in let l = times-more n j.number (numbers js) in let m = times-more n k.number (numbers js) in
        let z = none_for j.number n (λ t. ne (sym t)) in omega (arith, h, l, m, z, one)

    each : All (λ m. times m.pass (k.number ∷ numbers js) ≡ 1) k.seen
    each i d lt = fewer (get_or k.seen i d).pass (boards i d lt) (subst (λ l. times (get_or k.seen i d).pass (k.number ∷ numbers l) ≡ 1) same (whole.each i d lt))

-- what all actors did stands in one history, where the last chair's pass has seen all of it
pub lane_history : (actor : ℕ) (order : List ℕ) (k : Known) → HasTaken (length order) k → HasNoTwice (actor ∷ order) → IsWholeHistory k
    → IsLaneHistory (moves_at (actor ∷ order) (own_pass k ∷ joined_later k.joined)) (pages_left k.seen)
lane_history actor order k taken once whole = by_passes actor order k k.joined refl taken.passes taken.first once whole
