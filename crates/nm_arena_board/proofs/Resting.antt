-- The last chair is given rest: no third pass is left of either queue, and what it holds is what all lane lists put and did not take.
use Rattle.std.proofs.Common.{◌≡◌, ◌≢◌, ℕ, zero, suc, ◌+◌, ◌<◌, ◌==◌, cond, false, List, [], ◌∷◌, ◌++◌, length, map, get_or, refl, sym, ap, ◌∙◌, subst, eq-eqb, ne_eqb, Some, arith}
use Rattle.std.specs.List.{All, range_with_len, count_by, sum_by}
use Rattle.std.proofs.lemmas.List.Sums.{sum_by-cons, sum_by-append}
use native.Mathlib.Decide.{ℕ_discrete}
use mathlib.Core.Logic.{dite}
use Rattle.nm_actor.specs.Boards.{sitting, stood_lanes, is_put, is_took, puts_of, takes_of, IsRest}
use Rattle.nm_actor.specs.Lanes.{LaneMove, LaneLists, Held}
use Rattle.nm_queue.specs.Passes.{PassState, QueueState, Known, JoinedPass, with_joined, pass_lists}
use Rattle.nm_queue.specs.Rules.{HasNoTwice}
use Rattle.nm_queue.proofs.Numbers.{times, absent}
use Rattle.nm_rule.specs.declared.known.ActorSeat.{ActorSeat}
use Rattle.nm_rule.specs.declared.known.ActorSeat.TheVariants.{Unsplit, Out, Back}
use Rattle.nm_arena_chair.specs.ChairFaces.{moves_at, IsBoardPass}
use Rattle.nm_arena_board.specs.BoardFaces.{seat_by, nobody_there, has_sat, has_stood, IsOrderOf, IsMaker}
use Rattle.nm_arena_board.proofs.Tables.{no_moves, over_table}
use Rattle.nm_arena_board.proofs.Standing.{apart_from, back_there}

as_much : (s : ActorSeat) → (seat_by s ≡ sitting → ⊥) → has_sat s ≡ has_stood s
as_much (Unsplit p) off = refl
as_much Out off = absurd (off refl)
as_much (Back p) off = refl

-- where nobody sits, as many have sat as have stood
none_sits : (seats : List ActorSeat) → ((b : ℕ) → seat_by (get_or seats b nobody_there) ≡ sitting → ⊥) → count_by has_sat seats ≡ count_by has_stood seats
none_sits [] off = refl
none_sits (s ∷ seats) off =
    let h = sum_by-cons (λ x. cond {A = ℕ} (has_sat x) 1 0) s seats in
    let k = sum_by-cons (λ x. cond {A = ℕ} (has_stood x) 1 0) s seats in
    let e : cond {A = ℕ} (has_sat s) 1 0 ≡ cond {A = ℕ} (has_stood s) 1 0 = ap (λ b. cond {A = ℕ} b 1 0) (as_much s (off 0)) in
    let r = none_sits seats (λ b. off (suc b)) in
    h ∙ (λ i. e i + r i) ∙ sym k

-- and one more where one sits
pub one_sits : (seats : List ActorSeat) (a : ℕ) → get_or seats a nobody_there ≡ Out → ((b : ℕ) → b ≢ a → seat_by (get_or seats b nobody_there) ≡ sitting → ⊥)
    → count_by has_sat seats ≡ suc (count_by has_stood seats)
one_sits [] a out others = absurd (cc)
one_sits (s ∷ seats) zero out others =
    let h = sum_by-cons (λ x. cond {A = ℕ} (has_sat x) 1 0) s seats in
    let k = sum_by-cons (λ x. cond {A = ℕ} (has_stood x) 1 0) s seats in
    let e : cond {A = ℕ} (has_sat s) 1 0 ≡ 1 = ap (λ x. cond {A = ℕ} (has_sat x) 1 0) out in
    let f : cond {A = ℕ} (has_stood s) 1 0 ≡ 0 = ap (λ x. cond {A = ℕ} (has_stood x) 1 0) out in
    let r = none_sits seats (λ b. others (suc b) (λ t. (let u = t in absurd (omega arith)))) in
    omega (arith, h, k, e, f, r)
one_sits (s ∷ seats) (suc a) out others =
    let h = sum_by-cons (λ x. cond {A = ℕ} (has_sat x) 1 0) s seats in
    let k = sum_by-cons (λ x. cond {A = ℕ} (has_stood x) 1 0) s seats in
    let e : cond {A = ℕ} (has_sat s) 1 0 ≡ cond {A = ℕ} (has_stood s) 1 0 = ap (λ b. cond {A = ℕ} b 1 0) (as_much s (others 0 (λ t. (let u = t in absurd (omega arith))))) in
    let r = one_sits seats a out (λ b ne. others (suc b) (λ t. ne (omega (arith, t)))) in
    omega (arith, h, k, e, r)

-- only the last chair's pass is left beside that of the board
pub last_join : (q : QueueState) (seats : List ActorSeat) (order : List ℕ) (a : ℕ) (p : PassState) → get_or seats a nobody_there ≡ Out
    → ((b : ℕ) → b ≢ a → seat_by (get_or seats b nobody_there) ≡ sitting → ⊥) → IsOrderOf seats order → IsMaker q seats order p → IsBoardPass q (length order) p
last_join q seats order a p out others ordered is = record {
  queue = is.queue;
  moves = is.moves;
  joined = is.joined;
  made = is.made ∙ ap (λ n. Some (suc n)) (one_sits seats a out others ∙ ap suc (sym ordered.many));
}

-- the last actor is not one of those that stood
pub once_with : (seats : List ActorSeat) (order : List ℕ) (a : ℕ) → get_or seats a nobody_there ≡ Out → IsOrderOf seats order → HasNoTwice (a ∷ order)
once_with seats order a out ordered x =
    let h : times x (a ∷ order) ≡ cond {A = ℕ} (a == x) 1 0 + times x order = sum_by-cons (λ b. cond {A = ℕ} (b == x) 1 0) a order in
    dite (ℕ_discrete a x)
    (λ e. let n : times x order ≡ 0 = ap (λ k. times k order) (sym e) ∙ absent a order (apart_from seats order a (ap has_stood out) ordered.stood) in
    let u : cond {A = ℕ} (a == x) 1 0 ≡ 1 = ap (λ b. cond {A = ℕ} b 1 0) (eq-eqb a x e) in omega (arith, h, n, u))
    (λ ne. let u : cond {A = ℕ} (a == x) 1 0 ≡ 0 = ap (λ b. cond {A = ℕ} b 1 0) (ne_eqb a x ne) in let o = ordered.once x in omega (arith, h, u, o))

-- the lists of the actors by their seats are those by the order
lists_of : (part : LaneLists → List LaneMove) (s : ActorSeat) (lists : LaneLists) (moves : List LaneMove) → part (record { candidates = []; pending = [] }) ≡ []
    → part lists ≡ moves → (has_stood s ≡ false → moves ≡ []) → part (stood_lanes (seat_by s) lists) ≡ moves
lists_of part (Unsplit p) lists moves nil same none = nil ∙ sym (none refl)
lists_of part Out lists moves nil same none = nil ∙ sym (none refl)
lists_of part (Back p) lists moves nil same none = same

sum_over : {X Y : Type 0} (f : Y → ℕ) (g : X → Y) (xs : List X) → sum_by f (map g xs) ≡ sum_by (λ x. f (g x)) xs
sum_over f g [] = refl
sum_over f g (x ∷ xs) = sum_by-cons f (g x) (map g xs) ∙ ap (λ n. f (g x) + n) (sum_over f g xs) ∙ sym (sum_by-cons (λ x. f (g x)) x xs)

same_sums : (f g : ℕ → ℕ) (xs : List ℕ) → ((a : ℕ) → f a ≡ g a) → sum_by f xs ≡ sum_by g xs
same_sums f g [] each = refl
same_sums f g (x ∷ xs) each = sum_by-cons f x xs ∙ (λ i. each x i + same_sums f g xs each i) ∙ sym (sum_by-cons g x xs)

-- a sum over the lists of all actors and the last one is one over the lists of its pass
over_all : (f : List LaneMove → ℕ) (part : LaneLists → List LaneMove) (n : ℕ) (seats : List ActorSeat) (lanes : ℕ → LaneLists) (order : List ℕ) (js : List JoinedPass) (own : List LaneMove)
    → f [] ≡ 0 → part (record { candidates = []; pending = [] }) ≡ [] → ((a : ℕ) → part (lanes a) ≡ moves_at order js a) → length seats ≡ n → length js ≡ length order → IsOrderOf seats order
    → sum_by f (map part (map (λ a. stood_lanes (seat_by (get_or seats a nobody_there)) (lanes a)) (range_with_len 0 n)) ++ own ∷ []) ≡ sum_by f (own ∷ [] ∷ map (λ j. j.moves) js)
over_all f part n seats lanes order js own nil empty same long many ordered =
    let lists = map part (map (λ a. stood_lanes (seat_by (get_or seats a nobody_there)) (lanes a)) (range_with_len 0 n)) in
    let both : sum_by f (lists ++ own ∷ []) ≡ sum_by f lists + sum_by f (own ∷ []) = sum_by-append f lists (own ∷ []) in
    let last : sum_by f (own ∷ []) ≡ f own + 0 = sum_by-cons f own [] in
    let first : sum_by f lists ≡ sum_by f (map (λ (j : JoinedPass). j.moves) js) =
    sum_over f part (map (λ a. stood_lanes (seat_by (get_or seats a nobody_there)) (lanes a)) (range_with_len 0 n))
    ∙ sum_over (λ l. f (part l)) (λ a. stood_lanes (seat_by (get_or seats a nobody_there)) (lanes a)) (range_with_len 0 n)
    ∙ same_sums (λ a. f (part (stood_lanes (seat_by (get_or seats a nobody_there)) (lanes a)))) (λ a. f (moves_at order js a)) (range_with_len 0 n) (λ a. ap f (each a))
    ∙ over_table f n order js nil many ordered.once below in
    let whole : sum_by f (own ∷ [] ∷ map (λ (j : JoinedPass). j.moves) js) ≡ f own + (f [] + sum_by f (map (λ (j : JoinedPass). j.moves) js)) =
    sum_by-cons f own ([] ∷ map (λ (j : JoinedPass). j.moves) js) ∙ ap (λ k. f own + k) (sum_by-cons f [] (map (λ (j : JoinedPass). j.moves) js)) in
    omega (arith, both, last, first, whole, nil)
  where
    each : (a : ℕ) → part (stood_lanes (seat_by (get_or seats a nobody_there)) (lanes a)) ≡ moves_at order js a
    each a = lists_of part (get_or seats a nobody_there) (lanes a) (moves_at order js a) empty (same a) (λ off. no_moves order js a (absent a order (apart_from seats order a off ordered.stood)))

    below : All (λ o. o < n) order
    below i d lt = subst (λ k. get_or order i d < k) long (back_there seats (get_or order i d) (ordered.stood i d lt))

-- what a lane holds after rest
pub rest_by : (capacity : ℕ) (part : LaneLists → List LaneMove) (n : ℕ) (seats : List ActorSeat) (lanes : ℕ → LaneLists) (order : List ℕ) (other into : Known) (held : Held)
    → part (record { candidates = []; pending = [] }) ≡ [] → ((a : ℕ) → part (lanes a) ≡ moves_at order other.joined a) → length seats ≡ n → length other.joined ≡ length order → other.moves ≡ [] → into.joined ≡ [] → IsOrderOf seats order
    → IsRest capacity (pass_lists (with_joined other into)) held
    → IsRest capacity (map part (map (λ a. stood_lanes (seat_by (get_or seats a nobody_there)) (lanes a)) (range_with_len 0 n)) ++ into.moves ∷ []) held
rest_by capacity part n seats lanes order other into held empty same long many still single ordered rest =
    let lists : List (List LaneMove) = map part (map (λ a. stood_lanes (seat_by (get_or seats a nobody_there)) (lanes a)) (range_with_len 0 n)) ++ into.moves ∷ [] in
    let passes : pass_lists (with_joined other into) ≡ into.moves ∷ [] ∷ map (λ (j : JoinedPass). j.moves) other.joined =
    ap (λ js. into.moves ∷ map (λ (j : JoinedPass). j.moves) (js ++ record { number = other.number; moves = other.moves } ∷ other.joined)) single ∙ ap (λ m. into.moves ∷ m ∷ map (λ (j : JoinedPass). j.moves) other.joined) still in
    record {
      limit = rest.limit;
      pages = λ page.
          let p : puts_of page lists ≡ puts_of page (pass_lists (with_joined other into)) = over_all (λ moves. count_by (is_put page) moves) part n seats lanes order other.joined into.moves refl empty same long many ordered ∙ sym (ap (puts_of page) passes) in
          let t : takes_of page lists ≡ takes_of page (pass_lists (with_joined other into)) = over_all (λ moves. count_by (is_took page) moves) part n seats lanes order other.joined into.moves refl empty same long many ordered ∙ sym (ap (takes_of page) passes) in
          ap (λ k. count_by (λ b. b == page) held.pages + k) t ∙ rest.pages page ∙ sym p;
    }
