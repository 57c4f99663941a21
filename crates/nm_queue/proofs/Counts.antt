-- The pages that are left, counted by the lists of a pass that is alone.
use Rattle.std.proofs.Common.{◌≡◌, ◌≢◌, ◌==◌, cond, ℕ, zero, suc, ◌+◌, ◌*◌, ◌<◌, ◌≤◌, Bool, true, false, List, [], ◌∷◌, ◌++◌, length, map, sym, refl, ap, ◌∙◌, subst, eq-eqb, ne_eqb, arith}
use mathlib.Core.Logic.{dite}
use native.Mathlib.Decide.{ℕ_discrete}
use Rattle.std.specs.List.{All, filter, filter_map, sum_by, count_by}
use Rattle.std.proofs.lemmas.List.Elements.{All-head, All-tail}
use Rattle.std.proofs.lemmas.List.Sums.{sum_by-cons, sum_by-append}
use Rattle.nm_actor.specs.Lanes.{LaneMove, put, took, Held}
use Rattle.nm_actor.specs.Boards.{is_put, is_took, puts_of, takes_of, IsRest}
use Rattle.nm_queue.specs.Histories.{PassMove, History, moves_by, page_put, page_taken, pages_put, pages_taken, pages_left, IsFifo}
use Rattle.nm_queue.specs.Passes.{Known, JoinedPass, pass_numbers, pass_lists, IsWholeHistory}
use Rattle.nm_queue.proofs.Fifo.{leaves-left, fifo_now}
use Rattle.nm_queue.proofs.Numbers.{times}

-- how often a page stands in a list
abbrev pub copies : ℕ → List ℕ → ℕ
copies page xs = count_by (λ b. b == page) xs

-- a count over the parts of some passes in a history
abbrev pub over_parts : (LaneMove → Bool) → List ℕ → History → ℕ
over_parts p passes h = sum_by (λ r. count_by p (moves_by r h)) passes

-- by one pass: a move more counts where it is the pass's own
part_more : (p : LaneMove → Bool) (r : ℕ) (m : PassMove) (h : History) → count_by p (moves_by r (m ∷ h)) ≡ cond (m.pass == r) (cond (p m.move) 1 0) 0 + count_by p (moves_by r h)
part_more p r m h = by (m.pass == r)
  where
    rest : List LaneMove
    rest = moves_by r h

    by : (b : Bool) → count_by p (map (λ (x : PassMove). x.move) (cond b (m ∷ filter (λ x. x.pass == r) h) (filter (λ x. x.pass == r) h))) ≡ cond b (cond (p m.move) 1 0) 0 + count_by p (moves_by r h)
    by true = sum_by-cons (λ x. cond (p x) 1 0) m.move (moves_by r h)
    by false = omega arith

same_test : (a b : ℕ) → (a == b) ≡ (b == a)
same_test a b = dite (ℕ_discrete a b) (λ e. eq-eqb a b e ∙ sym (eq-eqb b a (sym e))) (λ ne. ne_eqb a b ne ∙ sym (ne_eqb b a (λ e. ne (sym e))))

sums : (b same : Bool) (t x y : ℕ) → (cond {A = ℕ} same (cond {A = ℕ} b 1 0) 0 + x) + (cond {A = ℕ} b t 0 + y) ≡ cond {A = ℕ} b (cond {A = ℕ} same 1 0 + t) 0 + (x + y)
sums true true t x y = omega arith
sums true false t x y = omega arith
sums false true t x y = omega arith
sums false false t x y = omega arith

-- a move more counts once for each time that its pass stands in the list
over_more : (p : LaneMove → Bool) (passes : List ℕ) (m : PassMove) (h : History) → over_parts p passes (m ∷ h) ≡ cond {A = ℕ} (p m.move) (times m.pass passes) 0 + over_parts p passes h
over_more p [] m h = by (p m.move)
  where
    by : (b : Bool) → 0 ≡ cond {A = ℕ} b 0 0 + 0
    by true = omega arith
    by false = omega arith
over_more p (r ∷ rs) m h =
    let c : ℕ = cond (p m.move) 1 0 in
    let first : count_by p (moves_by r (m ∷ h)) ≡ cond {A = ℕ} (r == m.pass) c 0 + count_by p (moves_by r h) = part_more p r m h ∙ ap (λ b. cond {A = ℕ} b c 0 + count_by p (moves_by r h)) (same_test m.pass r) in
    sum_by-cons (λ q. count_by p (moves_by q (m ∷ h))) r rs
    ∙ ap (λ x. x + over_parts p rs (m ∷ h)) first
    ∙ ap (λ x. (cond {A = ℕ} (r == m.pass) c 0 + count_by p (moves_by r h)) + x) (over_more p rs m h)
    ∙ sums (p m.move) (r == m.pass) (times m.pass rs) (count_by p (moves_by r h)) (over_parts p rs h)
    ∙ ap (λ t. cond {A = ℕ} (p m.move) t 0 + (count_by p (moves_by r h) + over_parts p rs h)) (sym (sum_by-cons (λ n. cond {A = ℕ} (n == m.pass) 1 0) r rs))
    ∙ ap (λ x. cond {A = ℕ} (p m.move) (times m.pass (r ∷ rs)) 0 + x) (sym (sum_by-cons (λ q. count_by p (moves_by q h)) r rs))

-- where each move's pass stands in it once, the parts have each move once
pub over_whole : (p : LaneMove → Bool) (passes : List ℕ) (h : History) → All (λ m. times m.pass passes ≡ 1) h → over_parts p passes h ≡ count_by p (map (λ m. m.move) h)
over_whole p passes [] once = none passes
  where
    none : (rs : List ℕ) → over_parts p rs [] ≡ 0
    none [] = refl
    none (r ∷ rs) = sum_by-cons (λ q. count_by p (moves_by q [])) r rs ∙ ap (λ x. 0 + x) (none rs)
over_whole p passes (m ∷ h) once =
    over_more p passes m h
    ∙ ap (λ t. cond {A = ℕ} (p m.move) t 0 + over_parts p passes h) (All-head (λ x. times x.pass passes ≡ 1) m h once)
    ∙ ap (λ x. cond {A = ℕ} (p m.move) 1 0 + x) (over_whole p passes h (All-tail (λ x. times x.pass passes ≡ 1) m h once))
    ∙ sym (sum_by-cons (λ x. cond {A = ℕ} (p x) 1 0) m.move (map (λ x. x.move) h))

-- the lists of the joined passes are their parts
over_joined : (p : LaneMove → Bool) (h : History) (joined : List JoinedPass) → All (λ j. moves_by j.number h ≡ j.moves) joined
    → sum_by (λ moves. count_by p moves) (map (λ j. j.moves) joined) ≡ over_parts p (map (λ j. j.number) joined) h
over_joined p h [] are = refl
over_joined p h (j ∷ js) are =
    sum_by-cons (λ moves. count_by p moves) j.moves (map (λ x. x.moves) js)
    ∙ ap (λ moves. count_by p moves + sum_by (λ moves. count_by p moves) (map (λ (x : JoinedPass). x.moves) js)) (sym (All-head (λ x. moves_by x.number h ≡ x.moves) j js are))
    ∙ ap (λ x. count_by p (moves_by j.number h) + x) (over_joined p h js (All-tail (λ x. moves_by x.number h ≡ x.moves) j js are))
    ∙ sym (sum_by-cons (λ q. count_by p (moves_by q h)) j.number (map (λ x. x.number) js))

-- a count over the lists of a pass that is alone is the count over the whole history
over_lists : (p : LaneMove → Bool) (k : Known) → IsWholeHistory k → sum_by (λ moves. count_by p moves) (pass_lists k) ≡ count_by p (map (λ m. m.move) k.seen)
over_lists p k whole =
    sum_by-cons (λ moves. count_by p moves) k.moves (map (λ j. j.moves) k.joined)
    ∙ ap (λ moves. count_by p moves + sum_by (λ moves. count_by p moves) (map (λ (j : JoinedPass). j.moves) k.joined)) (sym whole.own)
    ∙ ap (λ x. count_by p (moves_by k.number k.seen) + x) (over_joined p k.seen k.joined whole.joined)
    ∙ sym (sum_by-cons (λ q. count_by p (moves_by q k.seen)) k.number (map (λ j. j.number) k.joined))
    ∙ over_whole p (pass_numbers k) k.seen whole.each

pub put_copies : (page : ℕ) (h : History) → copies page (pages_put h) ≡ count_by (is_put page) (map (λ m. m.move) h)
put_copies page [] = refl
put_copies page (m ∷ h) = by m.move (put_copies page h)
  where
    by : (move : LaneMove) → copies page (pages_put h) ≡ count_by (is_put page) (map (λ x. x.move) h) → copies page (pages_put (record { pass = m.pass; move = move } ∷ h)) ≡ count_by (is_put page) (move ∷ map (λ x. x.move) h)
    by (put b) again = sum_by-cons (λ x. cond {A = ℕ} (x == page) 1 0) b (pages_put h) ∙ ap (λ x. cond {A = ℕ} (b == page) 1 0 + x) again ∙ sym (sum_by-cons (λ x. cond {A = ℕ} (is_put page x) 1 0) (put b) (map (λ x. x.move) h))
    by (took b) again = again ∙ sym (sum_by-cons (λ x. cond {A = ℕ} (is_put page x) 1 0) (took b) (map (λ x. x.move) h) ∙ (let c : ℕ = count_by (is_put page) (map (λ x. x.move) h) in let e : 0 + c ≡ c = omega arith in e))

pub taken_copies : (page : ℕ) (h : History) → copies page (pages_taken h) ≡ count_by (is_took page) (map (λ m. m.move) h)
taken_copies page [] = refl
taken_copies page (m ∷ h) = by m.move (taken_copies page h)
  where
    by : (move : LaneMove) → copies page (pages_taken h) ≡ count_by (is_took page) (map (λ x. x.move) h) → copies page (pages_taken (record { pass = m.pass; move = move } ∷ h)) ≡ count_by (is_took page) (move ∷ map (λ x. x.move) h)
    by (put b) again = again ∙ sym (sum_by-cons (λ x. cond {A = ℕ} (is_took page x) 1 0) (put b) (map (λ x. x.move) h) ∙ (let c : ℕ = count_by (is_took page) (map (λ x. x.move) h) in let e : 0 + c ≡ c = omega arith in e))
    by (took b) again = sum_by-cons (λ x. cond {A = ℕ} (x == page) 1 0) b (pages_taken h) ∙ ap (λ x. cond {A = ℕ} (b == page) 1 0 + x) again ∙ sym (sum_by-cons (λ x. cond {A = ℕ} (is_took page x) 1 0) (took b) (map (λ x. x.move) h))

-- what the queue holds is what these lists put and did not take
pub whole_rest : (capacity : ℕ) (k : Known) → IsWholeHistory k → IsRest capacity (pass_lists k) (record { capacity = capacity; pages = pages_left k.seen })
whole_rest capacity k whole = record {
  limit = refl;
  pages = λ page.
      let h = k.seen in
      let all : copies page (pages_put h) ≡ copies page (pages_taken h) + copies page (pages_left h) = ap (copies page) (leaves-left h (fifo_now h whole.fifo)) ∙ sum_by-append (λ b. cond {A = ℕ} (b == page) 1 0) (pages_taken h) (pages_left h) in
      let a : puts_of page (pass_lists k) ≡ copies page (pages_put h) = over_lists (is_put page) k whole ∙ sym (put_copies page h) in
      let b : takes_of page (pass_lists k) ≡ copies page (pages_taken h) = over_lists (is_took page) k whole ∙ sym (taken_copies page h) in
      omega arith;
}
