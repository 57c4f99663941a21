-- A board ends: what its first seat and its passes tell is what it told.
use Rattle.std.proofs.Common.{◌≡◌, ℕ, zero, suc, ◌<◌, ◌==◌, cond, Bool, true, false, true≢false, List, [], ◌∷◌, length, map, get_or, refl, sym, ap, ◌∙◌, subst, Option, None, Some, arith}
use Rattle.std.specs.List.{range_with_len}
use Rattle.std.proofs.lemmas.List.{length-map, get_or-map}
use Rattle.std.proofs.lemmas.List.FromFn.{fill_by_all}
use Rattle.nm_actor.specs.Lanes.{LaneMove, LaneLists}
use Rattle.nm_core.specs.State.{actor_count}
use Rattle.nm_arena.specs.Seats.{IsFirstSeat}
use Rattle.nm_arena.specs.Ends.{own_lists}
use Rattle.nm_arena.specs.Mirrors.{own_by}
use Rattle.nm_queue.specs.Histories.{pages_left}
use Rattle.nm_queue.specs.Passes.{QueueState, IsWholeHistory}
use Rattle.nm_rule.specs.Knows.{progress_by, unstarted}
use Rattle.nm_rule.specs.declared.known.Progress.{Progress}
use Rattle.nm_rule.specs.declared.known.ActorSeat.{ActorSeat}
use Rattle.nm_rule.specs.declared.known.ActorSeat.TheVariants.{Unsplit, Out, Back}
use Rattle.nm_arena_chair.specs.ChairFaces.{moves_at, joined_later}
use Rattle.nm_arena_board.specs.BoardFaces.{BoardFace, MainFace, told_by, has_rested, seat_by, nobody_there, told_own, IsMainKept}
use Rattle.nm_arena_board.specs.LaneHistories.{IsLaneHistory}
use Rattle.nm_arena_board.proofs.Histories.{lane_history, own_pass}

-- a lane of the last actor, or of another
lane_by_test : (b : Bool) (part : LaneLists → List LaneMove) (x y : LaneLists) → cond b (part x) (part y) ≡ part (cond b x y)
lane_by_test true part x y = refl
lane_by_test false part x y = refl

told_moves : (lists mine : ℕ → List LaneMove) (pages : List ℕ) → ((a : ℕ) → lists a ≡ mine a) → IsLaneHistory lists pages → IsLaneHistory mine pages
told_moves lists mine pages same is = record { history = is.history; fifo = is.fifo; parts = λ a. is.parts a ∙ same a; left = is.left }

left_candidates : (q r : QueueState) (seats : List ActorSeat) (m : MainFace) (last : Option ℕ) → has_rested (Some m) last ≡ true → IsMainKept q r seats (Some m) last → IsWholeHistory m.candidates.known
    → IsLaneHistory (λ a. (told_by (Some m) last a).candidates) (pages_left m.candidates.known.seen)
left_candidates q r seats m None rested kept whole = absurd (true≢false (sym rested))
left_candidates q r seats m (Some x) rested kept whole =
    told_moves (moves_at (x ∷ m.order) (own_pass m.candidates.known ∷ joined_later m.candidates.known.joined)) (λ a. (told_by (Some m) (Some x) a).candidates) (pages_left m.candidates.known.seen)
    (λ a. lane_by_test (a == x) (λ l. l.candidates) (record { candidates = m.candidates.known.moves; pending = m.pending.known.moves }) (record { candidates = moves_at m.order (joined_later m.candidates.known.joined) a; pending = moves_at m.order (joined_later m.pending.known.joined) a }))
    (lane_history x m.order m.candidates.known kept.order.candidates kept.order.once whole)

left_pending : (q r : QueueState) (seats : List ActorSeat) (m : MainFace) (last : Option ℕ) → has_rested (Some m) last ≡ true → IsMainKept q r seats (Some m) last → IsWholeHistory m.pending.known
    → IsLaneHistory (λ a. (told_by (Some m) last a).pending) (pages_left m.pending.known.seen)
left_pending q r seats m None rested kept whole = absurd (true≢false (sym rested))
left_pending q r seats m (Some x) rested kept whole =
    told_moves (moves_at (x ∷ m.order) (own_pass m.pending.known ∷ joined_later m.pending.known.joined)) (λ a. (told_by (Some m) (Some x) a).pending) (pages_left m.pending.known.seen)
    (λ a. lane_by_test (a == x) (λ l. l.pending) (record { candidates = m.candidates.known.moves; pending = m.pending.known.moves }) (record { candidates = moves_at m.order (joined_later m.candidates.known.joined) a; pending = moves_at m.order (joined_later m.pending.known.joined) a }))
    (lane_history x m.order m.pending.known kept.order.pending kept.order.once whole)

-- the board with the passes that it gives
there : (now inner : BoardFace) (n m : MainFace) → inner ≡ now → inner.main ≡ Some n → m ≡ n → inner.main ≡ Some m
there now inner n m same main is = main ∙ ap (λ k. Some k) (sym is)

rested_there : (now inner : BoardFace) (m : MainFace) → inner ≡ now → inner.main ≡ Some m → has_rested now.main now.last ≡ true → has_rested (Some m) inner.last ≡ true
rested_there now inner m same here rested = ap (λ k. has_rested k inner.last) (sym here) ∙ ap (λ (b : BoardFace). has_rested b.main b.last) same ∙ rested

told_there : (now inner : BoardFace) (m : MainFace) (a : ℕ) → inner ≡ now → inner.main ≡ Some m → told_by (Some m) inner.last a ≡ told_by now.main now.last a
told_there now inner m a same here = ap (λ k. told_by k inner.last a) (sym here) ∙ ap (λ (b : BoardFace). told_by b.main b.last a) same

pub done_candidates : (now inner : BoardFace) (n m : MainFace) → inner ≡ now → inner.main ≡ Some n → m ≡ n → has_rested now.main now.last ≡ true → IsMainKept inner.candidates inner.pending inner.seat.seats inner.main inner.last
    → IsWholeHistory m.candidates.known → IsLaneHistory (λ a. (told_by now.main now.last a).candidates) (pages_left m.candidates.known.seen)
done_candidates now inner n m same main is rested kept whole =
    let here = there now inner n m same main is in
    told_moves (λ a. (told_by (Some m) inner.last a).candidates) (λ a. (told_by now.main now.last a).candidates) (pages_left m.candidates.known.seen) (λ a. ap (λ (l : LaneLists). l.candidates) (told_there now inner m a same here))
    (left_candidates inner.candidates inner.pending inner.seat.seats m inner.last (rested_there now inner m same here rested) (subst (λ k. IsMainKept inner.candidates inner.pending inner.seat.seats k inner.last) here kept) whole)

pub done_pending : (now inner : BoardFace) (n m : MainFace) → inner ≡ now → inner.main ≡ Some n → m ≡ n → has_rested now.main now.last ≡ true → IsMainKept inner.candidates inner.pending inner.seat.seats inner.main inner.last
    → IsWholeHistory m.pending.known → IsLaneHistory (λ a. (told_by now.main now.last a).pending) (pages_left m.pending.known.seen)
done_pending now inner n m same main is rested kept whole =
    let here = there now inner n m same main is in
    told_moves (λ a. (told_by (Some m) inner.last a).pending) (λ a. (told_by now.main now.last a).pending) (pages_left m.pending.known.seen) (λ a. ap (λ (l : LaneLists). l.pending) (told_there now inner m a same here))
    (left_pending inner.candidates inner.pending inner.seat.seats m inner.last (rested_there now inner m same here rested) (subst (λ k. IsMainKept inner.candidates inner.pending inner.seat.seats k inner.last) here kept) whole)

-- the own list of a seat is the one that the board tells
own_told : (s : ActorSeat) (p : Progress) → p.own ≡ [] → ((u : Progress) → s ≡ Unsplit u → u ≡ p) → own_by (progress_by s) ≡ told_own (seat_by s)
own_told (Unsplit u) p nil unsplit = ap (λ (v : Progress). v.own) (unsplit u refl) ∙ nil
own_told Out p nil unsplit = refl
own_told (Back u) p nil unsplit = refl

same_place : (seats : List ActorSeat) (a : ℕ) (d e : ActorSeat) → a < length seats → get_or seats a d ≡ get_or seats a e
same_place [] a d e lt = absurd (omega (arith, lt))
same_place (s ∷ seats) zero d e lt = refl
same_place (s ∷ seats) (suc a) d e lt = same_place seats a d e (omega (arith, lt))

pub done_own : (now inner : BoardFace) → inner ≡ now → IsFirstSeat inner.arena inner.seat
    → own_lists inner.seat.seats ≡ map (λ actor. told_own (seat_by (get_or now.seat.seats actor nobody_there))) (range_with_len 0 (actor_count now.arena.geometry))
done_own now inner same is =
    fill_by_all (λ actor. told_own (seat_by (get_or inner.seat.seats actor nobody_there))) (own_lists inner.seat.seats) (actor_count inner.arena.geometry) [] (length-map inner.seat.seats (λ seat. own_by (progress_by seat)) ∙ is.count)
    (λ a lt. each a (subst (λ n. a < n) (sym is.count) lt))
    ∙ ap (λ (b : BoardFace). map (λ actor. told_own (seat_by (get_or b.seat.seats actor nobody_there))) (range_with_len 0 (actor_count b.arena.geometry))) same
  where
    each : (a : ℕ) → a < length inner.seat.seats → get_or (own_lists inner.seat.seats) a [] ≡ told_own (seat_by (get_or inner.seat.seats a nobody_there))
    each a lt =
        get_or-map (λ seat. own_by (progress_by seat)) inner.seat.seats a nobody_there [] lt
        ∙ own_told (get_or inner.seat.seats a nobody_there) (unstarted inner.arena.geometry a) refl (λ u e. is.unsplit a u (same_place inner.seat.seats a Out nobody_there lt ∙ e))
