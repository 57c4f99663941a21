-- Nothing is left in a lane from which each page was taken as often as it was put.
use Rattle.std.proofs.Common.{◌≡◌, ℕ, zero, suc, ◌+◌, ◌≤◌, List, [], ◌∷◌, map, refl, sym, ap, subst, ◌∙◌, arith}
use Rattle.std.specs.List.{range_with_len}
use Rattle.nm_action.specs.declared.turn.Lane.{Lane}
use Rattle.nm_action.specs.declared.turn.Lane.TheVariants.{Candidates, Pending}
use Rattle.nm_view.specs.Opening.{IsActor}
use Rattle.nm_actor.specs.Lanes.{LaneMove}
use Rattle.nm_actor.specs.Boards.{BoardState, puts_of, takes_of}
use Rattle.nm_actor.specs.Turns.{Turns, lane_list, lane_lists}
use Rattle.nm_queue.specs.Histories.{moves_by}
use Rattle.nm_arena_board.specs.LaneHistories.{IsLaneHistory}
use Rattle.nm_thread_crew.specs.Boarded.{moves_of, IsEmptied}
use Rattle.nm_thread_settled.specs.Emptied.{IsEmptiedLane}
use Rattle.nm_thread_settled.proofs.Counting.{none-left}

same_maps : {A : Type 0} (f g : ℕ → A) (from many : ℕ) → ((n : ℕ) → f n ≡ g n) → map f (range_with_len from many) ≡ map g (range_with_len from many)
same_maps f g from zero same = refl
same_maps f g from (suc many) same = ap (λ x. x ∷ map f (range_with_len (from + 1) many)) (same from) ∙ ap (λ l. g from ∷ l) (same_maps f g (from + 1) many same)

-- the moves of a lane that the turns of an actor made
turns_moves : (lane : Lane) (turns : Turns) → moves_of lane (lane_lists turns) ≡ lane_list lane turns
turns_moves Candidates turns = refl
turns_moves Pending turns = refl

no_moves : (lane : Lane) → moves_of lane (record { candidates = []; pending = [] }) ≡ []
no_moves Candidates = refl
no_moves Pending = refl

-- a history that tells the lane lists of a board, and of which each page was taken as often as it was put
pub lane_emptied : {N : Type 0} (lane : Lane) (b : BoardState N) (left : List ℕ) (turns : ℕ → Turns) → IsLaneHistory (λ actor. moves_of lane (b.lanes actor)) left → IsEmptied lane b
    → ((actor : ℕ) → b.lanes actor ≡ lane_lists (turns actor)) → ((actor : ℕ) → ¬ IsActor b.geometry actor → b.lanes actor ≡ record { candidates = []; pending = [] })
    → IsEmptiedLane lane turns
lane_emptied lane b left turns told emptied lanes nobody =
    let many = b.geometry.cpus + 2 in
    let same = same_maps (λ actor. moves_by actor told.history) (λ actor. moves_of lane (b.lanes actor)) 0 many told.parts in
    let Same : List (List LaneMove) → Type 0 = λ l. (page : ℕ) → takes_of page l ≡ puts_of page l in
    let beyond : (actor : ℕ) → many ≤ actor → moves_by actor told.history ≡ [] = λ actor past. told.parts actor ∙ ap (moves_of lane) (nobody actor (λ there. omega (arith, there, past))) ∙ no_moves lane in
    record {
      history = told.history;
      fifo = told.fifo;
      parts = λ actor. told.parts actor ∙ ap (moves_of lane) (lanes actor) ∙ turns_moves lane (turns actor);
      none = none-left told.history many told.fifo beyond (subst Same (sym same) emptied);
    }
