-- A machine and two queues before and after the run of a script.
use Rattle.std.specs.Prelude.{◌≡◌, ℕ, List, [], map}
use Rattle.std.specs.List.{range_with_len}
use Rattle.nm_base.specs.Geometry.{Geometry}
use Rattle.nm_action.specs.declared.tally.Tally.{Tally}
use Rattle.nm_view.specs.Opening.{IsActor}
use Rattle.nm_core.specs.State.{actor_count}
use Rattle.nm_actor.specs.Boards.{BoardState}
use Rattle.nm_rule.specs.Knows.{seat_of, unsplit_seats}
use Rattle.nm_arena.specs.Faces.{ArenaFace, SeatFace}
use Rattle.nm_arena.specs.Ends.{own_lists}
use Rattle.nm_arena.specs.Seats.{IsFirstSeat, IsSplitOut}
use Rattle.nm_queue.specs.Passes.{IsWholeHistory, PassState, QueueState, first_pass}
use Rattle.nm_queue.specs.Histories.{pages_left}
use Rattle.nm_arena_chair.specs.Names.{BoardName}
use Rattle.nm_arena_board.specs.BoardFaces.{IsOnlyPass, told_own}
use Rattle.nm_arena_board.specs.LaneHistories.{IsLaneHistory}
use Rattle.nm_script.specs.Plain.{Script}
use Rattle.nm_report.specs.declared.line_result.LineResult.{LineResult}
use Rattle.nm_thread_run.specs.Runs.{IsBoardRun}

-- the first pass of a queue in which nothing was done
abbrev pub IsFirstPass : QueueState → PassState → Type 0
IsFirstPass q p = p ≡ record { queue = q.name; known = first_pass; fulls = 0; empties = 0 }

-- a machine of this geometry, in which nothing was done, with its first seat, and two queues, each with its first pass
pub record IsOpened (g : Geometry) (arena : ArenaFace) (candidates pending : QueueState) (seat : SeatFace) (candidate_pass pending_pass : PassState) : Type 0 where
  pub machine : arena.geometry ≡ g
  pub first : IsFirstSeat arena seat
  pub seats : seat.seats ≡ unsplit_seats g
  pub candidates_open : IsFirstPass candidates candidate_pass
  pub pending_open : IsFirstPass pending pending_pass

-- A script's actors ran at a board over this machine and these queues, and all have stood: the own lists that the first seat has are
-- those that the board tells, and what it tells of a lane stands in one history of the lane's queue.
pub record IsLeftByRun (s : Script) (arena : ArenaFace) (candidates pending : QueueState) (results : List (List LineResult)) (tally : Tally) (seat : SeatFace) (candidate_pass pending_pass : PassState) : Type 0 where
  pub old : BoardState BoardName
  pub board : BoardState BoardName
  pub new : (actor : ℕ) → old.lanes actor ≡ record { candidates = []; pending = [] }
  pub run : IsBoardRun s old board results tally
  pub machine : arena.geometry ≡ s.geometry
  pub told : board.geometry ≡ s.geometry
  pub first : IsFirstSeat arena seat
  pub back : (actor : ℕ) → IsActor arena.geometry actor → ¬ IsSplitOut (seat_of seat.seats actor)
  pub own : own_lists seat.seats ≡ map (λ actor. told_own (board.seats actor)) (range_with_len 0 (actor_count arena.geometry))
  pub candidate_only : IsOnlyPass candidates candidate_pass
  pub pending_only : IsOnlyPass pending pending_pass
  pub candidate_moves : IsWholeHistory candidate_pass.known → IsLaneHistory (λ actor. (board.lanes actor).candidates) (pages_left candidate_pass.known.seen)
  pub pending_moves : IsWholeHistory pending_pass.known → IsLaneHistory (λ actor. (board.lanes actor).pending) (pages_left pending_pass.known.seen)
