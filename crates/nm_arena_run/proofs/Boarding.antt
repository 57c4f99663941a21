-- A new board, and what is left when all have stood.
use Rattle.std.proofs.Common.{◌≡◌, ◌≢◌, ℕ, ◌+◌, List, [], map, inl, inr, sym, ap, subst, ◌∙◌, arith}
use Rattle.std.specs.List.{range_with_len}
use Rattle.std.proofs.lemmas.Bool.{cases_eq, cases_lt}
use Rattle.nm_base.specs.Geometry.{Geometry}
use Rattle.nm_action.specs.Own.{Own}
use Rattle.nm_action.specs.declared.tally.Tally.{Tally}
use Rattle.nm_view.specs.Opening.{IsActor}
use Rattle.nm_actor.specs.Boards.{BoardState, Seat, not_sat, sitting, stood}
use Rattle.nm_core.specs.State.{actor_count}
use Rattle.nm_rule.specs.Knows.{seat_of}
use Rattle.nm_arena.specs.Ends.{own_lists}
use Rattle.nm_arena.specs.Faces.{ArenaFace, SeatFace}
use Rattle.nm_arena.specs.Seats.{IsFirstSeat, IsSplitOut}
use Rattle.nm_arena_chair.specs.Names.{BoardName}
use Rattle.nm_arena_chair.specs.ChairFaces.{board_name}
use Rattle.nm_arena_board.specs.BoardFaces.{BoardFace, IsOnlyPass, board_state, new_board, told_own}
use Rattle.nm_arena_board.specs.LaneHistories.{IsLaneHistory}
use Rattle.nm_queue.specs.Histories.{pages_left}
use Rattle.nm_queue.specs.Passes.{IsWholeHistory, PassState, QueueState}
use Rattle.nm_script.specs.Plain.{Script}
use Rattle.nm_report.specs.declared.line_result.LineResult.{LineResult}
use Rattle.nm_thread_crew.specs.Boarded.{IsNewBoard}
use Rattle.nm_thread_run.specs.Runs.{IsBoardRun}
use Rattle.nm_arena_run.specs.Machines.{IsLeftByRun}

-- nobody has sat at a new board
pub new_is_new : (name : BoardName) (g : Geometry) (candidates pending : ℕ) (b : BoardState BoardName) → b ≡ new_board name g candidates pending → IsNewBoard b
new_is_new name g candidates pending b is = record { seats = λ a. ap (λ (k : BoardState BoardName). k.seats a) is; rested = ap (λ (k : BoardState BoardName). k.rested) is }

pub new_empty : (name : BoardName) (g : Geometry) (candidates pending : ℕ) (b : BoardState BoardName) → b ≡ new_board name g candidates pending → (actor : ℕ) → b.lanes actor ≡ record { candidates = []; pending = [] }
new_empty name g candidates pending b is actor = ap (λ (k : BoardState BoardName). k.lanes actor) is

-- who has stood doesn't sit
abbrev does_sit : Seat → ℕ
does_sit not_sat = 0
does_sit sitting = 1
does_sit (stood own) = 0

not_sitting : (seat : Seat) (own : Own) → seat ≡ stood own → seat ≢ sitting
not_sitting seat own is sits =
    let bad : 0 ≡ 1 = ap does_sit (sym is ∙ sits) in
    absurd (omega (arith, bad))

-- every actor has stood
pub none_sits : (s : Script) (old b : BoardState BoardName) (results : List (List LineResult)) (tally : Tally) (run : IsBoardRun s old b results tally) (actor : ℕ) → IsActor s.geometry actor → b.seats actor ≢ sitting
none_sits s old b results tally run actor there = elim (cases_lt actor s.geometry.cpus) [
  | inl lt ↦ not_sitting (b.seats actor) _ (run.cpus actor lt).seat
  | inr past ↦ elim (cases_eq actor s.geometry.cpus) [
    | inl is ↦ not_sitting (b.seats actor) _ (ap b.seats is ∙ run.migrator.seat)
    | inr other ↦ (
        let is : actor ≡ s.geometry.cpus + 1 = omega (arith, there, past, other) in
        not_sitting (b.seats actor) _ (ap b.seats is ∙ run.reclaimer.seat))
  ]
]

-- ---- the machine and the queues of a board, by its name

same_arena : (one other : ArenaFace) → one.geometry ≡ other.geometry → one.table ≡ other.table → one ≡ other
same_arena one other g t = ap (λ k. record { geometry = k; table = one.table }) g ∙ ap (λ k. record { geometry = other.geometry; table = k }) t

same_queue : (one other : QueueState) → one.name ≡ other.name → one.capacity ≡ other.capacity → one ≡ other
same_queue one other n c = ap (λ k. record { name = k; capacity = one.capacity }) n ∙ ap (λ k. record { name = other.name; capacity = k }) c

-- the board that is left is one over the same machine and the same queues
pub record IsOver (arena : ArenaFace) (candidates pending : QueueState) (b : BoardFace) : Type 0 where
  pub arena_is : b.arena ≡ arena
  pub candidates_are : b.candidates ≡ candidates
  pub pending_are : b.pending ≡ pending

pub over_same : (s : Script) (arena : ArenaFace) (candidates pending : QueueState) (old : BoardState BoardName) (b : BoardFace) (results : List (List LineResult)) (tally : Tally)
    → old ≡ new_board (board_name arena candidates pending) arena.geometry candidates.capacity pending.capacity → IsBoardRun s old (board_state b) results tally → IsOver arena candidates pending b
over_same s arena candidates pending old b results tally opened run =
    let name : (board_state b).name ≡ board_name arena candidates pending = ap (λ (k : BoardState BoardName). k.name) run.is ∙ ap (λ (k : BoardState BoardName). k.name) opened in
    let g : b.arena.geometry ≡ arena.geometry = ap (λ (k : BoardState BoardName). k.geometry) run.is ∙ ap (λ (k : BoardState BoardName). k.geometry) opened in
    let c : b.candidates.capacity ≡ candidates.capacity = ap (λ (k : BoardState BoardName). k.candidates) run.is ∙ ap (λ (k : BoardState BoardName). k.candidates) opened in
    let p : b.pending.capacity ≡ pending.capacity = ap (λ (k : BoardState BoardName). k.pending) run.is ∙ ap (λ (k : BoardState BoardName). k.pending) opened in
    record {
      arena_is = same_arena b.arena arena g (ap (λ (n : BoardName). n.arena) name);
      candidates_are = same_queue b.candidates candidates (ap (λ (n : BoardName). n.candidates) name) c;
      pending_are = same_queue b.pending pending (ap (λ (n : BoardName). n.pending) name) p;
    }

pub machine_kept : (s : Script) (arena : ArenaFace) (candidates pending : QueueState) (old : BoardState BoardName) (b : BoardFace) (results : List (List LineResult)) (tally : Tally)
    → old ≡ new_board (board_name arena candidates pending) arena.geometry candidates.capacity pending.capacity → IsBoardRun s old (board_state b) results tally
    → arena.geometry ≡ s.geometry → b.arena.geometry ≡ s.geometry
machine_kept s arena candidates pending old b results tally opened run machine =
    ap (λ (k : BoardState BoardName). k.geometry) run.is ∙ ap (λ (k : BoardState BoardName). k.geometry) opened ∙ machine

-- what the board gives out at its end
pub left_at_board : (s : Script) (arena : ArenaFace) (candidates pending : QueueState) (old : BoardState BoardName) (b : BoardFace) (results : List (List LineResult)) (tally : Tally) (seat : SeatFace) (candidate_pass pending_pass : PassState)
    → arena.geometry ≡ s.geometry
    → old ≡ new_board (board_name arena candidates pending) arena.geometry candidates.capacity pending.capacity → IsBoardRun s old (board_state b) results tally
    → IsFirstSeat b.arena seat → ((actor : ℕ) → IsActor b.arena.geometry actor → IsSplitOut (seat_of seat.seats actor) → ⊥)
    → own_lists seat.seats ≡ map (λ actor. told_own ((board_state b).seats actor)) (range_with_len 0 (actor_count b.arena.geometry))
    → IsOnlyPass b.candidates candidate_pass → IsOnlyPass b.pending pending_pass
    → (IsWholeHistory candidate_pass.known → IsLaneHistory (λ actor. ((board_state b).lanes actor).candidates) (pages_left candidate_pass.known.seen))
    → (IsWholeHistory pending_pass.known → IsLaneHistory (λ actor. ((board_state b).lanes actor).pending) (pages_left pending_pass.known.seen))
    → IsLeftByRun s arena candidates pending results tally seat candidate_pass pending_pass
left_at_board s arena candidates pending old b results tally seat candidate_pass pending_pass machine opened run first back own only only' moves moves' =
    let over = over_same s arena candidates pending old b results tally opened run in
    let First : ArenaFace → Type 0 = λ a. IsFirstSeat a seat in
    let Back : ArenaFace → Type 0 = λ a. (actor : ℕ) → IsActor a.geometry actor → IsSplitOut (seat_of seat.seats actor) → ⊥ in
    let Own : ArenaFace → Type 0 = λ a. own_lists seat.seats ≡ map (λ actor. told_own ((board_state b).seats actor)) (range_with_len 0 (actor_count a.geometry)) in
    let Only : QueueState → Type 0 = λ q. IsOnlyPass q candidate_pass in
    let Only' : QueueState → Type 0 = λ q. IsOnlyPass q pending_pass in
    record {
      old = old;
      board = board_state b;
      new = new_empty (board_name arena candidates pending) arena.geometry candidates.capacity pending.capacity old opened;
      run = run;
      machine = machine;
      told = machine_kept s arena candidates pending old b results tally opened run machine;
      first = subst First over.arena_is first;
      back = subst Back over.arena_is back;
      own = subst Own over.arena_is own;
      candidate_only = subst Only over.candidates_are only;
      pending_only = subst Only' over.pending_are only';
      candidate_moves = moves;
      pending_moves = moves';
    }
