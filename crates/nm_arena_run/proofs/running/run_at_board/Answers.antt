-- The board is new, and all have stood at the end.
use Rattle.std.proofs.Common.{subst}
use Rattle.nm_base.specs.Geometry.{Geometry}
use Rattle.nm_view.specs.Opening.{IsActor}
use Rattle.nm_arena_run.proofs.Boarding.{new_is_new, none_sits, machine_kept, left_at_board}
use Rattle.nm_arena_run.proofs.running.run_at_board.Goals as goal

pub run_board-requires-clause-new : goal.run_board-requires-clause-new
run_board-requires-clause-new g c κs within = new_is_new _ _ _ _ _ c.in_ok-board.ensures

pub done-seat-requires-clause-stood : goal.done-seat-requires-clause-stood
done-seat-requires-clause-stood g c = λ actor there.
    none_sits c.args.script.now _ _ _ _ c.in_ok-run.ensures.run actor
    (subst (λ (k : Geometry). IsActor k actor) (machine_kept c.args.script.now _ _ _ _ c.run_board.new.board _ _ c.in_ok-board.ensures c.in_ok-run.ensures.run c.requires.opened.machine) there)

pub returns : goal.returns
returns g c =
    left_at_board c.args.script.now _ _ _ _ c.run_board.new.board _ _ _ _ _ c.requires.opened.machine c.in_ok-board.ensures c.in_ok-run.ensures.run
    c.done-seat.ensures.first c.done-seat.ensures.back c.done-seat.ensures.own c.done-seat.ensures.candidates c.done-seat.ensures.pending c.done-seat.ensures.candidate_moves c.done-seat.ensures.pending_moves
