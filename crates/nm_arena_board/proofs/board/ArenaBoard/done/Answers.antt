use Rattle.nm_arena_board.proofs.Ending.{done_candidates, done_pending, done_own}
use Rattle.nm_arena_board.proofs.board.ArenaBoard.done.Goals as goal

pub returns-clause-own : goal.returns-clause-own
returns-clause-own g c = done_own c.args.self _ c.self.view_is c.self.invariant.seated

pub returns-clause-candidate_moves : goal.returns-clause-candidate_moves
returns-clause-candidate_moves g c = done_candidates c.args.self _ c.in-Some.main _ c.self.view_is c.in-Some.is c.main.view_is c.requires.rested c.self.invariant.passes

pub returns-clause-pending_moves : goal.returns-clause-pending_moves
returns-clause-pending_moves g c = done_pending c.args.self _ c.in-Some.main _ c.self.view_is c.in-Some.is c.main.view_is c.requires.rested c.self.invariant.passes
