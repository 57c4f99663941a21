use Rattle.std.proofs.Common.{◌<◌, length, ap, arith}
use Rattle.nm_arena_board.specs.BoardFaces.{BoardFace}
use Rattle.nm_arena_board.proofs.Sitting.{sat_board, sat_kept}
use Rattle.nm_arena_board.proofs.board.ArenaBoard.seat_actor.Goals as goal

pub invariant_of-self : goal.invariant_of-self
invariant_of-self g c =
    let m = ap (λ (f : BoardFace). f.arena.geometry.cpus) c.self.view_is in
    let lt : c.args.actor < length c.self.inside.seat.seats = omega (arith, c.requires.exists, c.self.invariant.seated.count, m) in
    sat_kept c.args.self.now _ c.args.actor c.split-seat.new.seat _ c.in-Some.main c.pass-candidate_pass.new.first c.pass-pending_pass.new.first c.self.view_is c.in-Some.is c.main.view_is lt
    c.split-seat.ensures.rest c.pass-candidate_pass.ensures.first c.pass-pending_pass.ensures.first c.requires.before c.requires.once c.split-seat.ensures.first c.self.invariant.passes

pub returns-clause-board : goal.returns-clause-board
returns-clause-board g c =
    let m = ap (λ (f : BoardFace). f.arena.geometry.cpus) c.self.view_is in
    let lt : c.args.actor < length c.self.inside.seat.seats = omega (arith, c.requires.exists, c.self.invariant.seated.count, m) in
    sat_board c.args.self.now _ c.args.actor c.split-seat.new.seat _ c.in-Some.main c.pass-candidate_pass.new.first c.pass-pending_pass.new.first c.self.view_is c.in-Some.is c.main.view_is lt
    c.split-seat.ensures.rest c.pass-candidate_pass.ensures.first c.pass-pending_pass.ensures.first
