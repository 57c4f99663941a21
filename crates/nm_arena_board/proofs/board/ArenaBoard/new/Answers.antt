use Rattle.std.proofs.Common.{◌+◌, refl, ap, ◌∙◌, Some, None, arith}
use Rattle.std.specs.Vec.{vec_capacity}
use Rattle.nm_base.specs.Geometry.{Geometry}
use Rattle.nm_arena_board.specs.BoardFaces.{BoardFace, MainFace}
use Rattle.nm_arena_board.proofs.Beginning.{new_kept, new_told}
use Rattle.nm_arena_board.proofs.board.ArenaBoard.new.Goals as goal

pub invariant_of-result : goal.invariant_of-result
invariant_of-result g c = new_kept c.args.arena.now c.args.seat c.args.candidates.now c.args.pending.now _ c.requires.first c.requires.unsplit c.requires.candidates c.requires.pending c.in_ok-order.ensures.items
    (let e = c.in_ok-order.ensures.exact in let n = ap (λ (m : Geometry). m.cpus + 2) (c.geometry.view_is ∙ c.requires.machine) in omega (arith, e, n))

pub returns : goal.returns
returns g c =
    let m : MainFace = record { candidates = c.args.candidate_pass; pending = c.args.pending_pass; order = c.in_ok-order.order.items; room = vec_capacity c.in_ok-order.order } in
    let b : BoardFace = record { arena = c.args.arena.now; seat = c.args.seat; candidates = c.args.candidates.now; pending = c.args.pending.now; main = Some m; last = None } in
    new_told b m refl refl c.in_ok-order.ensures.items c.requires.unsplit
