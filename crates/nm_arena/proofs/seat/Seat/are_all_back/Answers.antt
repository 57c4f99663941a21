-- A seat is out exactly where its view is not there.
use Rattle.std.proofs.Common.{◌≡◌, map, ap, ◌∙◌}
use Rattle.nm_arena.specs.Mirrors.{view_in}
use Rattle.nm_arena.proofs.Faced.{first_face, first_mirrors, all_back, all_there}
use Rattle.nm_arena.proofs.seat.Seat.are_all_back.Goals as goal

pub returns : goal.returns
returns c =
    let k = c.self.inside.place.me.0 in
    let face = first_face c.self.inside.held c.in-First.views c.self.inside.place.table_id k c.args.self.now c.in-First.is c.self.view_is in
    let seats : k.seats ≡ c.args.self.now.seats = ap (λ s. s.seats) face in
    let mirrors = first_mirrors c.self.inside.held c.in-First.views k c.in-First.is c.self.invariant.1 in
    let are : c.deref.result.now ≡ map view_in c.args.self.now.seats = c.deref.ensures.value ∙ mirrors.views ∙ ap (map view_in) seats in (
      λ told_of. all_back c.args.self.now.seats c.deref.result.now are (c.are_there.ensures.0 told_of),
      λ back. c.are_there.ensures.1 (all_there c.args.self.now.seats c.deref.result.now are back),
    )
