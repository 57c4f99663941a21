use Rattle.std.proofs.Common.{ap, sym, ◌∙◌, Vec, ℕ, Global}
use Rattle.std.specs.Option.{option_map}
use Rattle.std.specs.Vec.{vec_capacity}
use Rattle.nm_arena_board.specs.BoardFaces.{MainFace}
use Rattle.nm_arena_board.proofs.Returning.{taking_back, room_then, kept_then, told_then, told_last}
use Rattle.nm_arena_board.proofs.board.ArenaBoard.stand_place.Goals as goal

pub take_in-requires-clause-room : goal.take_in-requires-clause-room
take_in-requires-clause-room g c =
    room_then _ c.args.place c.in-Some-main.main
    (taking_back c.args.self.now _ c.args.place c.in-Some-main.main c.self.view_is c.in-Some-main.is (sym c.into_parts-seat.ensures.others ∙ ap (option_map (λ (v : Vec ℕ Global). v.items)) c.in_default.is)
    c.requires c.into_parts-seat.ensures.kept c.self.invariant.passes)

pub invariant_of-self : goal.invariant_of-self
invariant_of-self g c =
    kept_then _ c.args.place c.in-Some-main.main c.take_in.new.self c.number-actor.result c.join.new.seat c.into_parts-seat.result.0 c.into_parts-seat.result.1 c.into_parts-seat.result.2
    (taking_back c.args.self.now _ c.args.place c.in-Some-main.main c.self.view_is c.in-Some-main.is (sym c.into_parts-seat.ensures.others ∙ ap (option_map (λ (v : Vec ℕ Global). v.items)) c.in_default.is)
    c.requires c.into_parts-seat.ensures.kept c.self.invariant.passes)
    (record { actor_is = c.number-actor.ensures; seat_is = c.into_parts-seat.ensures.seat; candidates = c.into_parts-seat.ensures.candidates; pending = c.into_parts-seat.ensures.pending })
    c.join.ensures.first c.join.ensures.joined c.take_in.ensures

pub returns-in_default : goal.returns-in_default
returns-in_default g c =
    told_then c.args.self.now _ c.args.place c.in-Some-main.main c.take_in.new.self c.number-actor.result c.join.new.seat c.into_parts-seat.result.0 c.into_parts-seat.result.1 c.into_parts-seat.result.2 c.self.view_is
    (taking_back c.args.self.now _ c.args.place c.in-Some-main.main c.self.view_is c.in-Some-main.is (sym c.into_parts-seat.ensures.others ∙ ap (option_map (λ (v : Vec ℕ Global). v.items)) c.in_default.is)
    c.requires c.into_parts-seat.ensures.kept c.self.invariant.passes)
    (record { actor_is = c.number-actor.ensures; seat_is = c.into_parts-seat.ensures.seat; candidates = c.into_parts-seat.ensures.candidates; pending = c.into_parts-seat.ensures.pending })
    c.join.ensures.joined c.take_in.ensures

pub returns : goal.returns
returns g c =
    let m : MainFace = record { candidates = c.into_parts-seat.result.1; pending = c.into_parts-seat.result.2; order = c.in-Some.order.items; room = vec_capacity c.in-Some.order } in
    told_last c.args.self.now _ c.args.place m c.number-actor.result c.join.new.seat c.into_parts-seat.result.0 c.self.view_is
    (record { actor_is = c.number-actor.ensures; seat_is = c.into_parts-seat.ensures.seat; candidates = c.into_parts-seat.ensures.candidates; pending = c.into_parts-seat.ensures.pending })
    (sym c.into_parts-seat.ensures.others ∙ ap (option_map (λ (v : Vec ℕ Global). v.items)) c.in-Some.is)
    c.requires c.join.ensures.joined
