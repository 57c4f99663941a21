-- The seat of an actor is joined back, with its view.
use Rattle.std.proofs.Common.{◌≡◌, ◌++◌, take, drop, length, set, Some, sym, ap, ◌∙◌, subst, arith}
use Rattle.std.proofs.lemmas.List.{length-set}
use Rattle.nm_rule.specs.declared.known.Progress.{Progress}
use Rattle.nm_rule.specs.Knows.{with_back}
use Rattle.nm_rule.proofs.Shared.{takes_back}
use Rattle.nm_arena.specs.Mirrors.{own_by, AreViews}
use Rattle.nm_arena.proofs.Faced.{first_here, first_mirrors, actor_face, actor_mirrors, views-with, rebuilt}
use Rattle.nm_arena.proofs.arena.Arena.join.Goals as goal

pub join_seat-requires : goal.join_seat-requires
join_seat-requires c =
    let k = c.seat.inside.place.me.0 in
    let theirs = c.other.inside.place.me.0 in
    let first = first_here c.self.inside.geometry c.self.inside.board.shared.table_id c.seat.inside.place.table_id c.seat.inside.held c.in-First.views k c.args.self.now c.args.seat.now c.self.view_is c.in-First.is c.seat.view_is c.requires.first in
    let face = actor_face c.other.inside.held c.in-Actor.view c.other.inside.place.table_id theirs c.args.other c.in-Actor.is c.other.view_is in
    let own = actor_mirrors c.other.inside.held c.in-Actor.view theirs c.in-Actor.is c.other.invariant.1 in
    let views = first_mirrors c.seat.inside.held c.in-First.views k c.in-First.is c.seat.invariant.1 in
    let p : Progress = record { view = c.in-Actor.view; own = own_by theirs.mine } in
    let tables : c.other.inside.place.table_id ≡ c.self.inside.board.shared.table_id = ap (λ s. s.table) face ∙ c.requires.other.table ∙ sym (ap (λ a. a.table) c.self.view_is) in (
      first.table_is,
      tables,
      c.other.invariant.0,
      omega (arith, c.self.invariant.count),
      takes_back c.self.inside.board.shared.key c.seat.inside.place.id k c.other.inside.place.id theirs p views.mine own.mine,
    )

pub invariant_of-seat : goal.invariant_of-seat
invariant_of-seat c =
    let k = c.seat.inside.place.me.0 in
    let theirs = c.other.inside.place.me.0 in
    let v = c.in-Actor.view in
    let own = actor_mirrors c.other.inside.held v theirs c.in-Actor.is c.other.invariant.1 in
    let views = first_mirrors c.seat.inside.held c.in-First.views k c.in-First.is c.seat.invariant.1 in
    let new : c.take_back.new.views ≡ set c.in-First.views.items v.number (Some v) = c.take_back.ensures ∙ ap (λ vs. set vs v.number (Some v)) c.deref_mut.ensures.value in
    let size : length c.take_back.new.views ≡ length c.in-First.views.items = ap length new ∙ length-set c.in-First.views.items v.number (Some v) in
    let list = rebuilt c.in-First.views.len c.take_back.new.views c.in-First.views.items size (omega (arith, c.in-First.views.ok)) ∙ new in
    let after = views-with k theirs c.in-First.views.items v views own in
    let me = c.join_seat.ensures.2 in (
      ap (λ m. m.1) me ∙ c.seat.invariant.0,
      subst (λ m. AreViews (take c.in-First.views.len (c.take_back.new.views ++ drop (length c.take_back.new.views) c.in-First.views.items)) m.0) (sym me) (subst (λ vs. AreViews vs (with_back k theirs)) (sym list) after),
    )
