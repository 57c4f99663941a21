-- What the table had at its end, with the views that the first seat has, is the state after a run.
use Rattle.std.proofs.Common.{◌≡◌, ℕ, List, length, sym, ap, ◌∙◌, subst, arith}
use Rattle.std.proofs.lemmas.List.{length-map}
use Rattle.std.specs.Slots.{slots_items}
use Rattle.nm_view.specs.Views.{View}
use Rattle.nm_view.specs.Opening.{IsActor}
use Rattle.nm_core.specs.Kept.{IsKept}
use Rattle.nm_core.specs.EndWords.{IsEndOf}
use Rattle.nm_core.specs.State.{State, state_of, actor_count}
use Rattle.nm_rule.specs.Knows.{seat_of}
use Rattle.nm_arena.specs.Mirrors.{view_in}
use Rattle.nm_arena.specs.Seats.{IsSplitOut}
use Rattle.nm_arena.proofs.Faced.{first_face, first_here, first_mirrors}
use Rattle.nm_arena.proofs.Ending.{gathered, end_of}
use Rattle.nm_arena.proofs.arena.Arena.close.Goals as goal

pub all_views-views-requires-clause-there : goal.all_views-views-requires-clause-there
all_views-views-requires-clause-there c =
    let k = c.seat.inside.place.me.0 in
    let g = c.self.inside.geometry in
    let first = first_here g c.self.inside.board.shared.table_id c.seat.inside.place.table_id c.seat.inside.held c.in-First.views k c.args.self c.args.seat c.self.view_is c.in-First.is c.seat.view_is c.requires.first in
    let face = first_face c.seat.inside.held c.in-First.views c.seat.inside.place.table_id k c.args.seat c.in-First.is c.seat.view_is in
    let views = first_mirrors c.seat.inside.held c.in-First.views k c.in-First.is c.seat.invariant.1 in
    let back : (q : ℕ) → IsActor g q → ¬ IsSplitOut (seat_of k.seats q) = λ q there. subst (λ x. ¬ IsSplitOut (seat_of x.seats q)) (sym face) (c.requires.back q (subst (λ a. IsActor a.geometry q) c.self.view_is there)) in
    let done = gathered g c.self.inside.board.shared.key c.seat.inside.place.id k (slots_items c.close_with-closed.result.words) (slots_items c.close_with-closed.result.slots) c.read_back.new.words c.in-First.views.items c.self.invariant.keyed c.self.invariant.geometry c.close_with-closed.ensures.values.2 c.read_back.ensures.sizes c.read_back.ensures.words first.count views.views back in
    done.whole

pub all_views-views-requires-clause-empty : goal.all_views-views-requires-clause-empty
all_views-views-requires-clause-empty c = c.self.invariant.empty

pub all_views-views-requires-clause-room : goal.all_views-views-requires-clause-room
all_views-views-requires-clause-room c =
    let k = c.seat.inside.place.me.0 in
    let g = c.self.inside.geometry in
    let first = first_here g c.self.inside.board.shared.table_id c.seat.inside.place.table_id c.seat.inside.held c.in-First.views k c.args.self c.args.seat c.self.view_is c.in-First.is c.seat.view_is c.requires.first in
    let face = first_face c.seat.inside.held c.in-First.views c.seat.inside.place.table_id k c.args.seat c.in-First.is c.seat.view_is in
    let views = first_mirrors c.seat.inside.held c.in-First.views k c.in-First.is c.seat.invariant.1 in
    let size : length c.in-First.views.items ≡ actor_count g = ap length views.views ∙ length-map k.seats view_in ∙ first.count in
    omega (arith, size, c.self.invariant.room)

pub of_parts-state-requires : goal.of_parts-state-requires
of_parts-state-requires c =
    let k = c.seat.inside.place.me.0 in
    let g = c.self.inside.geometry in
    let first = first_here g c.self.inside.board.shared.table_id c.seat.inside.place.table_id c.seat.inside.held c.in-First.views k c.args.self c.args.seat c.self.view_is c.in-First.is c.seat.view_is c.requires.first in
    let face = first_face c.seat.inside.held c.in-First.views c.seat.inside.place.table_id k c.args.seat c.in-First.is c.seat.view_is in
    let views = first_mirrors c.seat.inside.held c.in-First.views k c.in-First.is c.seat.invariant.1 in
    let back : (q : ℕ) → IsActor g q → ¬ IsSplitOut (seat_of k.seats q) = λ q there. subst (λ x. ¬ IsSplitOut (seat_of x.seats q)) (sym face) (c.requires.back q (subst (λ a. IsActor a.geometry q) c.self.view_is there)) in
    let done = gathered g c.self.inside.board.shared.key c.seat.inside.place.id k (slots_items c.close_with-closed.result.words) (slots_items c.close_with-closed.result.slots) c.read_back.new.words c.in-First.views.items c.self.invariant.keyed c.self.invariant.geometry c.close_with-closed.ensures.values.2 c.read_back.ensures.sizes c.read_back.ensures.words first.count views.views back in
    subst (λ (vs : List View). IsKept (state_of g c.read_back.new.words vs)) (sym c.all_views-views.ensures) done.stands

pub returns : goal.returns
returns c =
    let k = c.seat.inside.place.me.0 in
    let g = c.self.inside.geometry in
    let first = first_here g c.self.inside.board.shared.table_id c.seat.inside.place.table_id c.seat.inside.held c.in-First.views k c.args.self c.args.seat c.self.view_is c.in-First.is c.seat.view_is c.requires.first in
    let face = first_face c.seat.inside.held c.in-First.views c.seat.inside.place.table_id k c.args.seat c.in-First.is c.seat.view_is in
    let views = first_mirrors c.seat.inside.held c.in-First.views k c.in-First.is c.seat.invariant.1 in
    let back : (q : ℕ) → IsActor g q → ¬ IsSplitOut (seat_of k.seats q) = λ q there. subst (λ x. ¬ IsSplitOut (seat_of x.seats q)) (sym face) (c.requires.back q (subst (λ a. IsActor a.geometry q) c.self.view_is there)) in
    let done = gathered g c.self.inside.board.shared.key c.seat.inside.place.id k (slots_items c.close_with-closed.result.words) (slots_items c.close_with-closed.result.slots) c.read_back.new.words c.in-First.views.items c.self.invariant.keyed c.self.invariant.geometry c.close_with-closed.ensures.values.2 c.read_back.ensures.sizes c.read_back.ensures.words first.count views.views back in
    let state = c.of_parts-state.ensures ∙ ap (state_of g c.read_back.new.words) c.all_views-views.ensures in
    let made = subst (λ (s : State). IsEndOf s c.end_words.new.into) state c.end_words.ensures in
    end_of g c.args.self.geometry k c.read_back.new.words c.in-First.views.items c.in-First.views c.seat.inside.place.table_id c.args.seat c.end_words.new.into done made (ap (λ a. a.geometry) c.self.view_is) face
