-- The words, the layout and the first seat of a machine in which nothing was done.
use Rattle.std.proofs.Common.{◌≡◌, ◌≤◌, [], length, sym, ap, ◌∙◌, subst}
use Rattle.std.specs.Vec.{vec_capacity}
use Rattle.atomic_table.specs.Table as table
use Rattle.nm_base.specs.Geometry.{IsGeometry}
use Rattle.nm_words.specs.Words.{HasSizes, opening_words}
use Rattle.nm_words.specs.Flat.{flat, total_words}
use Rattle.nm_core.specs.State.{actor_count}
use Rattle.nm_rule.specs.Knows.{first_knowledge}
use Rattle.nm_rule.specs.Shows.{Shows}
use Rattle.nm_rule.proofs.Shared.{begins}
use Rattle.nm_arena.specs.Layouts.{IsLayoutOf}
use Rattle.nm_arena.specs.Mirrors.{AreViews}
use Rattle.nm_arena.proofs.Faced.{first_views, first_of}
use Rattle.nm_arena.proofs.Flats.{length-flat}
use Rattle.nm_arena.proofs.arena.Arena.start.Goals as goal

pub of_words-requires : goal.of_words-requires
of_words-requires c =
    let g = c.args.g.now in
    let is : IsGeometry g = subst IsGeometry c.in_ok-geometry.ensures.same c.in_ok-geometry.ensures.sound in
    let list : c.deref.result.now ≡ flat (opening_words g) = c.deref.ensures.value ∙ c.in_ok-list.ensures ∙ ap flat c.in_ok-words.ensures.words in
    subst (λ ws. Shows g (table.opening {S = Unit {0}} ws [] (first_knowledge g))) (sym list) (begins g is)

pub invariant_of-arena : goal.invariant_of-arena
invariant_of-arena c =
    let g = c.args.g.now in
    let w = c.in_ok-words.words in
    let same = c.in_ok-geometry.ensures.same in
    let made = c.in_ok-board.ensures in
    let size : length c.deref.result.now ≡ total_words g = ap length (c.deref.ensures.value ∙ c.in_ok-list.ensures) ∙ length-flat g w c.in_ok-words.ensures.sizes in
    record {
      geometry = c.in_ok-geometry.ensures.sound;
      keyed = made.5 ∙ sym same;
      slots = made.1;
      count = made.0 ∙ size ∙ ap total_words (sym same);
      laid = subst (λ m. IsLayoutOf m c.of-layout.result) (sym same) c.of-layout.ensures;
      sizes = subst (λ m. HasSizes m w) (sym same) c.in_ok-words.ensures.sizes;
      empty = c.in_ok-room.ensures.empty;
      room = subst (λ m. actor_count m ≤ vec_capacity c.in_ok-room.room) (sym same) c.in_ok-room.ensures.room;
    }

pub invariant_of-result : goal.invariant_of-result
invariant_of-result c =
    let me = c.in_ok-board.ensures.4 in (
      ap (λ m. m.1) me,
      subst (λ m. AreViews c.in_ok-opening_views.field-0.items m.0) (sym me) (first_views c.args.g.now c.in_ok-opening_views.field-0.items c.in_ok-opening_views.ensures),
    )

pub returns-clause-first : goal.returns-clause-first
returns-clause-first c =
    let made = c.in_ok-board.ensures in
    first_of c.in_ok-geometry.geometry c.args.g.now c.in_ok-board.board.shared.table_id c.in_ok-board.place.table_id c.in_ok-board.place.me.0.seats c.in_ok-board.place.me.0.seen c.in_ok-geometry.ensures.same made.2 (ap (λ m. m.0.seats) made.4)
