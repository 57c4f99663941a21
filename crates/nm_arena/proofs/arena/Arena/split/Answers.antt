-- The seat of an actor is split off, with its opening view.
use Rattle.std.proofs.Common.{◌≡◌, ◌++◌, [], length, take, drop, get_or, set, None, Some, sym, ap, ◌∙◌, subst, refl, arith}
use Rattle.std.proofs.lemmas.List.{length-set}
use Rattle.nm_base.specs.Geometry.{IsGeometry}
use Rattle.nm_view.specs.Opening.{opening, IsActor}
use Rattle.nm_shape.specs.Shape.{HasShape}
use Rattle.nm_rule.specs.declared.known.ActorSeat.TheVariants.{Unsplit, Out}
use Rattle.nm_rule.specs.Knows.{seat_of, progress_by, without, unstarted}
use Rattle.nm_arena.specs.Mirrors.{own_by, AreViews}
use Rattle.nm_arena.proofs.Faced.{first_face, first_mirrors, unsplit_has, named_lt, view-handed, views-without, unsplit-out, shape_opening, seat_same, rebuilt}
use Rattle.nm_arena.proofs.arena.Arena.split.Goals as goal

pub invariant_of-seat : goal.invariant_of-seat
invariant_of-seat c =
    let k = c.seat.inside.place.me.0 in
    let views = first_mirrors c.seat.inside.held c.in-First.views k c.in-First.is c.seat.invariant.1 in
    let new : c.given-view.new.views ≡ set c.in-First.views.items c.args.actor None = c.given-view.ensures.rest ∙ ap (λ vs. set vs c.args.actor None) c.deref_mut.ensures.value in
    let size : length c.given-view.new.views ≡ length c.in-First.views.items = ap length new ∙ length-set c.in-First.views.items c.args.actor None in
    let list = rebuilt c.in-First.views.len c.given-view.new.views c.in-First.views.items size (omega (arith, c.in-First.views.ok)) ∙ new in
    let after = views-without k c.in-First.views.items c.args.actor views in
    let me = c.split_off-own.ensures.left in (
      ap (λ m. m.1) me ∙ c.seat.invariant.0,
      subst (λ m. AreViews (take c.in-First.views.len (c.given-view.new.views ++ drop (length c.given-view.new.views) c.in-First.views.items)) m.0) (sym me) (subst (λ vs. AreViews vs (without c.args.actor k)) (sym list) after),
    )

pub returns-clause-first : goal.returns-clause-first
returns-clause-first c =
    let k = c.seat.inside.place.me.0 in
    let s = c.args.seat.now in
    let face = first_face c.seat.inside.held c.in-First.views c.seat.inside.place.table_id k s c.in-First.is c.seat.view_is in
    let seats : c.split_off-own.new.place.me.0.seats ≡ set s.seats c.args.actor Out = ap (λ m. m.0.seats) c.split_off-own.ensures.left ∙ ap (λ x. set x.seats c.args.actor Out) face in
    record {
      table = c.split_off-own.ensures.table.0 ∙ ap (λ x. x.table) face ∙ c.requires.first.table;
      first = refl;
      count = ap length seats ∙ length-set s.seats c.args.actor Out ∙ c.requires.first.count;
      unsplit = λ q p told_of. unsplit-out c.args.self.now.geometry s.seats c.args.actor c.requires.first.unsplit q p (sym (ap (λ ks. seat_of ks q) seats) ∙ told_of);
    }

pub returns-clause-actor : goal.returns-clause-actor
returns-clause-actor c =
    let k = c.seat.inside.place.me.0 in
    let s = c.args.seat.now in
    let g = c.args.self.now.geometry in
    let face = first_face c.seat.inside.held c.in-First.views c.seat.inside.place.table_id k s c.in-First.is c.seat.view_is in
    let views = first_mirrors c.seat.inside.held c.in-First.views k c.in-First.is c.seat.invariant.1 in
    let has = unsplit_has (seat_of s.seats c.args.actor) c.requires.unsplit in
    let is : seat_of k.seats c.args.actor ≡ Unsplit has.0 = ap (λ x. seat_of x.seats c.args.actor) face ∙ has.1 in
    let found : get_or c.in-First.views.items c.args.actor None ≡ Some c.given-view.result = sym (ap (λ vs. get_or vs c.args.actor None) c.deref_mut.ensures.value) ∙ c.given-view.ensures.view in
    let opens : c.given-view.result ≡ opening g c.args.actor = view-handed k c.in-First.views.items c.args.actor c.given-view.result has.0 views.views is found ∙ ap (λ p. p.view) (c.requires.first.unsplit c.args.actor has.0 has.1) in
    let is_geometry : IsGeometry g = subst IsGeometry (ap (λ a. a.geometry) c.self.view_is) c.self.invariant.geometry in
    let there : IsActor g c.args.actor = omega (arith, named_lt s.seats c.args.actor c.requires.unsplit, c.requires.first.count) in
    record {
      table = c.split_off-own.ensures.table.1 ∙ ap (λ x. x.table) face ∙ c.requires.first.table;
      first = refl;
      shape = subst (HasShape g) (sym opens) (shape_opening g c.args.actor is_geometry there);
    }

pub returns-clause-opens : goal.returns-clause-opens
returns-clause-opens c =
    let k = c.seat.inside.place.me.0 in
    let s = c.args.seat.now in
    let g = c.args.self.now.geometry in
    let face = first_face c.seat.inside.held c.in-First.views c.seat.inside.place.table_id k s c.in-First.is c.seat.view_is in
    let views = first_mirrors c.seat.inside.held c.in-First.views k c.in-First.is c.seat.invariant.1 in
    let has = unsplit_has (seat_of s.seats c.args.actor) c.requires.unsplit in
    let is : seat_of k.seats c.args.actor ≡ Unsplit has.0 = ap (λ x. seat_of x.seats c.args.actor) face ∙ has.1 in
    let fresh : has.0 ≡ unstarted g c.args.actor = c.requires.first.unsplit c.args.actor has.0 has.1 in
    let found : get_or c.in-First.views.items c.args.actor None ≡ Some c.given-view.result = sym (ap (λ vs. get_or vs c.args.actor None) c.deref_mut.ensures.value) ∙ c.given-view.ensures.view in
    let opens : c.given-view.result ≡ opening g c.args.actor = view-handed k c.in-First.views.items c.args.actor c.given-view.result has.0 views.views is found ∙ ap (λ p. p.view) fresh in
    let right = c.split_off-own.ensures.right in
    seat_same c.split_off-own.result.table_id c.args.self.now.table c.given-view.result (opening g c.args.actor) (own_by c.split_off-own.result.me.0.mine) [] c.split_off-own.result.me.0.seen s.seen
    (c.split_off-own.ensures.table.1 ∙ ap (λ x. x.table) face ∙ c.requires.first.table)
    opens
    (ap (λ m. own_by m.0.mine) right ∙ ap (λ z. own_by (progress_by z)) is ∙ ap (λ p. p.own) fresh)
    (ap (λ m. m.0.seen) right ∙ ap (λ x. x.seen) face)
