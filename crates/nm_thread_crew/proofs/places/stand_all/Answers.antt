use Rattle.std.proofs.Common.{◌≡◌, ◌<◌, ◌++◌, ◌∷◌, [], ℕ, ◌+◌, length, map, sym, ap, ◌∙◌, subst, append_assoc, Some, None, arith}
use Rattle.std.proofs.lemmas.List.{map-append}
use Rattle.std.specs.Vec.Iter.{into_iter_items}
use Rattle.nm_action.specs.declared.turn.Turn.TheVariants.{End}
use Rattle.nm_threads.specs.declared.desks.Desk.{Desk}
use Rattle.nm_crew.specs.Crewed.{AtEach}
use Rattle.nm_thread_crew.specs.Boarded.{HasEndedAt, HasStood}
use Rattle.nm_thread_crew.proofs.Seats.{each-push, length-one, item-next, item-below, chair-of, stood-new, stood-kept, kept-seat, kept-lanes, same-more}
use Rattle.nm_thread_crew.proofs.places.stand_all.Goals as goal

pub stand_up-actor-requires-after_bounds : goal.stand_up-actor-requires-after_bounds
stand_up-actor-requires-after_bounds g c κs within =
    let h = c.loop-desk.invariant in
    let b0 = g.B.Board.board c.args.board.now in
    let b = g.B.Board.board c.loop-desk.board in
    let state = g.B.Chair.Tells.state in
    let D : Type 0 = Desk g.row.B-Chair.Denot g.row.C.Denot in
    let desk : D = c.in-Some.desk in
    let n : ℕ = length c.loop-desk.yielded in
    let rest = into_iter_items c.next.new.self in
    let Q : ℕ → D → Type 0 = λ n d. HasEndedAt b0 n (g.C.Actor.agrees d.actor) (Some End) (state d.chair) × ((state d.chair).others ≡ None) in
    let left : c.loop-desk.yielded ++ desk ∷ rest ≡ c.args.desks.items = sym (ap (λ l. c.loop-desk.yielded ++ l) c.in-Some.ensures.steps.0) ∙ h.left in
    let at = item-next c.args.desks.items c.loop-desk.yielded rest desk Q left c.requires.ended in
    let lt = item-below c.args.desks.items c.loop-desk.yielded rest desk left in
    chair-of b0 b n (g.C.Actor.agrees desk.actor) (Some End) (state desk.chair) at.0 at.1 c.requires.before h.same ((h.above n (omega arith)).0 ∙ c.requires.sit n lt)

pub loop-desk-preserved : goal.loop-desk-preserved
loop-desk-preserved g c =
    let h = c.loop-desk.invariant in
    let b0 = g.B.Board.board c.args.board.now in
    let b = g.B.Board.board c.loop-desk.board in
    let b' = g.B.Board.board c.stand_up-actor.new.board in
    let state = g.B.Chair.Tells.state in
    let D : Type 0 = Desk g.row.B-Chair.Denot g.row.C.Denot in
    let A : D → g.row.C.Denot = λ d. d.actor in
    let desk : D = c.in-Some.desk in
    let chair = state desk.chair in
    let n : ℕ = length c.loop-desk.yielded in
    let rest = into_iter_items c.next.new.self in
    let Q : ℕ → D → Type 0 = λ n d. HasEndedAt b0 n (g.C.Actor.agrees d.actor) (Some End) (state d.chair) × ((state d.chair).others ≡ None) in
    let left : c.loop-desk.yielded ++ desk ∷ rest ≡ c.args.desks.items = sym (ap (λ l. c.loop-desk.yielded ++ l) c.in-Some.ensures.steps.0) ∙ h.left in
    let at = item-next c.args.desks.items c.loop-desk.yielded rest desk Q left c.requires.ended in
    let e = c.stand_up-actor.ensures.board in
    let cpus = c.loop-desk.cpus.items in
    let actor : g.row.C.Denot = c.stand_up-actor.result in
    let items = c.push_reserved.ensures.items in
    let S : ℕ → g.row.C.Denot → Type 0 = λ i a. HasStood b' i (g.C.Actor.agrees a) in
    let older : AtEach S cpus = λ place beyond lt. stood-kept b b' n place _ chair at.0.sitter (λ same. omega (arith, lt, same, h.many)) at.1 e (h.stood place beyond lt) in
    let newer : S n desk.actor = stood-new b0 b b' n (g.C.Actor.agrees desk.actor) chair at.0 at.1 e in
    let P : g.row.C.Denot → Type 0 = λ a. S (length cpus) a in
    let R : ℕ → Type 0 = λ i. S i desk.actor in
    record {
      same = same-more b0 b b' chair h.same e;
      above = λ i le.
          let lt : n < i = omega (arith, le, length-one c.loop-desk.yielded desk) in
          let was = h.above i (omega (arith, lt)) in
          (kept-seat b b' n i chair at.0.sitter (λ same. omega (arith, lt, same)) e ∙ was.0, kept-lanes b b' n i chair at.0.sitter (λ same. omega (arith, lt, same)) at.1 e ∙ was.1);
      stood = subst (AtEach S) (sym items) (each-push S cpus actor older (subst P (sym c.stand_up-actor.ensures.actor) (subst R (sym h.many) newer)));
      actors = items ∙ ap (λ l. l ++ actor ∷ []) h.actors ∙ ap (λ x. map A c.loop-desk.yielded ++ x ∷ []) c.stand_up-actor.ensures.actor ∙ sym (map-append A c.loop-desk.yielded (desk ∷ []));
      many = ap length items ∙ length-one cpus actor ∙ ap (λ k. k + 1) h.many ∙ sym (length-one c.loop-desk.yielded desk);
      room = c.push_reserved.ensures.capacity ∙ h.room;
      left = append_assoc c.loop-desk.yielded (desk ∷ []) rest ∙ left;
    }
