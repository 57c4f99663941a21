use Rattle.std.proofs.Common.{◌++◌, ◌∷◌, [], ℕ, List, ◌+◌, length, map, sym, ap, ◌∙◌, subst, append_assoc}
use Rattle.std.proofs.lemmas.List.{map-append}
use Rattle.std.specs.Vec.Iter.{into_iter_items}
use Rattle.nm_threads.specs.declared.desks.Desk.{Desk}
use Rattle.nm_actor.specs.Boards.{IsOpeningChair}
use Rattle.nm_crew.specs.Crewed.{AtEach}
use Rattle.nm_thread_crew.proofs.Seats.{sat-more, opening-of, each-push, length-one}
use Rattle.nm_thread_crew.proofs.places.sit_all.Goals as goal

pub loop-actor-preserved : goal.loop-actor-preserved
loop-actor-preserved g c =
    let h = c.loop-actor.invariant in
    let b0 = g.B.Board.board c.args.board.now in
    let state = g.B.Chair.Tells.state in
    let items = c.push_reserved.ensures.items in
    let D : Type 0 = Desk g.row.B-Chair.Denot g.row.C.Denot in
    let desk : D = c.sit_down-desk.result in
    let desks : List D = c.loop-actor.desks.items in
    let sat = sat-more c.loop-actor.number b0 (g.B.Board.board c.loop-actor.board) (g.B.Board.board c.sit_down-desk.new.board) h.sat c.sit_down-desk.ensures.board in
    let opening = opening-of 0 c.loop-actor.number c.loop-actor.number b0 (g.B.Board.board c.loop-actor.board) (state desk.chair) h.sat c.sit_down-desk.ensures.chair in
    let P : ℕ → Type 0 = λ n. IsOpeningChair b0 n (state desk.chair) in
    let Q : ℕ → D → Type 0 = λ n d. IsOpeningChair b0 n (state d.chair) in
    let A : D → g.row.C.Denot = λ d. d.actor in
    record {
      sat = sat;
      count = ap (λ n. n + 1) h.count ∙ sym (length-one c.loop-actor.yielded c.in-Some.actor);
      many = ap (λ n. n + 1) h.many ∙ sym (length-one desks desk) ∙ sym (ap length items);
      actors = ap (map A) items ∙ map-append A desks (desk ∷ []) ∙ ap (λ l. l ++ desk.actor ∷ []) h.actors ∙ ap (λ x. c.loop-actor.yielded ++ x ∷ []) c.sit_down-desk.ensures.actor;
      room = c.push_reserved.ensures.capacity ∙ h.room;
      chairs = subst (AtEach Q) (sym items) (each-push Q desks desk h.chairs (subst P h.many opening));
      left = append_assoc c.loop-actor.yielded (c.in-Some.actor ∷ []) (into_iter_items c.next.new.self) ∙ sym (ap (λ l. c.loop-actor.yielded ++ l) c.in-Some.ensures.steps.0) ∙ h.left;
    }
