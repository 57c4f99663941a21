use Rattle.std.proofs.Common.{◌≡◌, ◌∙◌, ℕ, is_some, refl, sym, ap}
use Rattle.nm_actor.specs.Chairs.{ChairState}
use Rattle.nm_actor.specs.Boards.{BoardState}
use Rattle.nm_actor_rows.proofs.Seating.{none_sits}
use Rattle.nm_actor_rows.proofs.rows.boards.an_actor_sits_and_stands.Goals as goal

pub rest-requires-clause-of : goal.rest-requires-clause-of
rest-requires-clause-of g c = record {
  name = refl;
  geometry = refl;
  sits = rw c.sit-chair.ensures.chair.sitter (ap (λ (b : BoardState ℕ). b.seats 1) c.sit-chair.ensures.board);
  rested = ap is_some c.sit-chair.ensures.chair.others ∙ sym (ap (λ (b : BoardState ℕ). b.rested) c.sit-chair.ensures.board);
}

pub rest-requires-clause-before : goal.rest-requires-clause-before
rest-requires-clause-before g c = ap (λ (b : BoardState ℕ). b.rested) c.sit-chair.ensures.board

pub rest-requires-clause-last : goal.rest-requires-clause-last
rest-requires-clause-last g c = λ actor other sits.
    none_sits actor (λ same. other (same ∙ sym c.sit-chair.ensures.chair.sitter)) (sym (ap (λ (b : BoardState ℕ). b.seats actor) c.sit-chair.ensures.board) ∙ sits)

pub stand-requires : goal.stand-requires
stand-requires g c =
    let actor : c.rest.new.chair.actor ≡ 1 = ap (λ (x : ChairState ℕ). x.actor) c.rest.ensures.chair.is ∙ c.sit-chair.ensures.chair.sitter in
    record {
      name = refl;
      geometry = refl;
      sits = rw actor (ap (λ (b : BoardState ℕ). b.seats 1) c.rest.ensures.board ∙ ap (λ (b : BoardState ℕ). b.seats 1) c.sit-chair.ensures.board);
      rested = ap (λ (x : ChairState ℕ). is_some x.others) c.rest.ensures.chair.is ∙ sym (ap (λ (b : BoardState ℕ). b.rested) c.rest.ensures.board);
    }
