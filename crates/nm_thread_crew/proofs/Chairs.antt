-- Chairs at which actors are driven.
use Rattle.std.proofs.Common.{◌≡◌, ℕ, List, [], ◌++◌, sym, ap, ◌∙◌, Option, Some, None}
use Rattle.nm_base.specs.Geometry.{Geometry}
use Rattle.nm_action.specs.Own.{Own}
use Rattle.nm_action.specs.declared.turn.Lane.TheVariants.{Candidates, Pending}
use Rattle.nm_action.specs.declared.turn.Turn.{Turn}
use Rattle.nm_action.specs.declared.turn.Turn.TheVariants.{End}
use Rattle.nm_actor.specs.Lanes.{LaneMove}
use Rattle.nm_actor.specs.Turns.{Turns, own_list, lane_list, turns_view}
use Rattle.nm_actor.specs.Chairs.{ChairState}
use Rattle.nm_actor.specs.Boards.{BoardState, IsOpeningChair}
use Rattle.nm_actor.proofs.TurnLists.{own-append, lane-append}
use Rattle.nm_threads.specs.Driven.{IsReady, IsDriven}
use Rattle.nm_threads.proofs.Turning.{same-view}
use Rattle.nm_threads.proofs.Kept.{made-keeps, made-own, made-moves}
use Rattle.nm_crew.specs.Crewed.{IsNewAt}
use Rattle.nm_thread_crew.specs.Boarded.{HasEndedAt}

-- a chair on which nothing was done, of an actor that has given no turn
pub opening-ready : {N M : Type 0} (geometry : M → Geometry) (number : M → ℕ) (made : M) (is_new : Type 0) (agrees : Turns → Option Turn → Type 0) (b : BoardState N) (n : ℕ) (c : ChairState N)
    → IsOpeningChair b n c → IsNewAt geometry number made is_new b.geometry n → (is_new → agrees [] None) → HasEndedAt b n agrees None c
opening-ready geometry number made is_new agrees b n c opening new opens = record {
  turns = [];
  agreed = opens new.new;
  own = opening.own;
  candidates = opening.candidates.moves;
  pending = opening.pending.moves;
  view = opening.view;
  machine = opening.geometry;
  sitter = opening.sitter;
  name = opening.board;
}

-- an actor is to hear Start at its chair
pub ready-at : {N M : Type 0} (geometry : M → Geometry) (number : M → ℕ) (made : M) (agrees : Turns → Option Turn → Type 0) (b : BoardState N) (n : ℕ) (c : ChairState N)
    → geometry made ≡ b.geometry → number made ≡ n → HasEndedAt b n agrees None c → IsReady (geometry made) (number made) agrees c
ready-at geometry number made agrees b n c machine same at = record {
  machine = at.machine ∙ sym machine;
  before = at.turns;
  agreed = at.agreed;
  view = at.view ∙ ap (λ g. turns_view g n at.turns) (sym machine) ∙ ap (λ k. turns_view (geometry made) k at.turns) (sym same);
}

-- it was driven to its end there
abbrev pub driven-at : {N M : Type 0} (geometry : M → Geometry) (number : M → ℕ) (made : M) (agrees agrees' : Turns → Option Turn → Type 0) (b : BoardState N) (n : ℕ) (old new : ChairState N)
    → geometry made ≡ b.geometry → number made ≡ n → HasEndedAt b n agrees None old → IsDriven (geometry made) (number made) agrees agrees' old new → HasEndedAt b n agrees' (Some End) new
driven-at {N} geometry number made agrees agrees' b n old new machine same at d =
    let kept = made-keeps old new d.turns d.made in
    let view : old.view ≡ turns_view (geometry made) (number made) at.turns = at.view ∙ ap (λ g. turns_view g n at.turns) (sym machine) ∙ ap (λ k. turns_view (geometry made) k at.turns) (sym same) in
    record {
      turns = at.turns ++ d.turns;
      agreed = (d.agreed at.turns at.agreed view).agreed;
      own = made-own old new d.turns d.made ∙ ap (λ (l : Own). l ++ own_list d.turns) at.own ∙ sym (own-append at.turns d.turns);
      candidates = made-moves Candidates old new d.turns d.made ∙ ap (λ (l : List LaneMove). l ++ lane_list Candidates d.turns) at.candidates ∙ sym (lane-append Candidates at.turns d.turns);
      pending = made-moves Pending old new d.turns d.made ∙ ap (λ (l : List LaneMove). l ++ lane_list Pending d.turns) at.pending ∙ sym (lane-append Pending at.turns d.turns);
      view = same-view (geometry made) (number made) old new at.turns d.turns (at.machine ∙ sym machine) d.made view
          ∙ ap (λ g. turns_view g (number made) (at.turns ++ d.turns)) machine ∙ ap (λ k. turns_view b.geometry k (at.turns ++ d.turns)) same;
      machine = kept.geometry ∙ at.machine;
      sitter = kept.actor ∙ at.sitter;
      name = kept.board ∙ at.name;
    }
