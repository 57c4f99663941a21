-- An actor that follows a routine has such a part.
use Rattle.std.proofs.Common.{◌≡◌, ℕ, false, [], ◌∷◌, Option, Some, None, refl, ap, subst, ◌∙◌}
use Rattle.nm_base.specs.Geometry.{Geometry}
use Rattle.nm_action.specs.declared.action.Action.{Action}
use Rattle.nm_action.specs.declared.spent.Spent.{Spent}
use Rattle.nm_action.specs.declared.tally.Tally.{Tally}
use Rattle.nm_action.specs.declared.turn.Turn.{Turn}
use Rattle.nm_action.specs.declared.turn.Turn.TheVariants as turn
use Rattle.nm_action.specs.Own.{Own}
use Rattle.nm_action.specs.Tally.{sum_of}
use Rattle.nm_view.specs.Views.{View}
use Rattle.nm_part.specs.Patterns.{CanEnd}
use Rattle.nm_tally.specs.declared.counter.Counter.{Counter}
use Rattle.nm_tally.specs.Counts.{events_tally}
use Rattle.nm_actor.specs.Turns.{Turns, own_list, turns_view}
use Rattle.nm_worker.specs.declared.routine.Task.{Task}
use Rattle.nm_worker.specs.declared.routine.Task.TheVariants.{Stop}
use Rattle.nm_worker.specs.declared.routine.Ended.{Ended}
use Rattle.nm_worker.specs.Notes.{Notes, noted_turns}
use Rattle.nm_worker.specs.Routines.{IsLeftEmpty}
use Rattle.nm_worker.specs.Workers.{ComesNext, IsContinued, FollowsRoutine}
use Rattle.nm_worker.proofs.Ending.{known-at-end}
use Rattle.nm_actor.specs.Actors.{gave_end}
use Rattle.nm_routine_part.specs.Parts.{HasMore, IsCarriedOn, IsEmptyAtEnd, counts_of, IsRoutinePart}

-- a turn comes next: the notes before it are the beginning of a whole sequence
comes-more : {O : Type 0} (whole : Notes → O → Type 0) (notes : Notes) (given : Turn) → ComesNext whole notes given → HasMore whole notes
comes-more whole notes given h = record {
  next = record { turn = given; heard = h.heard; counts = h.counts };
  rest = h.rest;
  outcome = h.outcome;
  shown = h.shown;
}

carried-on : {O : Type 0} (stop : O) (whole : Notes → O → Type 0) (notes : Notes) (given : Turn) → IsContinued stop whole notes (Some given) → IsCarriedOn whole (gave_end (Some given)) notes
carried-on stop whole notes turn.End next = record { outcome = stop; shown = next }
carried-on stop whole notes (turn.Do action) next = comes-more whole notes (turn.Do action) next
carried-on stop whole notes (turn.Put lane page) next = comes-more whole notes (turn.Put lane page) next
carried-on stop whole notes (turn.Take lane) next = comes-more whole notes (turn.Take lane) next

-- what an actor counted is the tally of its notes
notes-counted : {P M X O : Type 0} (made : P → M) (is_new : P → Type 0) (may_begin : M → Geometry → View → Type 0) (shape : M → Geometry → Own → X → Type 0) (awaits : P → Geometry → View → Own → Action → Type 0) (counts : X → Tally) (knows : View → Task M → Type 0) (left : Ended X → Notes → O → Type 0) (stop : O) (whole : Notes → O → Type 0) (g : Geometry) (number : ℕ) (kept : Action) (task : Task P) (counter : Counter) (ends : Tally) (spent : Spent) (turns : Turns) (last : Option Turn)
    → (h : FollowsRoutine made is_new may_begin shape awaits counts knows left stop whole g number kept task counter ends spent turns last) → sum_of counter.tally ends ≡ counts_of h.notes
notes-counted made is_new may_begin shape awaits counts knows left stop whole g number kept task counter ends spent turns last h =
    ap (λ (t : Tally). sum_of t ends) (h.events.tally ∙ ap (λ (l : Turns). events_tally (own_list l)) h.is) ∙ ap (λ (t : Tally). sum_of (events_tally (own_list (noted_turns h.notes))) t) h.ends

-- the turns with which an actor that has given a turn agrees are such a part, and what it counted is their tally
pub part-of-routine : {P M X O : Type 0} (made : P → M) (is_new : P → Type 0) (may_begin : M → Geometry → View → Type 0) (shape : M → Geometry → Own → X → Type 0) (awaits : P → Geometry → View → Own → Action → Type 0) (counts : X → Tally) (knows : View → Task M → Type 0) (left : Ended X → Notes → O → Type 0) (stop : O) (whole : Notes → O → Type 0) (g : Geometry) (number : ℕ) (kept : Action) (task : Task P) (counter : Counter) (ends : Tally) (spent : Spent) (turns : Turns) (given : Turn)
    → FollowsRoutine made is_new may_begin shape awaits counts knows left stop whole g number kept task counter ends spent turns (Some given)
    → IsRoutinePart whole turns (gave_end (Some given)) (sum_of counter.tally ends)
part-of-routine made is_new may_begin shape awaits counts knows left stop whole g number kept task counter ends spent turns given h = record {
  notes = h.notes;
  is = h.is;
  carried = carried-on stop whole h.notes given h.next;
  counted = notes-counted made is_new may_begin shape awaits counts knows left stop whole g number kept task counter ends spent turns (Some given) h;
}

-- there is a whole sequence, and none is empty
pub first-more : {O : Type 0} (whole : Notes → O → Type 0) (some : Notes) (outcome : O) → whole some outcome → ((outcome : O) → ¬ whole [] outcome) → HasMore whole []
first-more whole [] outcome shown acts = absurd (acts outcome shown)
first-more whole (n ∷ rest) outcome shown acts = record { next = n; rest = rest; outcome = outcome; shown = shown }

no-notes : (notes : Notes) → [] ≡ noted_turns notes → notes ≡ []
no-notes [] is = refl
no-notes (n ∷ notes) is = cc

-- so are the turns of an actor that has given none
pub part-at-first : {P M X O : Type 0} (made : P → M) (is_new : P → Type 0) (may_begin : M → Geometry → View → Type 0) (shape : M → Geometry → Own → X → Type 0) (awaits : P → Geometry → View → Own → Action → Type 0) (counts : X → Tally) (knows : View → Task M → Type 0) (left : Ended X → Notes → O → Type 0) (stop : O) (whole : Notes → O → Type 0) (g : Geometry) (number : ℕ) (kept : Action) (task : Task P) (counter : Counter) (ends : Tally) (spent : Spent)
    → CanEnd whole → ((outcome : O) → ¬ whole [] outcome)
    → FollowsRoutine made is_new may_begin shape awaits counts knows left stop whole g number kept task counter ends spent [] None
    → IsRoutinePart whole [] false (sum_of counter.tally ends)
part-at-first made is_new may_begin shape awaits counts knows left stop whole g number kept task counter ends spent some acts h =
    let C : Notes → Type 0 = λ l. sum_of counter.tally ends ≡ counts_of l in
    record {
      notes = [];
      is = refl;
      carried = first-more whole some.rest some.outcome some.shown acts;
      counted = subst C (no-notes h.notes h.is) (notes-counted made is_new may_begin shape awaits counts knows left stop whole g number kept task counter ends spent [] None h);
    }

-- the routine knows at Stop that the view is left empty: so it is where the actor has ended
pub empty-at-end : {P M X O : Type 0} (made : P → M) (is_new : P → Type 0) (may_begin : M → Geometry → View → Type 0) (shape : M → Geometry → Own → X → Type 0) (awaits : P → Geometry → View → Own → Action → Type 0) (counts : X → Tally) (knows : View → Task M → Type 0) (left : Ended X → Notes → O → Type 0) (stop : O) (whole : Notes → O → Type 0) (g : Geometry) (number : ℕ) (kept : Action) (task : Task P) (counter : Counter) (ends : Tally) (spent : Spent) (turns : Turns) (last : Option Turn)
    → ((view : View) → knows view Stop → IsLeftEmpty view)
    → FollowsRoutine made is_new may_begin shape awaits counts knows left stop whole g number kept task counter ends spent turns last
    → IsEmptyAtEnd (gave_end last) (turns_view g number turns)
empty-at-end made is_new may_begin shape awaits counts knows left stop whole g number kept task counter ends spent turns None empty h = tt
empty-at-end made is_new may_begin shape awaits counts knows left stop whole g number kept task counter ends spent turns (Some (turn.Do action)) empty h = tt
empty-at-end made is_new may_begin shape awaits counts knows left stop whole g number kept task counter ends spent turns (Some (turn.Put lane page)) empty h = tt
empty-at-end made is_new may_begin shape awaits counts knows left stop whole g number kept task counter ends spent turns (Some (turn.Take lane)) empty h = tt
empty-at-end made is_new may_begin shape awaits counts knows left stop whole g number kept task counter ends spent turns (Some turn.End) empty h =
    empty (turns_view g number turns) (known-at-end made is_new may_begin shape awaits counts knows left stop whole g number kept task counter ends spent turns h)
