-- What is known of an actor that has ended.
use Rattle.std.proofs.Common.{ℕ, Some, sym, subst}
use Rattle.nm_base.specs.Geometry.{Geometry}
use Rattle.nm_action.specs.declared.action.Action.{Action}
use Rattle.nm_action.specs.declared.spent.Spent.{Spent}
use Rattle.nm_action.specs.declared.tally.Tally.{Tally}
use Rattle.nm_action.specs.declared.turn.Turn.TheVariants as turn
use Rattle.nm_action.specs.Own.{Own}
use Rattle.nm_view.specs.Views.{View}
use Rattle.nm_actor.specs.Turns.{Turns, turns_view}
use Rattle.nm_tally.specs.declared.counter.Counter.{Counter}
use Rattle.nm_worker.specs.declared.routine.Task.{Task}
use Rattle.nm_worker.specs.declared.routine.Task.TheVariants.{Run, Put, Take, Stop}
use Rattle.nm_worker.specs.declared.routine.Ended.{Ended}
use Rattle.nm_worker.specs.Notes.{Notes, noted_turns}
use Rattle.nm_worker.specs.Workers.{AwaitsTurn, FollowsRoutine}

pub at-end : {P M X O : Type 0} (made : P → M) (is_new : P → Type 0) (may_begin : M → Geometry → View → Type 0) (shape : M → Geometry → Own → X → Type 0) (awaits : P → Geometry → View → Own → Action → Type 0) (counts : X → Tally) (knows : View → Task M → Type 0) (left : Ended X → Notes → O → Type 0) (stop : O) (whole : Notes → O → Type 0) (g : Geometry) (number : ℕ) (kept : Action) (notes : Notes) (task : Task P)
    → AwaitsTurn made is_new may_begin shape awaits counts knows left stop whole g number kept notes (Some turn.End) task → knows (turns_view g number (noted_turns notes)) Stop
at-end made is_new may_begin shape awaits counts knows left stop whole g number kept notes (Run piece) at = absurd at
at-end made is_new may_begin shape awaits counts knows left stop whole g number kept notes (Put lane page) at = absurd at
at-end made is_new may_begin shape awaits counts knows left stop whole g number kept notes (Take lane) at = absurd at
at-end made is_new may_begin shape awaits counts knows left stop whole g number kept notes Stop at = at

-- what the routine knows at Stop holds of the view of an actor that has given End
pub known-at-end : {P M X O : Type 0} (made : P → M) (is_new : P → Type 0) (may_begin : M → Geometry → View → Type 0) (shape : M → Geometry → Own → X → Type 0) (awaits : P → Geometry → View → Own → Action → Type 0) (counts : X → Tally) (knows : View → Task M → Type 0) (left : Ended X → Notes → O → Type 0) (stop : O) (whole : Notes → O → Type 0) (g : Geometry) (number : ℕ) (kept : Action) (task : Task P) (counter : Counter) (tally : Tally) (spent : Spent) (turns : Turns)
    → FollowsRoutine made is_new may_begin shape awaits counts knows left stop whole g number kept task counter tally spent turns (Some turn.End) → knows (turns_view g number turns) Stop
known-at-end made is_new may_begin shape awaits counts knows left stop whole g number kept task counter tally spent turns h =
    let K : Turns → Type 0 = λ l. knows (turns_view g number l) Stop in
    subst K (sym h.is) (at-end made is_new may_begin shape awaits counts knows left stop whole g number kept h.notes task h.at)
