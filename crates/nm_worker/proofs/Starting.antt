-- An actor that does not end at once.
use Rattle.std.proofs.Common.{◌≡◌, ℕ, [], ◌∷◌, Some, refl, subst}
use Rattle.nm_base.specs.Geometry.{Geometry}
use Rattle.nm_action.specs.declared.action.Action.{Action}
use Rattle.nm_action.specs.declared.spent.Spent.{Spent}
use Rattle.nm_action.specs.declared.tally.Tally.{Tally}
use Rattle.nm_action.specs.declared.turn.Turn.TheVariants as turn
use Rattle.nm_action.specs.Own.{Own}
use Rattle.nm_view.specs.Views.{View}
use Rattle.nm_tally.specs.declared.counter.Counter.{Counter}
use Rattle.nm_worker.specs.declared.routine.Task.{Task}
use Rattle.nm_worker.specs.declared.routine.Ended.{Ended}
use Rattle.nm_worker.specs.Notes.{Notes, noted_turns}
use Rattle.nm_worker.specs.Workers.{FollowsRoutine}

none-noted : (notes : Notes) → [] ≡ noted_turns notes → notes ≡ []
none-noted [] is = refl
none-noted (n ∷ notes) is = cc

-- where no sequence of the routine is empty, the actor has not ended before its first turn
pub acts-first : {P M X O : Type 0} (made : P → M) (is_new : P → Type 0) (may_begin : M → Geometry → View → Type 0) (shape : M → Geometry → Own → X → Type 0) (awaits : P → Geometry → View → Own → Action → Type 0) (counts : X → Tally) (knows : View → Task M → Type 0) (left : Ended X → Notes → O → Type 0) (stop : O) (whole : Notes → O → Type 0) (g : Geometry) (number : ℕ) (kept : Action) (task : Task P) (counter : Counter) (tally : Tally) (spent : Spent)
    → ((outcome : O) → ¬ whole [] outcome) → ¬ FollowsRoutine made is_new may_begin shape awaits counts knows left stop whole g number kept task counter tally spent [] (Some turn.End)
acts-first made is_new may_begin shape awaits counts knows left stop whole g number kept task counter tally spent acts h =
    let W : Notes → Type 0 = λ l. whole l stop in
    acts stop (subst W (none-noted h.notes h.is) h.next)
