-- An actor that has given End begins its routine again.
use Rattle.std.proofs.Common.{◌≡◌, ℕ, ◌++◌, Some, None, sym, subst}
use Rattle.nm_base.specs.Geometry.{Geometry}
use Rattle.nm_action.specs.declared.action.Action.{Action}
use Rattle.nm_action.specs.declared.spent.Spent.{Spent}
use Rattle.nm_action.specs.declared.tally.Tally.{Tally}
use Rattle.nm_action.specs.declared.turn.Turn.TheVariants as turn
use Rattle.nm_action.specs.Own.{Own}
use Rattle.nm_view.specs.Views.{View}
use Rattle.nm_actor.specs.Turns.{Turns, turns_view}
use Rattle.nm_tally.specs.declared.counter.Counter.{Counter}
use Rattle.nm_worker.specs.declared.routine.Task.{Task}
use Rattle.nm_worker.specs.declared.routine.Task.TheVariants.{Stop}
use Rattle.nm_worker.specs.declared.routine.Ended.{Ended}
use Rattle.nm_worker.specs.Notes.{Notes, noted_turns}
use Rattle.nm_worker.specs.Routines.{IsNextTask, HasStopped, IsBegunAgain}
use Rattle.nm_worker.specs.Workers.{FollowsRoutine, HasGivenEnd}
use Rattle.nm_worker.proofs.Ending.{at-end, known-at-end}

-- its routine has stopped
pub has-stopped : {P M X O : Type 0} (made : P → M) (is_new : P → Type 0) (may_begin : M → Geometry → View → Type 0) (shape : M → Geometry → Own → X → Type 0) (awaits : P → Geometry → View → Own → Action → Type 0) (counts : X → Tally) (knows : View → Task M → Type 0) (left : Ended X → Notes → O → Type 0) (stop : O) (whole : Notes → O → Type 0) (g : Geometry) (number : ℕ) (kept : Action) (task : Task P) (counter : Counter) (tally : Tally) (spent : Spent)
    → HasGivenEnd (FollowsRoutine made is_new may_begin shape awaits counts knows left stop whole g number kept task counter tally spent) → HasStopped knows
has-stopped made is_new may_begin shape awaits counts knows left stop whole g number kept task counter tally spent h = record {
  view = turns_view g number h.turns;
  known = known-at-end made is_new may_begin shape awaits counts knows left stop whole g number kept task counter tally spent h.turns h.agreed;
}

-- it agrees with the same turns, and is to hear Start
pub resumed-agrees : {P M X R Q O : Type 0} (made : P → M) (is_new : P → Type 0) (may_begin : M → Geometry → View → Type 0) (shape : M → Geometry → Own → X → Type 0) (awaits : P → Geometry → View → Own → Action → Type 0) (counts : X → Tally) (knows : R → View → Task M → Type 0) (left : R → Ended X → Notes → O → Type 0) (stop : R → O) (data_of : R → Q) (whole : Q → Notes → O → Type 0) (geometry : Q → Geometry) (number : Q → ℕ) (old new : R) (kept : Action) (task next : Task P) (counter : Counter) (tally : Tally) (spent : Spent)
    → geometry (data_of new) ≡ geometry (data_of old) → number (data_of new) ≡ number (data_of old)
    → ((notes : Notes) (view : View) → knows old view Stop → whole (data_of old) notes (stop old) → IsBegunAgain (IsNextTask made is_new may_begin shape counts (knows new) (left new) (stop new) (λ rest outcome. whole (data_of new) (notes ++ rest) outcome) (geometry (data_of old)) view next) (λ rest outcome. whole (data_of new) (notes ++ rest) outcome))
    → (turns : Turns) → FollowsRoutine made is_new may_begin shape awaits counts (knows old) (left old) (stop old) (whole (data_of old)) (geometry (data_of old)) (number (data_of old)) kept task counter tally spent turns (Some turn.End)
    → FollowsRoutine made is_new may_begin shape awaits counts (knows new) (left new) (stop new) (whole (data_of new)) (geometry (data_of new)) (number (data_of new)) kept next counter tally spent turns None
resumed-agrees made is_new may_begin shape awaits counts knows left stop data_of whole geometry number old new kept task next counter tally spent same alike again turns h =
    let g = geometry (data_of old) in
    let n = number (data_of old) in
    let begun = again h.notes (turns_view g n (noted_turns h.notes)) (at-end made is_new may_begin shape awaits counts (knows old) (left old) (stop old) (whole (data_of old)) g n kept h.notes task h.at) h.next in
    let N : ℕ → Type 0 = λ k. FollowsRoutine made is_new may_begin shape awaits counts (knows new) (left new) (stop new) (whole (data_of new)) g k kept next counter tally spent turns None in
    let G : Geometry → Type 0 = λ q. FollowsRoutine made is_new may_begin shape awaits counts (knows new) (left new) (stop new) (whole (data_of new)) q (number (data_of new)) kept next counter tally spent turns None in
    subst G (sym same) (subst N (sym alike) (record {
      notes = h.notes;
      is = h.is;
      next = begun.can;
      events = h.events;
      ends = h.ends;
      pages = h.pages;
      drawn = h.drawn;
      few = h.few;
      at = begun.next;
    }))
