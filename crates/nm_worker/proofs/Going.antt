-- The task after one that has ended.
use Rattle.std.proofs.Common.{◌≡◌, ℕ, [], ◌++◌, sym, subst}
use Rattle.nm_base.specs.Geometry.{Geometry}
use Rattle.nm_action.specs.declared.action.Action.{Action}
use Rattle.nm_action.specs.declared.spent.Spent.{Spent}
use Rattle.nm_action.specs.declared.tally.Tally.{Tally}
use Rattle.nm_action.specs.declared.turn.Turn.{Turn}
use Rattle.nm_action.specs.Own.{Own}
use Rattle.nm_view.specs.Views.{View}
use Rattle.nm_part.specs.Patterns.{IsLeft}
use Rattle.nm_actor.specs.Turns.{turns_view}
use Rattle.nm_worker.specs.declared.routine.Task.{Task}
use Rattle.nm_worker.specs.declared.routine.Task.TheVariants.{Run, Put, Take, Stop}
use Rattle.nm_worker.specs.declared.routine.Ended.{Ended}
use Rattle.nm_worker.specs.Notes.{Notes, noted_turns}
use Rattle.nm_worker.specs.Routines.{task_data, IsNextTask, IsTaskOver, IsDrawn}
use Rattle.nm_worker.specs.Workers.{IsTurnGiven}

-- what was left before a task is due after some notes, where it was left after them
next-due : {P M X O : Type 0} (made : P → M) (is_new : P → Type 0) (may_begin : M → Geometry → View → Type 0) (shape : M → Geometry → Own → X → Type 0) (counts : X → Tally) (knows : View → Task M → Type 0) (left : Ended X → Notes → O → Type 0) (stop : O) (was : Notes → O → Type 0) (whole : Notes → O → Type 0) (g : Geometry) (now : View) (notes : Notes) (task : Task P)
    → IsLeft whole notes was → IsNextTask made is_new may_begin shape counts knows left stop was g now task
    → IsNextTask made is_new may_begin shape counts knows left stop (λ rest outcome. whole (notes ++ rest) outcome) g now task
next-due made is_new may_begin shape counts knows left stop was whole g now notes (Run piece) due h = record {
  is_new = h.is_new;
  may_begin = h.may_begin;
  run = record { known = h.run.known; can = h.run.can; fits = λ rest outcome f. due.carry rest outcome (h.run.fits rest outcome f) };
}
next-due made is_new may_begin shape counts knows left stop was whole g now notes (Put lane page) due h = record { known = h.known; can = h.can; fits = λ rest outcome f. due.carry rest outcome (h.fits rest outcome f) }
next-due made is_new may_begin shape counts knows left stop was whole g now notes (Take lane) due h = record { known = h.known; can = h.can; fits = λ rest outcome f. due.carry rest outcome (h.fits rest outcome f) }
next-due made is_new may_begin shape counts knows left stop was whole g now notes Stop due h = record { known = h.known; ended = due.carry [] stop h.ended }

-- the first turn of the task that comes after one
pub go-on-given : {P M X R Q O : Type 0} (made : P → M) (is_new : P → Type 0) (may_begin : M → Geometry → View → Type 0) (shape : M → Geometry → Own → X → Type 0) (awaits : P → Geometry → View → Own → Action → Type 0) (leaves : M → Geometry → View → X → View → Type 0) (ends : P → Geometry → Own → X → Type 0) (counts : X → Tally) (knows : R → View → Task M → Type 0) (left : R → Ended X → Notes → O → Type 0) (stop : R → O) (data_of : R → Q) (whole : Q → Notes → O → Type 0) (geometry : Q → Geometry) (number : Q → ℕ) (old now new : R) (task next given : Task P) (kept : Action) (result : Turn) (end : Ended X) (spent : Spent)
    → data_of now ≡ data_of old → new ≡ now
    → ((begun later : View) → knows old begun (task_data made task) → IsTaskOver made shape leaves ends (geometry (data_of old)) begun later task end → IsDrawn spent later → IsNextTask made is_new may_begin shape counts (knows now) (left now) (stop now) (left old end) (geometry (data_of old)) later next)
    → ((notes : Notes) → IsNextTask made is_new may_begin shape counts (knows now) (left now) (stop now) (λ rest outcome. whole (data_of now) (notes ++ rest) outcome) (geometry (data_of now)) (turns_view (geometry (data_of now)) (number (data_of now)) (noted_turns notes)) next → IsTurnGiven made is_new may_begin shape awaits counts (knows now) (left now) (stop now) (whole (data_of now)) (geometry (data_of now)) (number (data_of now)) kept given result notes)
    → (notes : Notes) (begun : View) → knows old begun (task_data made task) → IsTaskOver made shape leaves ends (geometry (data_of old)) begun (turns_view (geometry (data_of old)) (number (data_of old)) (noted_turns notes)) task end → IsDrawn spent (turns_view (geometry (data_of old)) (number (data_of old)) (noted_turns notes))
    → IsLeft (whole (data_of old)) notes (left old end)
    → IsTurnGiven made is_new may_begin shape awaits counts (knows new) (left new) (stop new) (whole (data_of old)) (geometry (data_of old)) (number (data_of old)) kept given result notes
go-on-given {P} {M} {X} {R} {Q} made is_new may_begin shape awaits leaves ends counts knows left stop data_of whole geometry number old now new task next given kept result end spent same is goes gives notes begun known over drawn due =
    let F : Q → Type 0 = λ q. IsNextTask made is_new may_begin shape counts (knows now) (left now) (stop now) (λ rest outcome. whole q (notes ++ rest) outcome) (geometry q) (turns_view (geometry q) (number q) (noted_turns notes)) next → IsTurnGiven made is_new may_begin shape awaits counts (knows now) (left now) (stop now) (whole q) (geometry q) (number q) kept given result notes in
    let K : R → Type 0 = λ r. IsTurnGiven made is_new may_begin shape awaits counts (knows r) (left r) (stop r) (whole (data_of old)) (geometry (data_of old)) (number (data_of old)) kept given result notes in
    let later = turns_view (geometry (data_of old)) (number (data_of old)) (noted_turns notes) in
    let give = subst F same (gives notes) in
    subst K (sym is) (give (next-due made is_new may_begin shape counts (knows now) (left now) (stop now) (left old end) (whole (data_of old)) (geometry (data_of old)) later notes next due (goes begun later known over drawn)))
