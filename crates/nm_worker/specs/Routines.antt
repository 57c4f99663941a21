-- What a routine promises of each task that it gives.
use Rattle.std.specs.Prelude.{◌≡◌, [], None}
use Rattle.nm_base.specs.Geometry.{Geometry}
use Rattle.nm_action.specs.declared.spent.Spent.{Spent}
use Rattle.nm_action.specs.declared.tally.Tally.{Tally}
use Rattle.nm_action.specs.Own.{Own}
use Rattle.nm_view.specs.Views.{View}
use Rattle.nm_part.specs.Parts.{HasBegin}
use Rattle.nm_part.specs.Patterns.{Follows, CanEnd}
use Rattle.nm_worker.specs.declared.routine.Task.{Task}
use Rattle.nm_worker.specs.declared.routine.Task.TheVariants.{Run, Put, Take, Stop}
use Rattle.nm_worker.specs.declared.routine.Ended.{Ended}
use Rattle.nm_worker.specs.declared.routine.Ended.TheVariants as ended
use Rattle.nm_worker.specs.Notes.{Notes, IsTask}

-- In all of these `now` is the view in which a task begins, `was` the pattern that was left before it, and `stop` what a whole
-- sequence shows where the routine stops.

-- a task with its piece of work seen by what that was made with
abbrev pub task_data : {P M : Type 0} → (P → M) → Task P → Task M
task_data made (Run piece) = Run (made piece)
task_data made (Put lane page) = Put lane page
task_data made (Take lane) = Take lane
task_data made Stop = Stop

-- a task runs: what is known holds, the sequence can be finished after each of its ends, and a list of the task with what is
-- left after it is a list of what was left before
pub record IsTaskRun {X O : Type 0} (knows : Type 0) (done : Notes → Ended X → Type 0) (left : Ended X → Notes → O → Type 0) (was : Notes → O → Type 0) : Type 0 where
  pub known : knows
  pub can : (notes : Notes) (end : Ended X) → done notes end → CanEnd (left end)
  pub fits : (notes : Notes) (outcome : O) → Follows done left notes outcome → was notes outcome

-- a piece of work runs: it has given no action, and may begin
pub record IsWorkRun {X O : Type 0} (new begin knows : Type 0) (done : Notes → Ended X → Type 0) (left : Ended X → Notes → O → Type 0) (was : Notes → O → Type 0) : Type 0 where
  pub is_new : new
  pub may_begin : begin
  pub run : IsTaskRun knows done left was

-- the sequence ends: nothing more was left, so it shows this, and what is known holds
pub record IsStop {O : Type 0} (knows : Type 0) (stop : O) (was : Notes → O → Type 0) : Type 0 where
  pub known : knows
  pub ended : was [] stop

-- this task comes next
abbrev pub IsNextTask : {P M X O : Type 0} → (P → M) → (P → Type 0) → (M → Geometry → View → Type 0) → (M → Geometry → Own → X → Type 0) → (X → Tally) → (View → Task M → Type 0) → (Ended X → Notes → O → Type 0) → O → (Notes → O → Type 0) → Geometry → View → Task P → Type 0
IsNextTask made is_new may_begin shape counts knows left stop was g now (Run piece) = IsWorkRun (is_new piece) (may_begin (made piece) g now) (knows now (Run (made piece))) (IsTask shape counts g (Run (made piece))) left was
IsNextTask made is_new may_begin shape counts knows left stop was g now (Put lane page) = IsTaskRun (knows now (Put lane page)) (IsTask shape counts g (Put lane page)) left was
IsNextTask made is_new may_begin shape counts knows left stop was g now (Take lane) = IsTaskRun (knows now (Take lane)) (IsTask shape counts g (Take lane)) left was
IsNextTask made is_new may_begin shape counts knows left stop was g now Stop = IsStop (knows now Stop) stop was

-- a piece of work is over: it has ended so, begun in the view `now` and left in the view `later`
pub record IsWorkOver {M X : Type 0} (shape : M → Geometry → Own → X → Type 0) (leaves : M → Geometry → View → X → View → Type 0) (ended : Geometry → Own → X → Type 0) (work : M) (g : Geometry) (now later : View) (end : X) : Type 0 where
  pub own : Own
  pub shown : shape work g own end
  pub left : leaves work g now end later
  pub over : ended g own end

-- a task is over, and ended so
abbrev pub IsTaskOver : {P M X : Type 0} → (P → M) → (M → Geometry → Own → X → Type 0) → (M → Geometry → View → X → View → Type 0) → (P → Geometry → Own → X → Type 0) → Geometry → View → View → Task P → Ended X → Type 0
IsTaskOver made shape leaves ends g now later (Run piece) (ended.Run end) = IsWorkOver shape leaves (ends piece) (made piece) g now later end
IsTaskOver made shape leaves ends g now later (Put lane page) (ended.Put full) = later ≡ now
IsTaskOver made shape leaves ends g now later (Take lane) (ended.Take page) = later ≡ now
IsTaskOver made shape leaves ends g now later task end = ⊥

-- what the actor has drawn: the bumps and the raises of its view
pub record IsDrawn (spent : Spent) (view : View) : Type 0 where
  pub bumps : spent.bumps ≡ view.bumps
  pub raises : spent.raises ≡ view.raises

-- a task of the routine has ended so, and the actor has drawn this
pub record HasTaskOver {P M X : Type 0} (made : P → M) (shape : M → Geometry → Own → X → Type 0) (leaves : M → Geometry → View → X → View → Type 0) (ends : P → Geometry → Own → X → Type 0) (knows : View → Task M → Type 0) (g : Geometry) (task : Task P) (end : Ended X) (spent : Spent) : Type 0 where
  pub now : View
  pub later : View
  pub known : knows now (task_data made task)
  pub over : IsTaskOver made shape leaves ends g now later task end
  pub drawn : IsDrawn spent later

-- the routine has stopped
pub record HasStopped {M : Type 0} (knows : View → Task M → Type 0) : Type 0 where
  pub view : View
  pub known : knows view Stop

-- a routine is begun again: what was left is the beginning of a whole sequence, and the first task comes next
pub record IsBegunAgain {O : Type 0} (first : Type 0) (was : Notes → O → Type 0) : Type 0 where
  pub can : CanEnd was
  pub next : first

-- a task can be begun: its piece of work has given no action, and there are a geometry and a view with which it may begin
pub record CanBegin (new : Type 0) (may : Geometry → View → Type 0) : Type 0 where
  pub is_new : new
  pub begin : HasBegin may

abbrev pub CanBeginTask : {P M : Type 0} → (P → M) → (P → Type 0) → (M → Geometry → View → Type 0) → Task P → Type 0
CanBeginTask made is_new may_begin (Run piece) = CanBegin (is_new piece) (may_begin (made piece))
CanBeginTask made is_new may_begin task = Unit {0}

-- a view as an actor that has ended leaves it: no operation is open, no frame is owned, and no turn is held
pub record IsLeftEmpty (view : View) : Type 0 where
  pub ops : view.ops ≡ []
  pub owned : view.owned ≡ []
  pub turn : view.turn ≡ None
