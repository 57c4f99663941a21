-- The locked move as a task: a move, or none between two.
use Rattle.std.specs.Prelude.{◌≡◌, Option, Some, None}
use Rattle.nm_base.specs.Geometry.{Geometry}
use Rattle.nm_action.specs.declared.action.Action.{Action}
use Rattle.nm_action.specs.Own.{Own}
use Rattle.nm_view.specs.Views.{View}
use Rattle.nm_transfer.specs.Stages.{HoldsWords}
use Rattle.nm_locked_run.specs.declared.run.LockedRun.{LockedRun}
use Rattle.nm_locked_task.specs.declared.task.LockedTask.{LockedTask}
use Rattle.nm_locked_run.specs.Runs.{LockedMade}

-- what it was begun with, in which geometry
abbrev pub locked_task_made : LockedTask → LockedMade
locked_task_made t = (t.geometry.now, t.made)

-- it has no work: it was not begun yet, or its work is over
abbrev pub IsIdleMove : LockedTask → Type 0
IsIdleMove t = HoldsWords t.taken

-- In these, what the move inside tells of itself, as a part, is given: that it is new, what it was made with, what it awaits.

-- there is a move, which was made for this work, and of which this holds
pub record IsMoveFor (holds : Type 0) (made run : LockedMade) : Type 0 where
  pub held : holds
  pub for : run ≡ made

-- the move has given no action
abbrev pub IsNewMove : (LockedRun → Type 0) → (LockedRun → LockedMade) → LockedMade → Option LockedRun → Type 0
IsNewMove is_new made_by made None = ⊥
IsNewMove is_new made_by made (Some run) = IsMoveFor (is_new run) made (made_by run)

-- the move awaits the answer to an action
abbrev pub AwaitsMove : (LockedRun → Geometry → View → Own → Action → Type 0) → (LockedRun → LockedMade) → LockedMade → Option LockedRun → Geometry → View → Own → Action → Type 0
AwaitsMove awaits made_by made None g view own action = ⊥
AwaitsMove awaits made_by made (Some run) g view own action = IsMoveFor (awaits run g view own action) made (made_by run)
