-- The demotion as a task: a demotion, or none between two; and the count of the shadows that it reclaimed.
use Rattle.std.specs.Prelude.{◌≡◌, Option, Some, None, []}
use Rattle.nm_base.specs.Geometry.{Geometry}
use Rattle.nm_action.specs.declared.action.Action.{Action}
use Rattle.nm_action.specs.Own.{Own}
use Rattle.nm_view.specs.Views.{View}
use Rattle.nm_obtain.specs.FreedCounts.{HasCounted}
use Rattle.nm_transfer.specs.Stages.{HoldsWords}
use Rattle.nm_demote_run.specs.declared.run.DemoteRun.{DemoteRun}
use Rattle.nm_demote_run.specs.Runs.{DemoteData}
use Rattle.nm_demote_task.specs.declared.task.DemoteTask.{DemoteTask}

-- what it was begun with, in which geometry
abbrev pub demote_task_made : DemoteTask → DemoteData
demote_task_made t = (t.geometry.now, t.made)

-- it has no work: it was not begun yet, or its work is over
abbrev pub IsDemoteIdle : DemoteTask → Type 0
IsDemoteIdle t = HoldsWords t.taken

-- In these, what the demotion inside tells of itself, as a part, is given: that it is new, what it was made with, what it
-- awaits.

-- there is a demotion, which was made for this work, and of which this holds
pub record IsDemotionFor (holds : Type 0) (made run : DemoteData) : Type 0 where
  pub held : holds
  pub for : run ≡ made

-- it has given no action
abbrev pub HasNewDemotion : (DemoteRun → Type 0) → (DemoteRun → DemoteData) → DemoteData → Option DemoteRun → Type 0
HasNewDemotion is_new made_by made None = ⊥
HasNewDemotion is_new made_by made (Some run) = IsDemotionFor (is_new run) made (made_by run)

-- it awaits the answer to an action
abbrev pub AwaitsDemoteRun : (DemoteRun → Geometry → View → Own → Action → Type 0) → (DemoteRun → DemoteData) → DemoteData → Option DemoteRun → Geometry → View → Own → Action → Type 0
AwaitsDemoteRun awaits made_by made None g view own action = ⊥
AwaitsDemoteRun awaits made_by made (Some run) g view own action = IsDemotionFor (awaits run g view own action) made (made_by run)

-- the shadows that were reclaimed are counted, after this own list
pub record CountsFreed (t : DemoteTask) (own : Own) : Type 0 where
  pub page : t.freed.page ≡ t.made.page
  pub counted : HasCounted t.freed own

-- the demotion has given no action
pub record IsNewDemotion (is_new : DemoteRun → Type 0) (made_by : DemoteRun → DemoteData) (t : DemoteTask) : Type 0 where
  pub run : HasNewDemotion is_new made_by (demote_task_made t) t.run
  pub counts : CountsFreed t []

-- the demotion awaits the answer to an action, which the task gave last
pub record IsDemotionAwaited (awaits : DemoteRun → Geometry → View → Own → Action → Type 0) (made_by : DemoteRun → DemoteData) (t : DemoteTask) (g : Geometry) (view : View) (own : Own) (action : Action) : Type 0 where
  pub run : AwaitsDemoteRun awaits made_by (demote_task_made t) t.run g view own action
  pub given : action ≡ t.given
  pub counts : CountsFreed t own

-- the demotion is over, after this own list
pub record IsDemotionEnded (t : DemoteTask) (own : Own) : Type 0 where
  pub idle : IsDemoteIdle t
  pub counts : CountsFreed t own
