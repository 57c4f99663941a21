-- Reclaim as a task: a sweep, or nothing where there is no page to visit.
use Rattle.std.specs.Prelude.{◌≡◌, ℕ, if◌then◌else◌, ◌==◌, Option, Some, None}
use Rattle.nm_base.specs.Geometry.{Geometry}
use Rattle.nm_action.specs.declared.action.Action.{Action}
use Rattle.nm_action.specs.Own.{Own}
use Rattle.nm_view.specs.Views.{View}
use Rattle.nm_reclaim.specs.declared.sweep.ReclaimMade.{ReclaimMade}
use Rattle.nm_reclaim.specs.declared.task.ReclaimTask.{ReclaimTask}
use Rattle.nm_reclaim.specs.declared.task.Work.{Work}
use Rattle.nm_reclaim.specs.declared.task.Work.TheVariants.{Nothing, Visits}
use Rattle.nm_reclaim.specs.Swept.{MayReclaim}
use Rattle.nm_reclaim.specs.Sweeping.{next_visited, SweptMade}
use Rattle.nm_reclaim.specs.Runs.{sweep_run_made, IsNewSweepRun, AwaitsSweepRun}

-- the first page that is visited
abbrev pub first_visited : Geometry → ReclaimMade → Option ℕ
first_visited g made = if made.tier == 0 then None else next_visited g made 0 0

abbrev pub TaskMade : Type 0
TaskMade = Geometry × ReclaimMade

abbrev pub task_made : ReclaimTask → TaskMade
task_made task = (task.geometry.now, task.asked)

-- it may begin: it was made for this geometry
pub record MayTask (made : TaskMade) (g : Geometry) (view : View) : Type 0 where
  pub same : made.0 ≡ g
  pub may : MayReclaim made.1 g view

-- the sweep that makes up a piece of work
pub record IsSweepFor (made : TaskMade) (sweep : SweptMade) : Type 0 where
  pub same : sweep.0 ≡ made.0
  pub asked : sweep.1.asked ≡ made.1
  pub first : first_visited made.0 made.1 ≡ Some sweep.1.first

-- there is nothing to visit, or the sweep has given no action
pub record IsNewSweep (is_new : Type 0) (made : TaskMade) (sweep : SweptMade) : Type 0 where
  pub new : is_new
  pub for : IsSweepFor made sweep

abbrev pub IsNewWork : TaskMade → Work → Type 0
IsNewWork made Nothing = first_visited made.0 made.1 ≡ None
IsNewWork made (Visits work) = IsNewSweep (IsNewSweepRun work) made (sweep_run_made work)

-- the sweep awaits the answer
pub record IsAwaitedSweep (awaits : Type 0) (made : TaskMade) (sweep : SweptMade) (g : Geometry) : Type 0 where
  pub same : made.0 ≡ g
  pub awaited : awaits
  pub for : IsSweepFor made sweep

abbrev pub AwaitsWork : TaskMade → Work → Geometry → View → Own → Action → Type 0
AwaitsWork made Nothing g view own action = ⊥
AwaitsWork made (Visits work) g view own action = IsAwaitedSweep (AwaitsSweepRun work g view own action) made (sweep_run_made work) g

-- how many were freed
abbrev pub freed_by : Work → ℕ
freed_by Nothing = 0
freed_by (Visits work) = work.run.plan.place.freed
