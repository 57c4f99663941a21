-- What is known while the reclaimer runs.
use Rattle.std.specs.Prelude.{◌≡◌, ◌≢◌, ℕ, ◌+◌, ◌<◌, List, [], All, length, Option}
use Rattle.nm_base.specs.Geometry.{Geometry, IsGeometry}
use Rattle.nm_base.specs.Ranges.{IsPage}
use Rattle.nm_action.specs.declared.spent.Spent.{Spent}
use Rattle.nm_view.specs.Views.{View}
use Rattle.nm_compose.specs.declared.or.Or.TheVariants.{This, Other}
use Rattle.nm_pool.specs.declared.job.PoolEnd.TheVariants as pools
use Rattle.nm_transfer.specs.Stages.{HoldsWords}
use Rattle.nm_vpages.specs.VPages.{vpages_of}
use Rattle.nm_worker.specs.declared.routine.Task.{Task}
use Rattle.nm_worker.specs.declared.routine.Task.TheVariants.{Run, Put, Take, Stop}
use Rattle.nm_worker.specs.declared.routine.Ended.{Ended}
use Rattle.nm_worker.specs.Notes.{Notes}
use Rattle.nm_worker.specs.Routines.{IsDrawn, IsLeftEmpty, IsNextTask}
use Rattle.nm_kswap.specs.declared.stage.Visit.{Visit}
use Rattle.nm_kswap.specs.declared.stage.Stage.{Stage}
use Rattle.nm_kswap.specs.declared.stage.Stage.TheVariants.{New, Asking, Counting, Inspecting, Demoting, Over}
use Rattle.nm_kswap.specs.declared.reclaiming.Reclaiming.{Reclaiming}
use Rattle.nm_kswap.specs.declared.work.ReclaimerPiece.{ReclaimerPiece}
use Rattle.nm_kswap.specs.Works.{ReclaimerWorkMade, ReclaimerWorkEnd, reclaimer_work_made, MayReclaimerWork, IsReclaimerWork}
use Rattle.nm_kswap.specs.Ends.{reclaimer_counts}
use Rattle.nm_kswap.specs.Reclaiming.{kept_at_first, marks_of}
use Rattle.nm_kswap.specs.Stages.{task_at, TaskLeft}

-- between its tasks the view has nothing open, and so much was drawn
pub record IsResting (g : Geometry) (spent : Spent) (view : View) : Type 0 where
  pub geometry : IsGeometry g
  pub empty : IsLeftEmpty view
  pub drawn : IsDrawn spent view

-- at most three tiers have a slower one; there is a hand for each of them, and each is at a page
pub record AreHands (g : Geometry) (hands : List ℕ) : Type 0 where
  pub size : length hands ≡ 3
  pub within : All (IsPage g) hands

-- a visit to a page with a virtual page, by a tier that has a slower one, and whose level is below the watermark `high`
pub record IsVisit (g : Geometry) (visit : Visit) : Type 0 where
  pub tier : visit.tier + 1 < length g.tiers
  pub low : visit.level < (marks_of g visit.tier).high
  pub page : IsPage g visit.page
  pub some : vpages_of g visit.page ≢ []

abbrev pub IsStageOf : Geometry → Stage → Type 0
IsStageOf g New = ⊥
IsStageOf g Asking = Unit {0}
IsStageOf g (Counting last tier) = tier + 1 < length g.tiers
IsStageOf g (Inspecting visit) = IsVisit g visit
IsStageOf g (Demoting visit) = IsVisit g visit
IsStageOf g Over = Unit {0}

-- a stage that runs a piece of work
abbrev pub RunsWork : Stage → Type 0
RunsWork New = ⊥
RunsWork Over = ⊥
RunsWork stage = Unit {0}

-- the list for taken words is there, where no demotion has it
abbrev pub HasWords : Stage → Option (List (ℕ × ℕ)) → Type 0
HasWords (Demoting visit) taken = Unit {0}
HasWords stage taken = HoldsWords taken

-- the piece of a stage can end so, by the kind of the end
abbrev pub IsEndAt : Stage → ReclaimerWorkEnd → Type 0
IsEndAt Asking (This all) = Unit {0}
IsEndAt (Counting last tier) (Other (This (pools.Level n))) = Unit {0}
IsEndAt (Inspecting visit) (Other (Other (This found))) = Unit {0}
IsEndAt (Demoting visit) (Other (Other (Other told))) = Unit {0}
IsEndAt stage end = ⊥

-- what holds of it at its stage
pub record IsAble (r : Reclaiming) : Type 0 where
  pub hands : AreHands r.geometry.now r.kept.hands
  pub stage : IsStageOf r.geometry.now r.stage
  pub words : HasWords r.stage r.taken

-- it has given no task yet
pub record IsNewReclaiming (r : Reclaiming) : Type 0 where
  pub geometry : IsGeometry r.geometry.now
  pub start : r.stage ≡ New
  pub fresh : r.kept ≡ kept_at_first
  pub words : HoldsWords r.taken

-- the task that runs is that of its stage, and began in this view
pub record KnowsReclaiming (r : Reclaiming) (now : View) (task : Task ReclaimerWorkMade) : Type 0 where
  pub is : task ≡ task_at r.geometry.now r.kept r.stage
  pub able : IsAble r
  pub resting : IsResting r.geometry.now r.kept.spent now

-- what is left after the task that runs
abbrev pub ReclaimingLeft : Reclaiming → Ended ReclaimerWorkEnd → Notes → Unit {0} → Type 0
ReclaimingLeft r = TaskLeft r.geometry.now r.kept r.stage

-- a task that runs a piece of work runs a new one
abbrev pub IsNewTask : (ReclaimerPiece → Type 0) → Task ReclaimerPiece → Type 0
IsNewTask is_new (Run piece) = is_new piece
IsNewTask is_new (Put lane page) = ⊥
IsNewTask is_new (Take lane) = ⊥
IsNewTask is_new Stop = Unit {0}

-- this task comes next, where this was left
abbrev pub GivesTask : (ReclaimerPiece → Type 0) → Reclaiming → Task ReclaimerPiece → (Notes → Unit {0} → Type 0) → Geometry → View → Type 0
GivesTask is_new r task was g now = IsNextTask reclaimer_work_made is_new MayReclaimerWork IsReclaimerWork reclaimer_counts (KnowsReclaiming r) (ReclaimingLeft r) tt was g now task
