-- How far a pool task has come.
use Rattle.std.specs.Prelude.{◌≡◌, ℕ, ◌*◌, ◌<◌, ◌≤◌, nat_lt, if◌then◌else◌, Bool, List, [], ◌∷◌, ◌++◌, length, Option, Some, None, MatchOption}
use Rattle.nm_base.specs.Geometry.{Geometry}
use Rattle.nm_action.specs.declared.action.Action.{Action}
use Rattle.nm_action.specs.declared.action.Action.TheVariants.{TakeTurn, Scan, GiveFrame, PutFrame, ReleaseTurn}
use Rattle.nm_action.specs.declared.action.Reply.TheVariants.{Done}
use Rattle.nm_view.specs.declared.view.Scanned.{Scanned}
use Rattle.nm_view.specs.Views.{View}
use Rattle.nm_view.specs.Opening.{unscanned}
use Rattle.nm_action.specs.Own.{Own}
use Rattle.nm_event.specs.After.{view_after}
use Rattle.nm_pool.specs.declared.job.PoolJob.{PoolJob}
use Rattle.nm_pool.specs.declared.job.PoolJob.TheVariants.{Take, Level, Back}
use Rattle.nm_pool.specs.declared.job.PoolMade.{PoolMade}
use Rattle.nm_pool.specs.declared.job.PoolEnd.{PoolEnd}
use Rattle.nm_pool.specs.declared.job.PoolEnd.TheVariants as ends
use Rattle.nm_pool.specs.declared.task.PoolTask.{PoolTask}
use Rattle.nm_pool.specs.declared.task.Stage.{Stage}
use Rattle.nm_pool.specs.declared.task.Stage.TheVariants.{New, Turning, Scanning, Giving, Putting, Releasing}
use Rattle.nm_pool.specs.Pool.{refused, scanned, free_bits, IsFree, IsLeastFree, IsWork}
use Rattle.nm_pool.specs.Given.{MayBegin, released, IsGiven, Leaves}

abbrev pub made_of : PoolTask → PoolMade
made_of task = task.made

abbrev pub IsNewPoolStage : Stage → Type 0
IsNewPoolStage New = Unit {0}
IsNewPoolStage Turning = ⊥
IsNewPoolStage Scanning = ⊥
IsNewPoolStage (Giving _) = ⊥
IsNewPoolStage (Putting _) = ⊥
IsNewPoolStage (Releasing _) = ⊥

-- a task that has not begun has scanned nothing
pub record IsNewPool (task : PoolTask) : Type 0 where
  pub stage : IsNewPoolStage task.stage
  pub scan : task.scan ≡ unscanned

-- The next step.

-- the action of a stage
abbrev pub action_at : PoolMade → Scanned → Stage → Action
action_at made scan New = TakeTurn made.tier
action_at made scan Turning = TakeTurn made.tier
action_at made scan Scanning = Scan made.tier scan.words
action_at made scan (Giving frame) = GiveFrame frame
action_at made scan (Putting frame) = PutFrame frame
action_at made scan (Releasing _) = ReleaseTurn made.tier

-- the stage after the whole tier was scanned, for a frame to be taken
abbrev pub taking : ℕ → ℕ → Option ℕ → Stage
taking floor sum None = Releasing (ends.AtFloor sum)
taking floor sum (Some frame) = if nat_lt floor sum then Giving frame else Releasing (ends.AtFloor sum)

-- the stage under the turn, where words are left to scan or not
abbrev pub working : PoolJob → Bool → Scanned → Stage
working (Take tier floor) more scan = if more then Scanning else taking floor scan.sum scan.least
working (Level tier) more scan = if more then Scanning else Releasing (ends.Level scan.sum)
working (Back frame) more scan = Putting frame

abbrev pub next_stage : PoolMade → Scanned → Stage
next_stage made scan = working made.job (nat_lt scan.words made.words) scan

-- What is known at each stage.

-- a scan so far: its numbers are those of the words
pub record HasScanned (g : Geometry) (tier : ℕ) (view : View) (words : List ℕ) (scan : Scanned) : Type 0 where
  pub count : scan.words ≡ length words
  pub sum : scan.sum ≡ free_bits words
  pub few : scan.sum ≤ 64 * length words
  pub some : scan.least ≡ None → scan.sum ≡ 0
  pub least : MatchOption scan.least ((frame : ℕ) → ¬ IsFree g tier words frame) (λ frame. IsLeastFree g tier words frame × IsGiven g tier view frame)

-- the turn is had, and `inner` was done under it
pub record HasTurn (made : PoolMade) (g : Geometry) (view : View) (own inner : Own) (scan : Scanned) : Type 0 where
  pub may : MayBegin made g view
  pub busy : List ℕ
  pub is : own ≡ refused made.tier busy ++ (TakeTurn made.tier, Done) ∷ inner
  pub now : view_after g view own ≡ record view { turn = Some made.tier; scan = scan }

-- the turn is asked for
pub record IsTurning (made : PoolMade) (g : Geometry) (view : View) (own : Own) (scan : Scanned) : Type 0 where
  pub may : MayBegin made g view
  pub busy : List ℕ
  pub is : own ≡ refused made.tier busy
  pub none : scan ≡ unscanned

-- the front of the tier is scanned
pub record IsScanning (made : PoolMade) (g : Geometry) (view : View) (own : Own) (scan : Scanned) : Type 0 where
  pub words : List ℕ
  pub turn : HasTurn made g view own (scanned made.tier 0 words) scan
  pub within : length words ≤ made.words
  pub has : HasScanned g made.tier view words scan

-- a job that scans
abbrev pub IsScanJob : PoolJob → Type 0
IsScanJob (Take _ _) = Unit {0}
IsScanJob (Level _) = Unit {0}
IsScanJob (Back _) = ⊥

-- a job that takes a frame where so many are free
abbrev pub IsTakeJob : PoolJob → ℕ → Type 0
IsTakeJob (Take _ floor) sum = floor < sum
IsTakeJob (Level _) sum = ⊥
IsTakeJob (Back _) sum = ⊥

-- the work is done, and the turn is left to release
pub record IsReleasing (made : PoolMade) (g : Geometry) (view : View) (own : Own) (end : PoolEnd) : Type 0 where
  pub may : MayBegin made g view
  pub busy : List ℕ
  pub inner : Own
  pub work : IsWork g made.job inner end
  pub is : own ≡ refused made.tier busy ++ (TakeTurn made.tier, Done) ∷ inner
  pub turn : (view_after g view own).turn ≡ Some made.tier
  pub left : Leaves g made.job view end (released (view_after g view own))

abbrev pub IsAtStage : PoolMade → Scanned → Stage → Geometry → View → Own → Type 0
IsAtStage made scan New g view own = ⊥
IsAtStage made scan Turning g view own = IsTurning made g view own scan
IsAtStage made scan Scanning g view own = IsScanning made g view own scan × (scan.words < made.words) × IsScanJob made.job
IsAtStage made scan (Giving frame) g view own = IsScanning made g view own scan × (made.words ≤ scan.words) × (scan.least ≡ Some frame) × IsTakeJob made.job scan.sum
IsAtStage made scan (Putting frame) g view own = HasTurn made g view own [] scan × (made.job ≡ Back frame)
IsAtStage made scan (Releasing end) g view own = IsReleasing made g view own end

pub record AwaitsPoolAt (made : PoolMade) (scan : Scanned) (stage : Stage) (g : Geometry) (view : View) (own : Own) (action : Action) : Type 0 where
  pub at : IsAtStage made scan stage g view own
  pub is : action ≡ action_at made scan stage

abbrev pub AwaitsPool : PoolTask → Geometry → View → Own → Action → Type 0
AwaitsPool task g view own action = AwaitsPoolAt task.made task.scan task.stage g view own action
