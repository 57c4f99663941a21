-- How far the search for a frame has come.
use Rattle.std.specs.Prelude.{◌≡◌, ℕ, Some}
use Rattle.nm_base.specs.Geometry.{Geometry}
use Rattle.nm_base.specs.Ranges.{IsTier}
use Rattle.nm_action.specs.Own.{Own}
use Rattle.nm_view.specs.Views.{View}
use Rattle.nm_compose.specs.Choices.{or_made, IsNewOr, MayBeginOr, IsOr, LeavesOr}
use Rattle.nm_compose.specs.Stages.{Stages}
use Rattle.nm_compose.specs.declared.or.Or.{Or}
use Rattle.nm_compose.specs.declared.or.Or.TheVariants.{This, Other}
use Rattle.nm_pool.specs.Pool.{IsPool}
use Rattle.nm_pool.specs.Given.{pool_made}
use Rattle.nm_pool.specs.Given as given
use Rattle.nm_pool.specs.Stages.{made_of, IsNewPool}
use Rattle.nm_pool.specs.declared.job.PoolEnd.{PoolEnd}
use Rattle.nm_pool.specs.declared.job.PoolEnd.TheVariants as pools
use Rattle.nm_pool.specs.declared.job.PoolJob.TheVariants.{Take}
use Rattle.nm_pool.specs.declared.job.PoolMade.{PoolMade}
use Rattle.nm_pool.specs.declared.task.PoolTask.{PoolTask}
use Rattle.nm_reclaim.specs.declared.run.SweepRun.{SweepRun}
use Rattle.nm_reclaim.specs.Runs.{sweep_run_made, IsNewSweepRun}
use Rattle.nm_reclaim.specs.Swept.{IsSwept}
use Rattle.nm_reclaim.specs.Sweeping.{SweptMade, MaySweep, IsSweep, SweepLeaves}
use Rattle.nm_reclaim.specs.Tasks.{first_visited}
use Rattle.nm_obtain.specs.declared.obtain.Obtain.{Obtain}
use Rattle.nm_obtain.specs.declared.obtain.ObtainMade.{ObtainMade}
use Rattle.nm_obtain.specs.declared.obtain.Obtained.{Obtained}
use Rattle.nm_obtain.specs.declared.obtain.Stage.{Stage}
use Rattle.nm_obtain.specs.declared.obtain.Stage.TheVariants.{New, Trying, Reclaiming, TryingAgain}
use Rattle.nm_obtain.specs.Obtains.{reclaim_for, AfterFirstTry, TriesAgain, AfterSecondTry}
use Rattle.nm_obtain.specs.Obtaining.{MayObtain}

-- Pieces: a task on the free frames, or the visits of Reclaim.

abbrev pub ObtainParts : Type 0
ObtainParts = Or PoolMade SweptMade

abbrev pub ObtainPieceEnd : Type 0
ObtainPieceEnd = Or PoolEnd ℕ

abbrev pub IsPoolTask : PoolMade → Geometry → Own → PoolEnd → Type 0
IsPoolTask made g own end = IsPool g made.job own end

abbrev pub MayObtainPiece : ObtainParts → Geometry → View → Type 0
MayObtainPiece = MayBeginOr given.MayBegin MaySweep

abbrev pub IsObtainPiece : ObtainParts → Geometry → Own → ObtainPieceEnd → Type 0
IsObtainPiece = IsOr IsPoolTask IsSweep

abbrev pub ObtainPieceLeaves : ObtainParts → Geometry → View → ObtainPieceEnd → View → Type 0
ObtainPieceLeaves = LeavesOr (λ (made : PoolMade) g view end left. given.Leaves g made.job view end left) SweepLeaves

abbrev pub ObtainPiece : Type 0
ObtainPiece = Or PoolTask SweepRun

-- the data of a piece, and that it has given no action
abbrev pub obtain_parts : ObtainPiece → ObtainParts
obtain_parts = or_made made_of sweep_run_made

abbrev pub IsNewObtainPiece : ObtainPiece → Type 0
IsNewObtainPiece = IsNewOr IsNewPool IsNewSweepRun

-- What the search is made with.

abbrev pub obtain_made : Geometry → ObtainMade → Geometry × ObtainMade
obtain_made g made = (g, made)

-- it has not begun, and the tier is there
pub record IsNewObtain (s : Obtain) : Type 0 where
  pub start : s.stage ≡ New
  pub tier : IsTier s.geometry.now s.made.tier

-- Stages.

abbrev pub obtain_piece : Geometry × ObtainMade → Stage → ObtainParts
obtain_piece made New = This (pool_made made.0 (Take made.1.tier 0))
obtain_piece made Trying = This (pool_made made.0 (Take made.1.tier 0))
obtain_piece made (Reclaiming first) = Other (made.0, record { asked = reclaim_for made.1; first = first })
obtain_piece made TryingAgain = This (pool_made made.0 (Take made.1.tier 0))

-- how a task on the free frames ended (of other pieces nothing is claimed by this)
abbrev pub task_end_in : ObtainPieceEnd → PoolEnd
task_end_in (This end) = end
task_end_in (Other freed) = pools.Back

-- what is left after the piece of a stage, by how it ends
abbrev pub obtain_left_by : ObtainMade → Stage → Geometry → ObtainPieceEnd → Own → Obtained → Type 0
obtain_left_by made New g end own outcome = ⊥
obtain_left_by made Trying g end own outcome = AfterFirstTry g made (task_end_in end) own outcome
obtain_left_by made (Reclaiming first) g end own outcome = TriesAgain g made own outcome
obtain_left_by made TryingAgain g end own outcome = AfterSecondTry (task_end_in end) own outcome

abbrev pub obtain_left : Geometry × ObtainMade → Stage → Geometry → ObtainPieceEnd → Own → Obtained → Type 0
obtain_left made stage g end own outcome = obtain_left_by made.1 stage g end own outcome

-- What is known at a stage.

-- of the view no more is lost than Reclaim may lose
pub record IsSearching (made : Geometry × ObtainMade) (g : Geometry) (first now : View) : Type 0 where
  pub may : MayObtain made.0 made.1 g first
  pub swept : IsSwept (Some made.1.page) first now

-- Reclaim has this page to visit first
pub record IsReclaimingFrom (made : Geometry × ObtainMade) (visited : ℕ) (g : Geometry) (first now : View) : Type 0 where
  pub searching : IsSearching made g first now
  pub visits : first_visited g (reclaim_for made.1) ≡ Some visited

abbrev pub ObtainKnown : Geometry × ObtainMade → Stage → Geometry → View → View → Type 0
ObtainKnown made New g first now = ⊥
ObtainKnown made Trying g first now = IsSearching made g first now
ObtainKnown made (Reclaiming visited) g first now = IsReclaimingFrom made visited g first now
ObtainKnown made TryingAgain g first now = IsSearching made g first now

abbrev pub obtain_stages : Stages (Geometry × ObtainMade) Stage ObtainParts ObtainPieceEnd Obtained
obtain_stages = record { piece = obtain_piece; left = obtain_left; known = ObtainKnown }
