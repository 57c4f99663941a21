-- How far a search for a frame has come.
use Rattle.std.specs.Prelude.{ℕ, ◌+◌, nat_lt, if◌then◌else◌, length, Some}
use Rattle.nm_base.specs.Geometry.{Geometry}
use Rattle.nm_base.specs.Ranges.{IsTier}
use Rattle.nm_action.specs.Own.{Own}
use Rattle.nm_view.specs.Views.{View}
use Rattle.nm_part.specs.Patterns.{Sometimes}
use Rattle.nm_compose.specs.Choices.{or_made, IsNewOr, MayBeginOr, IsOr, LeavesOr}
use Rattle.nm_compose.specs.declared.or.Or.{Or}
use Rattle.nm_compose.specs.declared.or.Or.TheVariants.{This, Other}
use Rattle.nm_pool.specs.declared.job.PoolEnd.{PoolEnd}
use Rattle.nm_pool.specs.declared.job.PoolJob.TheVariants.{Take}
use Rattle.nm_pool.specs.declared.job.PoolMade.{PoolMade}
use Rattle.nm_pool.specs.declared.task.PoolTask.{PoolTask}
use Rattle.nm_pool.specs.Given as given
use Rattle.nm_pool.specs.Given.{pool_made}
use Rattle.nm_pool.specs.Stages.{made_of, IsNewPool}
use Rattle.nm_reclaim.specs.Swept.{IsSwept}
use Rattle.nm_obtain.specs.declared.obtain.ObtainMade.{ObtainMade}
use Rattle.nm_obtain.specs.declared.obtain.Obtained.{Obtained}
use Rattle.nm_obtain.specs.Obtains.{IsObtain}
use Rattle.nm_obtain.specs.Obtaining.{MayObtain, IsObtained}
use Rattle.nm_obtain.specs.declared.run.ObtainRun.{ObtainRun}
use Rattle.nm_obtain.specs.Runs.{obtain_run_made, IsNewObtainRun}
use Rattle.nm_obtain.specs.Searching.{IsPoolTask, obtain_made}
use Rattle.nm_missing_fault.specs.declared.search.SearchMade.{SearchMade}
use Rattle.nm_missing_fault.specs.declared.search.SearchStage.{SearchStage}
use Rattle.nm_missing_fault.specs.declared.search.SearchStage.TheVariants.{New, TakingAboveLow, Obtaining, TakingLast}
use Rattle.nm_missing_fault.specs.Searching.{low_mark, frame_found, FoundOr, SeeksFrom, Rounds}
use Rattle.nm_missing_fault.specs.Found.{MaySearch}

-- Pieces: a task on the free frames, or a frame of a tier is sought.

abbrev pub SearchPiece : Type 0
SearchPiece = Or PoolTask ObtainRun

-- what they are made with, and how they end
abbrev pub SearchPieceMade : Type 0
SearchPieceMade = Or PoolMade (Geometry × ObtainMade)

abbrev pub SearchPieceEnd : Type 0
SearchPieceEnd = Or PoolEnd Obtained

abbrev pub search_piece_made : SearchPiece → SearchPieceMade
search_piece_made = or_made made_of obtain_run_made

-- they have given no action

abbrev pub IsNewSearchPiece : SearchPiece → Type 0
IsNewSearchPiece = IsNewOr IsNewPool IsNewObtainRun

-- when they may begin, their finished lists, and what they leave

abbrev pub MaySearchPiece : SearchPieceMade → Geometry → View → Type 0
MaySearchPiece = MayBeginOr given.MayBegin (λ made g view. MayObtain made.0 made.1 g view)

abbrev pub IsSearchPiece : SearchPieceMade → Geometry → Own → SearchPieceEnd → Type 0
IsSearchPiece = IsOr IsPoolTask (λ made g own outcome. IsObtain made.1 g own outcome)

abbrev pub LeavesSearchPiece : SearchPieceMade → Geometry → View → SearchPieceEnd → View → Type 0
LeavesSearchPiece = LeavesOr (λ made g view end left. given.Leaves g made.job view end left) (λ made g view outcome left. IsObtained made.1 g view outcome left)

-- Stages.

-- the tier of a stage is there
abbrev pub HasTier : Geometry → SearchStage → Type 0
HasTier g (Obtaining tier) = IsTier g tier
HasTier g _ = Unit {0}

-- the stage that seeks a frame of this tier, or the last one where there is no such tier
abbrev pub stage_from : Geometry → ℕ → SearchStage
stage_from g tier = if nat_lt tier (length g.tiers) then Obtaining tier else TakingLast

abbrev pub search_piece_of : Geometry → SearchMade → SearchStage → SearchPieceMade
search_piece_of g made New = This (pool_made g (Take 0 (low_mark g)))
search_piece_of g made TakingAboveLow = This (pool_made g (Take 0 (low_mark g)))
search_piece_of g made (Obtaining tier) = Other (obtain_made g (record { page = made.page; tier = tier }))
search_piece_of g made TakingLast = This (pool_made g (Take 0 0))

-- what is left after the piece of a stage, by how that ends, with at most so many rounds to come
abbrev pub search_left_in : SearchMade → SearchStage → Geometry → SearchPieceEnd → ℕ → Own → ℕ → Type 0
search_left_in made New g end n = Rounds made g n
search_left_in made TakingAboveLow g end n = FoundOr (SeeksFrom made g 1 (Rounds made g n)) (frame_found end)
search_left_in made (Obtaining tier) g end n = FoundOr (SeeksFrom made g (tier + 1) (Rounds made g n)) (frame_found end)
search_left_in made TakingLast g end n = FoundOr (Rounds made g n) (frame_found end)

abbrev pub search_left : SearchMade → SearchStage → Geometry → SearchPieceEnd → Own → ℕ → Type 0
search_left made stage g end = Sometimes (search_left_in made stage g end)

-- no frame was had so far
pub record IsWithoutFrame (made : SearchMade) (g : Geometry) (first now : View) : Type 0 where
  pub may : MaySearch g made g first
  pub swept : IsSwept (Some made.page) first now

pub record IsSeekingFrame (made : SearchMade) (tier : ℕ) (g : Geometry) (first now : View) : Type 0 where
  pub without : IsWithoutFrame made g first now
  pub tier_is : IsTier g tier

abbrev pub KnownInSearch : SearchMade → SearchStage → Geometry → View → View → Type 0
KnownInSearch made New g first now = ⊥
KnownInSearch made TakingAboveLow g first now = IsWithoutFrame made g first now
KnownInSearch made (Obtaining tier) g first now = IsSeekingFrame made tier g first now
KnownInSearch made TakingLast g first now = IsWithoutFrame made g first now
