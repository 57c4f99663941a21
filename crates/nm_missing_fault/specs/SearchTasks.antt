-- The search for a frame as a part.
use Rattle.nm_base.specs.Geometry.{Geometry}
use Rattle.nm_action.specs.declared.action.Action.{Action}
use Rattle.nm_action.specs.Own.{Own}
use Rattle.nm_view.specs.Views.{View}
use Rattle.nm_compose.specs.Choices.{AwaitsOr}
use Rattle.nm_compose.specs.Composites.{HasFirst, IsRunning}
use Rattle.nm_prepare.specs.Placing.{IsPlanPlaced}
use Rattle.nm_pool.specs.Stages.{AwaitsPool}
use Rattle.nm_obtain.specs.Runs.{AwaitsObtainRun}
use Rattle.nm_missing_fault.specs.declared.search.SearchMade.{SearchMade}
use Rattle.nm_missing_fault.specs.declared.search.SearchTask.{SearchTask}
use Rattle.nm_missing_fault.specs.Searching.{IsSearch}
use Rattle.nm_missing_fault.specs.Found.{MaySearch}
use Rattle.nm_missing_fault.specs.SearchStages.{search_piece_made, IsNewSearchPiece, MaySearchPiece, IsSearchPiece, search_piece_of, search_left, KnownInSearch}

-- what it was begun with, in which geometry
abbrev pub search_of : SearchTask → Geometry × SearchMade
search_of t = record { 0 = t.run.plan.geometry.now; 1 = t.run.plan.made }

-- it has given no action
abbrev pub IsNewSearch : SearchTask → Type 0
IsNewSearch t = HasFirst search_piece_made IsNewSearchPiece MaySearchPiece IsSearchPiece (IsPlanPlaced search_piece_of KnownInSearch t.run.plan.geometry.now t.run.plan.made t.run.plan.stage) (search_left t.run.plan.made t.run.plan.stage)
    (λ (made : Geometry × SearchMade) g view. MaySearch made.0 made.1 g view) (λ (made : Geometry × SearchMade) g own frame. IsSearch made.1 g own frame) (search_of t) t.run.piece

-- it awaits the answer that its piece awaits
abbrev pub AwaitsSearch : SearchTask → Geometry → View → Own → Action → Type 0
AwaitsSearch t = IsRunning IsSearchPiece (AwaitsOr AwaitsPool AwaitsObtainRun t.run.piece) (IsPlanPlaced search_piece_of KnownInSearch t.run.plan.geometry.now t.run.plan.made t.run.plan.stage) (search_left t.run.plan.made t.run.plan.stage) (λ g own frame. IsSearch t.run.plan.made g own frame) (search_piece_made t.run.piece)
