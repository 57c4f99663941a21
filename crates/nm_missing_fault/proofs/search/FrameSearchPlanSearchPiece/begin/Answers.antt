use Rattle.nm_missing_fault.specs.declared.search.SearchStage.TheVariants.{TakingAboveLow}
use Rattle.nm_missing_fault.specs.Searching.{IsSearch}
use Rattle.nm_missing_fault.specs.SearchStages.{search_piece_made}
use Rattle.nm_missing_fault.proofs.SearchSteps.{search-here, without-first, runs-above, gives-search}
use Rattle.nm_missing_fault.proofs.search.FrameSearchPlanSearchPiece.begin.Goals as goal

pub returns-clause-run : goal.returns-clause-run
returns-clause-run c = λ g view may.
    gives-search c.args.self.now c.go.new.self TakingAboveLow (search_piece_made c.go.result) (IsSearch c.args.self.now.made g) g view view may.same c.go.ensures.stage c.go.ensures.made
    (runs-above c.args.self.now.made (IsSearch c.args.self.now.made g) g view view (λ own frame h. h)
    (without-first c.args.self.now.made g view (search-here c.args.self.now.geometry.now c.args.self.now.made g view may)))
