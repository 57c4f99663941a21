use Rattle.std.proofs.Common.{sym, subst}
use Rattle.nm_missing_fault.specs.declared.search.SearchStage.{SearchStage}
use Rattle.nm_missing_fault.specs.SearchStages.{HasTier}
use Rattle.nm_missing_fault.proofs.SearchSteps.{stage-there}
use Rattle.nm_missing_fault.proofs.search.FrameSearch.go_from.Goals as goal

pub go-requires : goal.go-requires
go-requires c =
    let T : SearchStage → Type 0 = λ s. HasTier c.args.self.now.geometry.now s in
    subst T (sym c.stage_from-stage.ensures) (stage-there c.args.self.now.geometry.now c.args.tier)
