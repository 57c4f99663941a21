use Rattle.std.proofs.Common.{ap, refl}
use Rattle.nm_compose.specs.declared.or.Or.TheVariants.{This}
use Rattle.nm_demote.specs.declared.demote.DemoteStage.TheVariants.{Selecting}
use Rattle.nm_demote.specs.Pieces.{demote_parts}
use Rattle.nm_demote.proofs.DemoteSteps.{begins}
use Rattle.nm_demote.proofs.demote.DemotePlanDemotePiece.begin.Goals as goal

pub returns-clause-run : goal.returns-clause-run
returns-clause-run c = λ g view may.
    let old = c.args.self.now in
    begins old (record old { stage = Selecting }) (demote_parts (This c.new.result)) g view may.same refl (ap This c.new.ensures.made) may c.requires.words
