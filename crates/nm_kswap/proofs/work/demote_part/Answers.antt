use Rattle.std.proofs.Common.{sym, subst, ◌∙◌}
use Rattle.nm_demote_run.specs.declared.run.DemoteRun.{DemoteRun}
use Rattle.nm_demote_run.specs.Runs.{IsNewDemoteRun}
use Rattle.nm_kswap.proofs.work.demote_part.Goals as goal

pub returns-clause-new : goal.returns-clause-new
returns-clause-new c = record {
  piece = subst (λ (r : DemoteRun). IsNewDemoteRun r) (sym c.new.ensures.piece) c.new-run.ensures.new;
  same = c.new.ensures.spent ∙ sym c.new.ensures.begun;
}
