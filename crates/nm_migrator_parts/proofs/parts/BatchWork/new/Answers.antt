use Rattle.std.proofs.Common.{sym, subst, ◌∙◌}
use Rattle.nm_batch.specs.declared.run.BatchRun.{BatchRun}
use Rattle.nm_batch.specs.Runs.{IsNewBatchRun}
use Rattle.nm_migrator_parts.proofs.parts.BatchWork.new.Goals as goal

pub returns-clause-new : goal.returns-clause-new
returns-clause-new c = record {
  piece = subst (λ (r : BatchRun). IsNewBatchRun r) (sym c.new.ensures.piece) c.new-run.ensures.new;
  same = c.new.ensures.spent ∙ sym c.new.ensures.begun;
}
