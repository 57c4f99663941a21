use Rattle.std.proofs.Common.{sym, subst, ◌∙◌}
use Rattle.nm_locked_run.specs.declared.run.LockedRun.{LockedRun}
use Rattle.nm_locked_run.specs.Runs.{IsNewLockedRun}
use Rattle.nm_migrator_parts.proofs.parts.MoveWork.new.Goals as goal

pub returns-clause-new : goal.returns-clause-new
returns-clause-new c = record {
  piece = subst (λ (r : LockedRun). IsNewLockedRun r) (sym c.new.ensures.piece) c.new-run.ensures.new;
  same = c.new.ensures.spent ∙ sym c.new.ensures.begun;
}
