-- One row more.
use Rattle.std.proofs.Common.{◌≡◌, ◌<◌, ◌++◌, [], ◌∷◌, List, length, take, ◌+◌, subst, sym, rules}
use Rattle.nm_lab.specs.declared.rows.LabRow.{LabRow}
use Rattle.nm_lab_run.specs.LabRuns.{AreRowsOf}
use Rattle.nm_lab_run.proofs.Labs.{rows_taken}
use Rattle.nm_lab_run.proofs.running.lab_rows.Goals as goal

pub loop-retry-preserved : goal.loop-retry-preserved
loop-retry-preserved c =
    let lt : c.loop-retry.retry-index < length c.args.retries.now = search rules in
    let pushed : c.push.new.self.items ≡ c.loop-retry.rows.items ++ c.in_ok-row.row ∷ [] = search rules in
    subst (λ (l : List LabRow). AreRowsOf c.args.script.now (take (c.loop-retry.retry-index + 1) c.args.retries.now) l) (sym pushed)
    (rows_taken c.args.script.now c.args.retries.now c.loop-retry.rows.items c.loop-retry.retry-index _ c.in_ok-row.row lt c.loop-retry.invariant c.in_ok-row.ensures)
