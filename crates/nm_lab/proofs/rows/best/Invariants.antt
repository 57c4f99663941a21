use Rattle.std.proofs.Common.{◌<◌, ◌≤◌, ℕ, length}
use Rattle.nm_lab.specs.Rows.{row_at}
use Rattle.nm_lab.proofs.rows.best.Given as goal

abbrev pub invariant-loop-i : goal.invariant-loop-i
invariant-loop-i l = record {
  there : l.at < l.i;
  within : l.i ≤ length l.rows;
  least : (k : ℕ) → k < l.i → (row_at l.rows l.at).slow ≤ (row_at l.rows k).slow;
  first : (k : ℕ) → k < l.at → (row_at l.rows l.at).slow < (row_at l.rows k).slow;
}
