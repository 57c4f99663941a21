-- The table of a lab, and the runs that it tells of.
use Rattle.std.specs.Prelude.{◌≡◌, ℕ, List, [], ◌∷◌, Option}
use Rattle.nm_script.specs.Plain.{Script}
use Rattle.nm_sched.specs.Plain.{SimRun}
use Rattle.nm_sched.specs.Runs.{IsRunOfScript}
use Rattle.nm_lab.specs.Retry.{with_retry}
use Rattle.nm_lab.specs.Rows.{IsLabText}
use Rattle.nm_lab.specs.Slow.{slow_accesses}
use Rattle.nm_lab.specs.declared.rows.LabRow.{LabRow}

-- the row tells what the run of a script costs, which is its only one: its slow accesses, its tally, and whether its end is settled
pub record IsMeasured (s : Script) (retry : Option ℕ) (row : LabRow) : Type 0 where
  pub run : SimRun
  pub scheduled : IsRunOfScript s run
  pub only : (other : SimRun) → IsRunOfScript s other → other ≡ run
  pub retry_is : row.retry ≡ retry
  pub slow : row.slow ≡ slow_accesses s.geometry run.events
  pub committed : row.committed ≡ run.tally.committed
  pub moved : row.moved ≡ run.tally.moved
  pub aborted : row.aborted ≡ run.tally.aborted
  pub settled : row.settled ≡ run.end.settled

-- the row of a retry is that of the script with this retry
abbrev pub IsRowOf : Script → Option ℕ → LabRow → Type 0
IsRowOf s retry row = IsMeasured (with_retry s retry) retry row

-- one row for each retry, in order
abbrev pub AreRowsOf : Script → List (Option ℕ) → List LabRow → Type 0
AreRowsOf s [] [] = Unit {0}
AreRowsOf s [] (row ∷ rows) = ⊥
AreRowsOf s (retry ∷ retries) [] = ⊥
AreRowsOf s (retry ∷ retries) (row ∷ rows) = IsRowOf s retry row × AreRowsOf s retries rows

-- the text is the table of the runs of the script with these retries, and names the first row with the fewest slow accesses
pub record IsLabOf (retries : List (Option ℕ)) (s : Script) (text : List ℕ) : Type 0 where
  pub rows : List LabRow
  pub each : AreRowsOf s retries rows
  pub told : IsLabText rows text
