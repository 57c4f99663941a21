-- The rows of a lab.
use Rattle.std.proofs.Common.{◌≡◌, ℕ, suc, zero, ◌+◌, ◌<◌, ◌≤◌, ◌^◌, List, [], ◌∷◌, ◌++◌, length, take, get_or, Option, IfSome, refl, sym, ap, subst, ◌∙◌, arith}
use Rattle.std.specs.List.{AllByRecursion}
use Rattle.std.proofs.lemmas.List.{take_more}
use Rattle.nm_base.specs.Geometry.{Geometry}
use Rattle.nm_action.specs.declared.action.Event.{Event}
use Rattle.nm_action.specs.declared.tally.Tally.{Tally}
use Rattle.nm_core.specs.EndWords.{EndWords}
use Rattle.nm_script.specs.Plain.{Script}
use Rattle.nm_script.specs.Script.{IsScript}
use Rattle.nm_report.specs.declared.line_result.LineResult.{LineResult}
use Rattle.nm_schedule.specs.declared.turn.Played.{Played}
use Rattle.nm_schedule.specs.Played.{events_of}
use Rattle.nm_crew.proofs.Simulating.{few-played}
use Rattle.nm_sched.specs.Plain.{SimRun}
use Rattle.nm_sched.specs.Runs.{IsRunOfScript, IsWatchedRunOfScript}
use Rattle.nm_one_script.proofs.OneScript.{one-script}
use Rattle.nm_lab.specs.Retry.{with_retry}
use Rattle.nm_lab.specs.Slow.{slow_accesses}
use Rattle.nm_lab.specs.declared.rows.LabRow.{LabRow}
use Rattle.nm_lab_counter.specs.Counts.{IsCount}
use Rattle.nm_lab_run.specs.LabRuns.{AreRowsOf, IsMeasured, IsRowOf}

-- one row more
pub rows_more : (s : Script) (retries : List (Option ℕ)) (rows : List LabRow) (retry : Option ℕ) (row : LabRow) → AreRowsOf s retries rows → IsRowOf s retry row → AreRowsOf s (retries ++ retry ∷ []) (rows ++ row ∷ [])
rows_more s [] [] retry row h one = (one, tt)
rows_more s [] (x ∷ rows) retry row h one = absurd h
rows_more s (r ∷ retries) [] retry row h one = absurd h
rows_more s (r ∷ retries) (x ∷ rows) retry row h one = (h.0, rows_more s retries rows retry row h.1 one)

-- so behind the first retries
pub rows_taken : (s : Script) (retries : List (Option ℕ)) (rows : List LabRow) (i : ℕ) (d : Option ℕ) (row : LabRow) → i < length retries → AreRowsOf s (take i retries) rows → IsRowOf s (get_or retries i d) row
    → AreRowsOf s (take (i + 1) retries) (rows ++ row ∷ [])
rows_taken s retries rows i d row lt h one =
    subst (λ (l : List (Option ℕ)). AreRowsOf s l (rows ++ row ∷ [])) (sym (take_more retries i d lt)) (rows_more s (take i retries) rows (get_or retries i d) row h one)

-- as many rows as retries
pub rows_many : (s : Script) (retries : List (Option ℕ)) (rows : List LabRow) → AreRowsOf s retries rows → length rows ≡ length retries
rows_many s [] [] h = refl
rows_many s [] (x ∷ rows) h = absurd h
rows_many s (r ∷ retries) [] h = absurd h
rows_many s (r ∷ retries) (x ∷ rows) h = ap suc (rows_many s retries rows h.1)

-- what is said of each is said of one
pub retry_at : (P : Option ℕ → Type 0) (retries : List (Option ℕ)) (i : ℕ) (d : Option ℕ) → AllByRecursion P retries → i < length retries → P (get_or retries i d)
retry_at P [] i d all lt = absurd (omega (arith, lt))
retry_at P (r ∷ retries) zero d all lt = all.0
retry_at P (r ∷ retries) (suc i) d all lt = retry_at P retries i d all.1 (omega (arith, lt))

-- a run that was watched by a counter
pub measured_run : (s : Script) (retry : Option ℕ) (slow : ℕ) (results : List (List LineResult)) (end : EndWords) (tally : Tally) (turns : ℕ) (row : LabRow)
    → IsScript s → IsWatchedRunOfScript s (IsCount slow s.geometry) results end tally turns
    → row ≡ record { retry = retry; slow = slow; committed = tally.committed; moved = tally.moved; aborted = tally.aborted; settled = end.settled }
    → IsMeasured s retry row
measured_run s retry slow results end tally turns row script watched is =
    let run : SimRun = record { events = watched.events; order = watched.order; results = results; end = end; tally = tally; turns = turns } in
    let sim = watched.run.simulated in
    let few : length watched.run.played ≤ 8000000 = few-played s.geometry s.schedule watched.run.played script.schedule sim.scheduled in
    let count : slow ≡ slow_accesses s.geometry (events_of watched.run.played) = watched.told (omega (arith, few)) in
    record {
      run = run;
      scheduled = watched.run;
      only = λ other h. one-script s other run h watched.run;
      retry_is = ap (λ (r : LabRow). r.retry) is;
      slow = ap (λ (r : LabRow). r.slow) is ∙ count ∙ ap (slow_accesses s.geometry) (sym sim.listed);
      committed = ap (λ (r : LabRow). r.committed) is;
      moved = ap (λ (r : LabRow). r.moved) is;
      aborted = ap (λ (r : LabRow). r.aborted) is;
      settled = ap (λ (r : LabRow). r.settled) is;
    }
