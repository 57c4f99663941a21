-- The run of a script, and the report of it.
use Rattle.std.specs.Prelude.{ℕ, List}
use Rattle.nm_action.specs.declared.tally.Tally.{Tally}
use Rattle.nm_core.specs.EndWords.{EndWords}
use Rattle.nm_script.specs.Plain.{Script}
use Rattle.nm_report.specs.declared.line_result.LineResult.{LineResult}
use Rattle.nm_schedule.specs.declared.turn.Played.{Played}
pub use Rattle.nm_programs.specs.Cpus.{program_of}
pub use Rattle.nm_programs.specs.Runs.{results_of, report_of, IsCpuRun}
use Rattle.nm_programs.specs.Runs.{IsRunWith, IsWatchedRunWith}
use Rattle.nm_sched.specs.Plain.{SimRun}
use Rattle.nm_sched.specs.Parts.{IsMigratorRun, IsReclaimerRun}

-- a run of a script: its actors are the script's processors, a migrator with the script's retry, and a reclaimer; each actor's part
-- of the turns is a beginning of what such an actor does, and all of it where the actor has ended, and then nothing is open in its view
abbrev pub IsRunOfScript : Script → SimRun → Type 0
IsRunOfScript script run = IsRunWith (IsMigratorRun script.geometry script.retry) (IsReclaimerRun script.geometry) script run

-- a run of a script, of which a watcher keeps what it may: with some events in some order these results, these words at the end,
-- these counts and so many turns are a run of the script, and what is kept agrees with its turns
abbrev pub IsWatchedRunOfScript : Script → (List Played → Type 0) → List (List LineResult) → EndWords → Tally → ℕ → Type 0
IsWatchedRunOfScript script kept results end tally turns = IsWatchedRunWith (IsMigratorRun script.geometry script.retry) (IsReclaimerRun script.geometry) script kept results end tally turns
