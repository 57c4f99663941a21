-- The run of a script, and the report of it.
use Rattle.std.specs.Prelude.{◌≡◌, ◌≢◌, ℕ, ◌+◌, ◌<◌, Bool, true, false, List, [], length, slice_index_or, Option}
use Rattle.nm_flat.specs.Memory.{own_part_of}
use Rattle.nm_action.specs.declared.action.Event.{Event}
use Rattle.nm_action.specs.declared.tally.Tally.{Tally}
use Rattle.nm_action.specs.declared.turn.Turn.{Turn}
use Rattle.nm_core.specs.EndWords.{EndWords}
use Rattle.nm_core.specs.State.{actor_count}
use Rattle.nm_core.specs.Runs.{accesses_of}
use Rattle.nm_view.specs.Views.{View, end_word}
use Rattle.nm_actor.specs.Turns.{Turns, own_list, turns_view}
use Rattle.nm_script.specs.Plain.{Script}
use Rattle.nm_report.specs.declared.line_result.LineResult.{LineResult}
use Rattle.nm_report.specs.Plain.{Report}
use Rattle.nm_report.specs.Follows.{FollowsProgram}
use Rattle.nm_report.specs.Texts.{IsPrintable}
use Rattle.nm_schedule.specs.declared.turn.Played.{Played}
use Rattle.nm_schedule.specs.declared.turn.SimTurn.{SimTurn}
use Rattle.nm_schedule.specs.Played.{turns_by, has_ended}
use Rattle.nm_crew.specs.Crewed.{IsAgreed, tally_of, counts_at}
use Rattle.nm_crew.specs.Simulated.{IsSimulated}
use Rattle.nm_cpu_fault.specs.ProcessorFaults.{processor_faults}
use Rattle.nm_cpu.specs.Parts.{IsCpuPart}
use Rattle.nm_cpu.specs.Agreeing.{IsEndedCpu}
use Rattle.nm_cpu_counts.specs.Counting.{processor_tally}
use Rattle.nm_programs.specs.Cpus.{program_of}
use Rattle.nm_programs.specs.Plain.{SimRun}

-- what the lines of a processor gave
abbrev pub results_of : SimRun → ℕ → List LineResult
results_of run cpu = slice_index_or run.results cpu []

-- the report of a script and its run
abbrev pub report_of : Script → SimRun → Report
report_of script run = record { script = script; results = run.results; end = run.end; tally = run.tally }

-- a processor that has ended leaves nothing open in its view, and has acknowledged its end; one that has not ended has not acknowledged it
abbrev pub IsLeftByCpu : Bool → View → Type 0
IsLeftByCpu true view = IsEndedCpu view
IsLeftByCpu false view = view.acked ≢ end_word

-- a processor's part of the turns is that of its program, gave these results and counted this, which is what its own list does; its accesses
-- among the events follow its program with the results; and where it has ended it has left nothing open
pub record IsCpuRun (script : Script) (run : SimRun) (played : List Played) (cpu : ℕ) (counts : Tally) : Type 0 where
  pub part : IsCpuPart processor_faults script.geometry cpu (program_of script cpu) (turns_by cpu played) (has_ended played cpu) (results_of run cpu) counts
  pub counted : counts ≡ processor_tally (own_list (turns_by cpu played))
  pub follows : FollowsProgram cpu (has_ended played cpu) (program_of script cpu) (results_of run cpu) (own_part_of cpu (accesses_of run.events))
  pub left : IsLeftByCpu (has_ended played cpu) (turns_view script.geometry cpu (turns_by cpu played))

-- an actor that was made so has these turns as its part, and counted this: it agrees with exactly them, and has given a turn
-- since, which is End where it has ended
pub record HasPart {K Made : Type 0} (made : K → Made) (agrees : K → Turns → Option Turn → Type 0) (counted : K → Tally) (made_with : Made) (turns : Turns) (ended : Bool) (counts : Tally) : Type 0 where
  pub actor : K
  pub same : made actor ≡ made_with
  pub agreed : IsAgreed (agrees actor) turns ended
  pub counts_so : counts ≡ counted actor

-- a run of a script, by what is said of the migrator's part of the turns and of the reclaimer's, whether it has ended, and what
-- it counted: the turns are those of the schedule, with the facts of their events and of the end; each processor's part is that
-- of its program; the tally is the sum of what the actors counted; and the report of the run can be printed
pub record IsRunWith (migrator_part reclaimer_part : Turns → Bool → Tally → Type 0) (script : Script) (run : SimRun) : Type 0 where
  pub played : List Played
  pub tallies : List Tally
  pub simulated : IsSimulated script.geometry script.schedule run.events run.order run.turns run.end played
  pub actors : length tallies ≡ actor_count script.geometry
  pub cpus : (cpu : ℕ) → cpu < script.geometry.cpus → IsCpuRun script run played cpu (counts_at tallies cpu)
  pub migrator : migrator_part (turns_by script.geometry.cpus played) (has_ended played script.geometry.cpus) (counts_at tallies script.geometry.cpus)
  pub reclaimer : reclaimer_part (turns_by (script.geometry.cpus + 1) played) (has_ended played (script.geometry.cpus + 1)) (counts_at tallies (script.geometry.cpus + 1))
  pub tally : run.tally ≡ tally_of tallies
  pub printable : IsPrintable (report_of script run)

-- a run of a script, of which a watcher keeps what it may: with some events in some order these results, these words at the end,
-- these counts and so many turns are a run, and what is kept agrees with its turns
pub record IsWatchedRunWith (migrator_part reclaimer_part : Turns → Bool → Tally → Type 0) (script : Script) (kept : List Played → Type 0) (results : List (List LineResult)) (end : EndWords) (tally : Tally) (turns : ℕ) : Type 0 where
  pub events : List Event
  pub order : List SimTurn
  pub run : IsRunWith migrator_part reclaimer_part script (record { events = events; order = order; results = results; end = end; tally = tally; turns = turns })
  pub told : kept run.played
