-- The run of a script on a board.
use Rattle.std.specs.Prelude.{◌≡◌, ℕ, ◌+◌, ◌<◌, ◌≤◌, true, List, [], length, slice_index_or, filter_map}
use Rattle.nm_action.specs.declared.tally.Tally.{Tally}
use Rattle.nm_action.specs.declared.turn.Lane.{Lane}
use Rattle.nm_core.specs.State.{actor_count}
use Rattle.nm_core.specs.Runs.{access_by}
use Rattle.nm_actor.specs.Turns.{Turns, own_list, lane_lists, turns_view}
use Rattle.nm_actor.specs.Boards.{BoardState, stood}
use Rattle.nm_routine_part.specs.Parts.{IsEmptyAtEnd}
use Rattle.nm_migrator.specs.Parts as migrator
use Rattle.nm_script.specs.Plain.{Script}
use Rattle.nm_report.specs.declared.line_result.LineResult.{LineResult}
use Rattle.nm_report.specs.Follows.{FollowsProgram}
use Rattle.nm_crew.specs.Crewed.{tally_of, counts_at}
use Rattle.nm_cpu_fault.specs.ProcessorFaults.{processor_faults}
use Rattle.nm_cpu.specs.Parts.{IsCpuPart}
use Rattle.nm_cpu.specs.Agreeing.{IsEndedCpu}
use Rattle.nm_cpu_counts.specs.Counting.{processor_tally}
use Rattle.nm_programs.specs.Cpus.{program_of}
use Rattle.nm_sched.specs.Parts.{IsReclaimerRun}
use Rattle.nm_thread_crew.specs.Boarded.{IsEmptied}

-- an actor has stood, and the lists that the board tells of it are those of some turns, of which this is said
pub record HasLeft {N : Type 0} (b : BoardState N) (number : ℕ) (said : Turns → Type 0) : Type 0 where
  pub turns : Turns
  pub seat : b.seats number ≡ stood (own_list turns)
  pub lanes : b.lanes number ≡ lane_lists turns
  pub told : said turns

-- these are all turns of a processor of a script, with what its lines gave and what it counted, which is what its own list does; its
-- accesses follow its program, and it has left nothing open
pub record IsWholeCpu (script : Script) (cpu : ℕ) (results : List LineResult) (counts : Tally) (turns : Turns) : Type 0 where
  pub part : IsCpuPart processor_faults script.geometry cpu (program_of script cpu) turns true results counts
  pub counted : counts ≡ processor_tally (own_list turns)
  pub follows : FollowsProgram cpu true (program_of script cpu) results (filter_map (λ e. access_by cpu e.0 e.1) (own_list turns))
  pub left : IsEndedCpu (turns_view script.geometry cpu turns)

-- these are all turns of a script's migrator, which was resumed once; it has left nothing open
pub record IsWholeMigrator (script : Script) (counts : Tally) (turns : Turns) : Type 0 where
  pub part : migrator.IsMigratorPartBy (record { 0 = script.geometry; 1 = script.retry; 2 = 1 }) turns true counts
  pub left : IsEmptyAtEnd true (turns_view script.geometry script.geometry.cpus turns)

-- the run of a script on a board: every actor has ended and stood, the migrator after rest; results and counts are those of the lists
-- that the board tells, by which both lanes are empty; of a number that is no actor's it tells the lanes that it told
pub record IsBoardRun {N : Type 0} (script : Script) (old new : BoardState N) (results : List (List LineResult)) (tally : Tally) : Type 0 where
  pub is : new ≡ record old { seats = new.seats; lanes = new.lanes; rested = true }
  pub many : length results ≡ script.geometry.cpus
  pub tallies : List Tally
  pub actors : length tallies ≡ actor_count script.geometry
  pub cpus : (cpu : ℕ) → cpu < script.geometry.cpus → HasLeft new cpu (IsWholeCpu script cpu (slice_index_or results cpu []) (counts_at tallies cpu))
  pub migrator : HasLeft new script.geometry.cpus (IsWholeMigrator script (counts_at tallies script.geometry.cpus))
  pub reclaimer : HasLeft new (script.geometry.cpus + 1) (λ turns. IsReclaimerRun script.geometry turns true (counts_at tallies (script.geometry.cpus + 1)))
  pub counted : tally ≡ tally_of tallies
  pub emptied : (lane : Lane) → IsEmptied lane new
  pub nobody : (a : ℕ) → script.geometry.cpus + 2 ≤ a → new.lanes a ≡ old.lanes a
