-- What the commands write, and what is true of the run that they tell of.
use Rattle.std.specs.Prelude.{◌≡◌, ℕ, IsTrue, List}
use Rattle.nm_script.specs.Plain.{Script}
use Rattle.nm_report.specs.Texts.{report_text}
use Rattle.nm_report.specs.Summary.{summary_text}
use Rattle.nm_gen.specs.Generated.{generated}
use Rattle.nm_schedule.specs.Picks.{most_turns}
use Rattle.nm_sched.specs.Plain.{SimRun}
use Rattle.nm_sched.specs.Runs.{IsRunOfScript, report_of}
use Rattle.nm_journal_text.specs.Journals.{IsJournalThatHolds}
use Rattle.nm_sim_journal.specs.SimJournals.{journal_of}
use Rattle.nm_settled_run.specs.AllEnded.{HaveAllEnded}
use Rattle.nm_run_facts.specs.RunFacts.{HoldsOfEvents}
use Rattle.nm_thread_facts.specs.ThreadRuns.{ThreadRun, IsThreadRun, HoldsOfThreads, thread_report}

-- ---- runs of a schedule

-- what is true of a run of a script in the order of its schedule
pub record HoldsOfSimulation (s : Script) (run : SimRun) : Type 0 where
  -- its accesses, its transactions, each of its steps and its end are as those of every run of the script
  pub facts : HoldsOfEvents s run.results run.end run.events
  -- the last line says yes where every actor has ended
  pub ended : HaveAllEnded s.geometry run.order → IsTrue run.end.settled
  -- it says no only after all turns of the schedule
  pub all_turns : ¬ IsTrue run.end.settled → run.turns ≡ most_turns s.schedule

-- The run of a script as its schedule and the actors say, what is true of it, and a text that tells of it in this way.
pub record TellsOfRun (s : Script) (told : SimRun → List ℕ) (text : List ℕ) : Type 0 where
  pub run : SimRun
  pub scheduled : IsRunOfScript s run
  -- a script has one run
  pub only : (other : SimRun) → IsRunOfScript s other → other ≡ run
  pub holds : HoldsOfSimulation s run
  pub printed : text ≡ told run

-- the text is the report of the run of the script
abbrev pub IsReportOf : Script → List ℕ → Type 0
IsReportOf s text = TellsOfRun s (λ run. report_text (report_of s run)) text

-- the text is the summary of the run of the script of n with this many lines
abbrev pub IsSummary : ℕ → ℕ → List ℕ → Type 0
IsSummary n size text = TellsOfRun (generated n size) (λ run. summary_text n size (report_of (generated n size) run)) text

-- the text is the journal of the run of the script, and holds
pub record IsJournalOf (s : Script) (text : List ℕ) : Type 0 where
  pub tells : TellsOfRun s (journal_of s) text
  pub holds : IsJournalThatHolds text

-- ---- runs of threads

-- A run that threads made of a script, what is true of it, and its report. A script has many such runs.
pub record TellsOfThreads (s : Script) (text : List ℕ) : Type 0 where
  pub run : ThreadRun
  pub made : IsThreadRun s run
  pub holds : HoldsOfThreads s run
  pub printed : text ≡ report_text (thread_report s run)

abbrev pub IsThreadReportOf : Script → List ℕ → Type 0
IsThreadReportOf = TellsOfThreads
