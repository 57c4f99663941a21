-- A run that threads make of a script, and what is true of it.
use Rattle.std.specs.Prelude.{◌≡◌, ℕ, ◌+◌, ◌<◌, true, IsTrue, List, [], length}
use Rattle.nm_flat.specs.Memory.{own_part_of}
use Rattle.nm_action.specs.declared.action.Event.{Event}
use Rattle.nm_action.specs.declared.tally.Tally.{Tally}
use Rattle.nm_action.specs.declared.turn.Lane.{Lane}
use Rattle.nm_view.specs.Opening.{IsActor}
use Rattle.nm_core.specs.EndWords.{EndWords, IsEndOf}
use Rattle.nm_core.specs.Runs.{IsRun, accesses_of, state_after}
use Rattle.nm_core.specs.State.{actor_count}
use Rattle.nm_actor.specs.Turns.{Turns}
use Rattle.nm_script.specs.Plain.{Script}
use Rattle.nm_report.specs.declared.line_result.LineResult.{LineResult}
use Rattle.nm_report.specs.Follows.{FollowsProgram}
use Rattle.nm_report.specs.Plain.{Report}
use Rattle.nm_report.specs.Texts.{IsPrintable}
use Rattle.nm_crew.specs.Crewed.{tally_of, counts_at}
use Rattle.nm_journal_text.specs.Journals.{program_of, results_at}
use Rattle.nm_sched.specs.Parts.{IsReclaimerRun}
use Rattle.nm_settled_turns.specs.EndedParts.{IsMergeOf}
use Rattle.nm_thread_settled.specs.Emptied.{IsEmptiedLane}
use Rattle.nm_thread_run.specs.Runs.{IsWholeCpu, IsWholeMigrator}
use Rattle.nm_run_facts.specs.RunFacts.{HoldsOfEvents}

-- the events in the order in which they fell, which no memory holds; what the lines of the programs gave; the words at the end; and
-- the counts of all actors
pub record ThreadRun : Type 0 where
  pub events : List Event
  pub results : List (List LineResult)
  pub end : EndWords
  pub tally : Tally

-- the report of it
abbrev pub thread_report : Script → ThreadRun → Report
thread_report s run = record { script = s; results = run.results; end = run.end; tally = run.tally }

-- Threads made this run of a script, by these turns of each actor: the events are a run of the machine, of which the own list of each
-- actor is what its turns did; nobody else had turns; each lane was first in, first out, and nothing is left in it. Each processor
-- made its whole program, with its results; the migrator, which was resumed once, and the reclaimer made whole sequences; nothing is
-- open in their views. The tally is the sum of what they counted, and the end words are those of the state after the events.
pub record IsThreadRun (s : Script) (run : ThreadRun) : Type 0 where
  pub turns : ℕ → Turns
  pub tallies : List Tally
  pub is_run : IsRun s.geometry run.events
  pub merge : IsMergeOf turns run.events
  pub nobody : (actor : ℕ) → ¬ IsActor s.geometry actor → turns actor ≡ []
  pub lanes : (lane : Lane) → IsEmptiedLane lane turns
  pub actors : length tallies ≡ actor_count s.geometry
  pub cpus : (cpu : ℕ) → cpu < s.geometry.cpus → IsWholeCpu s cpu (results_at run.results cpu) (counts_at tallies cpu) (turns cpu)
  pub migrator : IsWholeMigrator s (counts_at tallies s.geometry.cpus) (turns s.geometry.cpus)
  pub reclaimer : IsReclaimerRun s.geometry (turns (s.geometry.cpus + 1)) true (counts_at tallies (s.geometry.cpus + 1))
  pub tally : run.tally ≡ tally_of tallies
  pub ends : IsEndOf (state_after s.geometry run.events) run.end
  pub printable : IsPrintable (thread_report s run)

-- what is true of it: the facts of every run of a script; each processor made its whole program; and the last line of the report says
-- yes
pub record HoldsOfThreads (s : Script) (run : ThreadRun) : Type 0 where
  pub facts : HoldsOfEvents s run.results run.end run.events
  pub whole : (cpu : ℕ) → cpu < s.geometry.cpus
      → FollowsProgram cpu true (program_of s cpu) (results_at run.results cpu) (own_part_of cpu (accesses_of run.events))
  pub settled : IsTrue run.end.settled
