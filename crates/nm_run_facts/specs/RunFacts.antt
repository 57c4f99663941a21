-- What is true of a run of a script.
use Rattle.std.specs.Prelude.{◌≡◌, ◌↔◌, ℕ, ◌<◌, Bool, IsTrue, List, ◌++◌, length, All}
use Rattle.nm_flat.specs.Memory.{IsLegal, own_part_of}
use Rattle.nm_action.specs.declared.action.Event.{Event}
use Rattle.nm_core.specs.EndWords.{EndWords}
use Rattle.nm_core.specs.Runs.{accesses_of, state_after}
use Rattle.nm_core.specs.Roles.{IsSettled}
use Rattle.nm_script.specs.Plain.{Script}
use Rattle.nm_report.specs.declared.line_result.LineResult.{LineResult}
use Rattle.nm_report.specs.Follows.{FollowsProgram}
use Rattle.nm_world.specs.Sights.{sight_of}
use Rattle.nm_world.specs.Seen.{world_of}
use Rattle.nm_transactions.specs.TransactionLaw.{ObeyTransactionLaw}
use Rattle.nm_laws.specs.Facts.{AreTrueShadows, ArePartition, AreHeldAsSeen}
use Rattle.nm_crew.specs.Simulated.{IsTierCounted}
use Rattle.nm_journal_text.specs.Journals.{program_of, results_at, IsJournalThatHolds}

-- processor cpu made its program, as far as these results go, and all of it where it ended: its accesses among the events, each
-- once and in order, follow the program with the results
pub record HasFollowed (s : Script) (results : List (List LineResult)) (events : List Event) (cpu : ℕ) : Type 0 where
  pub ended : Bool
  pub follows : FollowsProgram cpu ended (program_of s cpu) (results_at results cpu) (own_part_of cpu (accesses_of events))

-- what holds at each step of a run, with the events up to there
pub record HoldsAtStep (s : Script) (front : List Event) : Type 0 where
  -- each shadow equals its master, word by word, and no table word of the page is writable
  pub shadows : AreTrueShadows s.geometry (sight_of s.geometry (world_of (state_after s.geometry front)))
  -- each frame has one role: it is free, mapped, a shadow, or held
  pub roles : ArePartition s.geometry (state_after s.geometry front)
  -- each lock, and each turn, is held by exactly the actor whose view says so
  pub held : AreHeldAsSeen (world_of (state_after s.geometry front))

-- what is true of a run of a script, of what its lines gave, and of the words at its end
pub record HoldsOfEvents (s : Script) (results : List (List LineResult)) (end : EndWords) (events : List Event) : Type 0 where
  -- the printed accesses are each processor's own, once and in order
  pub own : (cpu : ℕ) → cpu < s.geometry.cpus → HasFollowed s results events cpu
  -- there are no others
  pub others : All (λ a. a.cpu < s.geometry.cpus) (accesses_of events)
  -- together they are one legal history of a flat memory
  pub legal : IsLegal s.geometry (accesses_of events)
  -- each transaction commits exactly where no dirty walk lay between clearing and unmapping, else the old mapping returns
  pub transactions : ObeyTransactionLaw s.geometry events
  pub steps : (front rest : List Event) → events ≡ front ++ rest → HoldsAtStep s front
  -- the printed roles are counts of four tests over the frames at the end, and sum to the frames of the tier
  pub tiers : (tier : ℕ) → tier < length s.geometry.tiers → IsTierCounted (state_after s.geometry events) end tier
  -- the last line says yes exactly where the end is settled
  pub settled : IsTrue end.settled ↔ IsSettled (state_after s.geometry events)

-- a journal holds, and the facts are true of the run that it tells of
pub record HoldsOfJournal (bytes : List ℕ) : Type 0 where
  pub journal : IsJournalThatHolds bytes
  pub facts : HoldsOfEvents journal.script journal.holds.results journal.holds.end journal.holds.events
