-- What is said of the turns of a simulation, of their events, and of the machine at the end, whoever the actors are.
use Rattle.std.specs.Prelude.{◌≡◌, ℕ, ◌<◌, List, ◌++◌, length}
use Rattle.nm_base.specs.Geometry.{Geometry}
use Rattle.nm_action.specs.declared.action.Event.{Event}
use Rattle.nm_core.specs.State.{State}
use Rattle.nm_core.specs.Runs.{IsRun, state_after}
use Rattle.nm_core.specs.EndWords.{EndWords, HasEndRoom, IsEndOf}
use Rattle.nm_script.specs.declared.schedule.Schedule.{Schedule}
use Rattle.nm_schedule.specs.declared.turn.Played.{Played}
use Rattle.nm_schedule.specs.declared.turn.SimTurn.{SimTurn}
use Rattle.nm_schedule.specs.Played.{events_of, order_of}
use Rattle.nm_schedule.specs.Scheduled.{IsScheduled}
use Rattle.nm_report.specs.Ends.{NamesInRange, SumTo, tier_frames, tier_roles}
use Rattle.nm_report.specs.Filters.{CountsFilters}
use Rattle.nm_laws.specs.Facts.{HoldsOfRun}

-- the four counts of a tier's line are those of the four tests over the tier's frames, and their sum is all of its frames
pub record IsTierCounted (s : State) (end : EndWords) (tier : ℕ) : Type 0 where
  pub tests : CountsFilters s end tier
  pub sum : SumTo (tier_roles s.geometry end.roles tier) (tier_frames s.geometry tier)

-- these turns are those of the schedule on the machine, and the events, the order and how many turns there are are theirs; the
-- events are a run of the machine, and the five facts hold at each front of it: the accesses are those of a flat memory, the
-- transactions obey their law, shadows are true, the roles of frames are a partition, and locks and turns are held as views
-- say; the end words are those of the state after the events, name what there is, and count the frames of each tier
pub record IsSimulated (g : Geometry) (schedule : Schedule) (events : List Event) (order : List SimTurn) (turns : ℕ) (end : EndWords) (played : List Played) : Type 0 where
  pub scheduled : IsScheduled g schedule played
  pub listed : events ≡ events_of played
  pub ordered : order ≡ order_of played
  pub many : turns ≡ length played
  pub run : IsRun g events
  pub facts : (front rest : List Event) → events ≡ front ++ rest → HoldsOfRun g front
  pub ends : IsEndOf (state_after g events) end
  pub room : HasEndRoom g end
  pub names : NamesInRange g end
  pub tiers : (tier : ℕ) → tier < length g.tiers → IsTierCounted (state_after g events) end tier
