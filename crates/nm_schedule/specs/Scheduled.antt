-- Which lists of turns are those of a schedule.
use Rattle.std.specs.Prelude.{◌≡◌, ◌<◌, ◌⊎◌, false, List, [], ◌∷◌, ◌++◌, length}
use Rattle.nm_base.specs.Geometry.{Geometry}
use Rattle.nm_core.specs.State.{actor_count}
use Rattle.nm_view.specs.Opening.{IsActor}
use Rattle.nm_script.specs.declared.schedule.Schedule.{Schedule}
use Rattle.nm_schedule.specs.declared.turn.Played.{Played}
use Rattle.nm_schedule.specs.Played.{active_actors, has_ended}
use Rattle.nm_schedule.specs.Lanes.{IsLaneAnswer}
use Rattle.nm_schedule.specs.Picks.{Picks, most_turns}

-- a turn of a schedule after the turns before it: there are turns left, its actor exists, has not ended and is the one that
-- the schedule picks, and a put or a take is answered by the lanes
pub record IsTurnAfter (g : Geometry) (schedule : Schedule) (before : List Played) (p : Played) : Type 0 where
  pub early : length before < most_turns schedule
  pub exists : IsActor g p.actor
  pub active : has_ended before p.actor ≡ false
  pub picked : Picks schedule (actor_count g) before p.actor
  pub lanes : IsLaneAnswer g before p.turn p.heard

-- each of the further turns after those before it
abbrev pub AreTurns : Geometry → Schedule → List Played → List Played → Type 0
AreTurns g schedule before [] = Unit {0}
AreTurns g schedule before (p ∷ played) = IsTurnAfter g schedule before p × AreTurns g schedule (before ++ p ∷ []) played

-- a list of turns is that of a schedule: each turn is, and the list ends exactly where every actor has ended or all turns
-- were made
pub record IsScheduled (g : Geometry) (schedule : Schedule) (played : List Played) : Type 0 where
  pub turns : AreTurns g schedule [] played
  pub stops : (active_actors (actor_count g) played ≡ []) ⊎ (length played ≡ most_turns schedule)
