-- The end of a running machine.
use Rattle.std.specs.Prelude.{List, map}
use mathlib.Core.List.{IsPrefix}
use Rattle.nm_base.specs.Geometry.{Geometry}
use Rattle.nm_action.specs.Own.{Own, IsMerge}
use Rattle.nm_action.specs.declared.action.Event.{Event}
use Rattle.nm_core.specs.EndWords.{EndWords, IsEndOf}
use Rattle.nm_core.specs.Runs.{IsRun, state_after}
use Rattle.nm_rule.specs.declared.known.ActorSeat.{ActorSeat}
use Rattle.nm_rule.specs.Knows.{progress_by}
use Rattle.nm_arena.specs.Faces.{SeatFace}
use Rattle.nm_arena.specs.Mirrors.{own_by}

-- the own list of each actor that the first seat holds
abbrev pub own_lists : List ActorSeat → List Own
own_lists seats = map (λ seat. own_by (progress_by seat)) seats

-- the end words are those of the state after a run that merges the own lists which the first seat holds, and of which it has
-- seen a beginning
pub record IsEndOfRun (g : Geometry) (s : SeatFace) (end : EndWords) : Type 0 where
  pub run : List Event
  pub is_run : IsRun g run
  pub merge : IsMerge (own_lists s.seats) run
  pub seen : IsPrefix s.seen run
  pub words : IsEndOf (state_after g run) end
