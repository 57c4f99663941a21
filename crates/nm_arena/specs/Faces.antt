-- An arena and its seats, as contracts see them.
use Rattle.std.specs.Prelude.{Bool, List}
use Rattle.atomic_table.specs.Seated.{TableId}
use Rattle.nm_base.specs.Geometry.{Geometry}
use Rattle.nm_action.specs.Own.{Own}
use Rattle.nm_action.specs.declared.action.Event.{Event}
use Rattle.nm_view.specs.Views.{View}
use Rattle.nm_rule.specs.declared.known.ActorSeat.{ActorSeat}

-- an arena: the geometry of its machine, and which table has its words
pub record ArenaFace : Type 0 where
  pub geometry : Geometry
  pub table : TableId

-- a seat: at which table it is, and whether it is the first; the view and the own list of its actor, of which nothing is
-- claimed at the first seat; at the first seat, by the numbers of the actors, what became of the seat of each; what the seat
-- has seen of the run
pub record SeatFace : Type 0 where
  pub table : TableId
  pub first : Bool
  pub view : View
  pub own : Own
  pub seats : List ActorSeat
  pub seen : List Event
