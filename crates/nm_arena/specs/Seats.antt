-- The seats of an arena, and what is done with them.
use Rattle.std.specs.Prelude.{◌≡◌, ℕ, true, false, List, [], length, slice_set}
use Rattle.nm_action.specs.declared.action.Event.{Event}
use Rattle.nm_view.specs.Opening.{opening}
use Rattle.nm_shape.specs.Shape.{HasShape}
use Rattle.nm_core.specs.State.{actor_count}
use Rattle.nm_rule.specs.declared.known.Progress.{Progress}
use Rattle.nm_rule.specs.declared.known.ActorSeat.{ActorSeat}
use Rattle.nm_rule.specs.declared.known.ActorSeat.TheVariants.{Unsplit, Out, Back}
use Rattle.nm_rule.specs.Knows.{unstarted, seat_of, longer}
use Rattle.nm_arena.specs.Faces.{ArenaFace, SeatFace}

-- the seat of an actor of this arena
pub record IsActorSeat (a : ArenaFace) (s : SeatFace) : Type 0 where
  pub table : s.table ≡ a.table
  pub first : s.first ≡ false
  pub shape : HasShape a.geometry s.view

-- the first seat of this arena: it names every actor, and one whose seat was not split off has made no step
pub record IsFirstSeat (a : ArenaFace) (s : SeatFace) : Type 0 where
  pub table : s.table ≡ a.table
  pub first : s.first ≡ true
  pub count : length s.seats ≡ actor_count a.geometry
  pub unsplit : (actor : ℕ) (p : Progress) → seat_of s.seats actor ≡ Unsplit p → p ≡ unstarted a.geometry actor

-- how far the actor of a seat has come
abbrev pub progress_at : SeatFace → Progress
progress_at s = record { view = s.view; own = s.own }

-- the seat of an actor was not split off yet
abbrev pub IsUnsplit : ActorSeat → Type 0
IsUnsplit (Unsplit p) = Unit {0}
IsUnsplit Out = ⊥
IsUnsplit (Back p) = ⊥

-- the seat of an actor was split off, and was not joined back
abbrev pub IsSplitOut : ActorSeat → Type 0
IsSplitOut (Unsplit p) = ⊥
IsSplitOut Out = Unit {0}
IsSplitOut (Back p) = ⊥

-- the seat of an actor that has made no step
abbrev pub opening_seat : ArenaFace → ℕ → List Event → SeatFace
opening_seat a actor seen = record { table = a.table; first = false; view = opening a.geometry actor; own = []; seats = []; seen = seen }

-- the first seat without the seat of an actor
abbrev pub without_seat : ℕ → SeatFace → SeatFace
without_seat actor s = record s { seats = slice_set s.seats actor Out }

-- the first seat with the seat of an actor
abbrev pub with_seat : SeatFace → SeatFace → SeatFace
with_seat other s = record s { seats = slice_set s.seats other.view.number (Back (progress_at other)); seen = longer s.seen other.seen }
