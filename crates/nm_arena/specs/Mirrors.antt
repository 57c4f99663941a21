-- What a seat has beside what it knows.
use Rattle.std.specs.Prelude.{◌≡◌, true, false, List, [], map, Option, Some, None}
use Rattle.atomic_table.specs.Seated.{TableId}
use Rattle.nm_action.specs.Own.{Own}
use Rattle.nm_view.specs.Views.{View}
use Rattle.nm_view.specs.Opening.{opening}
use Rattle.nm_rule.specs.declared.known.Progress.{Progress}
use Rattle.nm_rule.specs.declared.known.ActorSeat.{ActorSeat}
use Rattle.nm_rule.specs.declared.known.ActorSeat.TheVariants.{Unsplit, Out, Back}
use Rattle.nm_rule.specs.declared.known.Knowledge.{Knowledge}
use Rattle.nm_rule.specs.Knows.{no_geometry}
use Rattle.nm_arena.specs.declared.seat.Held.{Held}
use Rattle.nm_arena.specs.declared.seat.Held.TheVariants.{Actor, First}
use Rattle.nm_arena.specs.Faces.{SeatFace}

-- the own list of an actor that has come so far, if there is one
abbrev pub own_by : Option Progress → Own
own_by None = []
own_by (Some p) = p.own

-- a seat with what it knows
abbrev pub seat_face : Held → TableId → Knowledge → SeatFace
seat_face (Actor v) table k = record { table = table; first = false; view = v; own = own_by k.mine; seats = []; seen = k.seen }
seat_face (First views) table k = record { table = table; first = true; view = opening no_geometry 0; own = []; seats = k.seats; seen = k.seen }

-- the view of an actor whose seat is not out
abbrev pub view_in : ActorSeat → Option View
view_in (Unsplit p) = Some p.view
view_in Out = None
view_in (Back p) = Some p.view

-- the view is that of the seat's actor
pub record IsActorView (v : View) (k : Knowledge) : Type 0 where
  pub mine : k.mine ≡ Some (record { view = v; own = own_by k.mine })
  pub seats : k.seats ≡ []

-- the views are those of the actors whose seats are not out
pub record AreViews (list : List (Option View)) (k : Knowledge) : Type 0 where
  pub mine : k.mine ≡ None
  pub views : list ≡ map view_in k.seats

-- what a seat has is what it knows
abbrev pub Mirrors : Held → Knowledge → Type 0
Mirrors (Actor v) k = IsActorView v k
Mirrors (First views) k = AreViews views.items k
