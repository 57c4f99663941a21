-- A machine that has no page, no tier and no processor: all that its two actors can do is to bump.
use Rattle.std.specs.Prelude.{ℕ, zero, suc, Bool, true, false, [], ◌∷◌, ◌++◌, Option, Some, None}
use Rattle.nm_base.specs.Geometry.{Geometry}
use Rattle.nm_action.specs.declared.action.Action.TheVariants.{Bump}
use Rattle.nm_action.specs.declared.action.Reply.TheVariants.{Word}
use Rattle.nm_action.specs.Own.{Own}
use Rattle.nm_view.specs.Opening.{opening}
use Rattle.nm_actor.specs.Lanes.{LaneLists, LaneState, Held}
use Rattle.nm_actor.specs.Chairs.{ChairState}
use Rattle.nm_actor.specs.Boards.{BoardState, Seat, not_sat, sitting, stood}

abbrev pub lone_geometry : Geometry
lone_geometry = record { words = 1; tiers = []; cpus = 0; vpages = [] }

-- so many bumps
abbrev pub bumps_to : ℕ → Own
bumps_to zero = []
bumps_to (suc n) = bumps_to n ++ (Bump, Word n) ∷ []

-- what a lane holds that has no room, once that is told
abbrev pub nothing_held : Bool → Option Held
nothing_held false = None
nothing_held true = Some (record { capacity = 0; pages = [] })

-- a lane that has no room, and so holds nothing
abbrev pub lone_lane : Bool → ℕ → ℕ → LaneState
lone_lane rested fulls empties = record { moves = []; fulls = fulls; empties = empties; held = nothing_held rested }

-- nobody has put or taken a page
abbrev pub no_lanes : ℕ → LaneLists
no_lanes actor = record { candidates = []; pending = [] }

-- what the chair tells of the others, once it was given rest
abbrev pub lone_others : Bool → Option (ℕ → LaneLists)
lone_others false = None
lone_others true = Some no_lanes

-- the chair of an actor that has bumped so often
abbrev pub lone_state : ℕ → ℕ → Bool → LaneState → LaneState → ChairState ℕ
lone_state actor n rested candidates pending = record {
  geometry = lone_geometry;
  actor = actor;
  own = bumps_to n;
  view = record (opening lone_geometry actor) { bumps = n };
  candidates = candidates;
  pending = pending;
  others = lone_others rested;
  board = 0;
}

-- the seat of an actor that has sat or not, and that has stood after so many bumps or not
abbrev pub lone_seat : Bool → Option ℕ → Seat
lone_seat false _ = not_sat
lone_seat true None = sitting
lone_seat true (Some n) = stood (bumps_to n)

-- the seats of two actors
abbrev pub lone_seats : Seat → Seat → ℕ → Seat
lone_seats first second zero = first
lone_seats first second (suc zero) = second
lone_seats first second (suc (suc _)) = not_sat

abbrev pub lone_board : (ℕ → Seat) → Bool → BoardState ℕ
lone_board seats rested = record { name = 0; geometry = lone_geometry; candidates = 0; pending = 0; seats = seats; lanes = no_lanes; rested = rested }
