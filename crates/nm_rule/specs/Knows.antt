-- What the seats of a running machine know, and what becomes of it.
use Rattle.std.specs.Prelude.{ℕ, ◌++◌, List, [], ◌∷◌, length, map, slice_index_or, slice_set, Option, Some, None, if◌then◌else◌, nat_lt}
use Rattle.std.specs.List.{range_with_len}
use Rattle.nm_base.specs.Geometry.{Geometry}
use Rattle.nm_action.specs.declared.action.Action.{Action}
use Rattle.nm_action.specs.declared.action.Event.{Event}
use Rattle.nm_action.specs.declared.action.Reply.{Reply}
use Rattle.nm_view.specs.Opening.{opening}
use Rattle.nm_event.specs.After.{after_of}
use Rattle.nm_core.specs.State.{actor_count}
use Rattle.nm_rule.specs.declared.known.Progress.{Progress}
use Rattle.nm_rule.specs.declared.known.ActorSeat.{ActorSeat}
use Rattle.nm_rule.specs.declared.known.ActorSeat.TheVariants.{Unsplit, Out, Back}
use Rattle.nm_rule.specs.declared.known.Knowledge.{Knowledge}

-- the geometry of no machine
abbrev pub no_geometry : Geometry
no_geometry = record { words = 0; tiers = []; cpus = 0; vpages = [] }

-- an actor that has made no step
abbrev pub unstarted : Geometry → ℕ → Progress
unstarted g actor = record { view = opening g actor; own = [] }

-- the event of an actor that makes an action and is answered so
abbrev pub event_made : ℕ → Action → Reply → Event
event_made actor a r = record { actor = actor; action = a; reply = r }

-- how far an actor has come after an action that was answered so
abbrev pub advanced : Geometry → Action → Reply → Progress → Progress
advanced g a r p = record { view = after_of g p.view a r; own = p.own ++ (a, r) ∷ [] }

-- what the first seat knows of the seat of an actor (where there is no such actor: that it is out)
abbrev pub seat_of : List ActorSeat → ℕ → ActorSeat
seat_of seats actor = slice_index_or seats actor Out

-- how far the first seat knows an actor to have come, by what it knows of its seat
abbrev pub progress_by : ActorSeat → Option Progress
progress_by (Unsplit p) = Some p
progress_by Out = None
progress_by (Back p) = Some p

-- the seats of all actors, none of them split off
abbrev pub unsplit_seats : Geometry → List ActorSeat
unsplit_seats g = map (λ actor. Unsplit (unstarted g actor)) (range_with_len 0 (actor_count g))

-- the first seat at first
abbrev pub first_knowledge : Geometry → Knowledge
first_knowledge g = record { mine = None; seats = unsplit_seats g; seen = [] }

-- the first seat without the seat of an actor
abbrev pub without : ℕ → Knowledge → Knowledge
without actor k = record { mine = k.mine; seats = slice_set k.seats actor Out; seen = k.seen }

-- the seat of an actor that was split off from it
abbrev pub handed : ℕ → Knowledge → Knowledge
handed actor k = record { mine = progress_by (seat_of k.seats actor); seats = []; seen = k.seen }

-- the seats with that of an actor that has come so far, if there is one
abbrev pub seats_with : Option Progress → List ActorSeat → List ActorSeat
seats_with None seats = seats
seats_with (Some p) seats = slice_set seats p.view.number (Back p)

-- of two beginnings of one list the longer
abbrev pub longer : List Event → List Event → List Event
longer xs ys = if nat_lt (length xs) (length ys) then ys else xs

-- the first seat with another seat
abbrev pub with_back : Knowledge → Knowledge → Knowledge
with_back k other = record { mine = k.mine; seats = seats_with other.mine k.seats; seen = longer k.seen other.seen }

-- a seat that was joined
abbrev pub nobody : Knowledge
nobody = record { mine = None; seats = []; seen = [] }
