-- Turns that were played, and the lists that are read off them.
use Rattle.std.specs.Prelude.{ℕ, ◌==◌, ◌&&◌, not, Bool, true, false, List, map, filter, Option, Some, None}
use Rattle.std.specs.List.{filter_map, list_any, range_with_len}
use Rattle.nm_action.specs.declared.action.Event.{Event}
use Rattle.nm_action.specs.declared.turn.Turn.{Turn}
use Rattle.nm_action.specs.declared.turn.Turn.TheVariants.{Do, Put, Take}
use Rattle.nm_action.specs.declared.turn.Heard.{Heard}
use Rattle.nm_action.specs.declared.turn.Heard.TheVariants.{Answer, PutFull, Took}
use Rattle.nm_actor.specs.Turns.{Turns}
use Rattle.nm_schedule.specs.declared.turn.SimAct.{SimAct}
use Rattle.nm_schedule.specs.declared.turn.SimAct.TheVariants as acts
use Rattle.nm_schedule.specs.declared.turn.SimTurn.{SimTurn}
use Rattle.nm_schedule.specs.declared.turn.Played.{Played}

-- it is a turn of this actor
abbrev pub is_of : ℕ → Played → Bool
is_of actor p = p.actor == actor

-- a turn with what was heard
abbrev pub answered_turn : Played → Turn × Heard
answered_turn p = (p.turn, p.heard)

-- the answered turns of an actor in a list of turns
abbrev pub turns_by : ℕ → List Played → Turns
turns_by actor played = map answered_turn (filter (is_of actor) played)

-- after it the actor has ended
abbrev pub is_end_of : ℕ → Played → Bool
is_end_of actor p = (p.actor == actor) && p.ended

-- an actor has ended in a list of turns
abbrev pub has_ended : List Played → ℕ → Bool
has_ended played actor = list_any (is_end_of actor) played

-- the actors that have not ended, of so many, by number
abbrev pub active_actors : ℕ → List Played → List ℕ
active_actors actors played = filter (λ a. not (has_ended played a)) (range_with_len 0 actors)

-- the event of a turn, where it was an action
abbrev pub event_by : ℕ → Turn → Heard → Option Event
event_by actor (Do action) (Answer reply) = Some (record { actor = actor; action = action; reply = reply })
event_by actor _ _ = None

abbrev pub event_of : Played → Option Event
event_of p = event_by p.actor p.turn p.heard

-- the events of a list of turns
abbrev pub events_of : List Played → List Event
events_of played = filter_map event_of played

abbrev pub is_full : Heard → Bool
is_full PutFull = true
is_full _ = false

abbrev pub took_page : Heard → Option ℕ
took_page (Took page) = Some page
took_page _ = None

-- a turn as it stands in the order of a run: an action is told by the events
abbrev pub act_by : Turn → Heard → SimAct
act_by (Put lane page) heard = acts.Put lane page (is_full heard)
act_by (Take lane) heard = acts.Take lane (took_page heard)
act_by _ _ = acts.Step

abbrev pub sim_turn : Played → SimTurn
sim_turn p = record { actor = p.actor; act = act_by p.turn p.heard; ended = p.ended }

-- the order of a list of turns
abbrev pub order_of : List Played → List SimTurn
order_of played = map sim_turn played
