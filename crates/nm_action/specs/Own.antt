-- The own list of an actor, or of a part of its work: its actions with their replies, in order; and merges of own lists.
use Rattle.std.specs.Prelude.{◌≡◌, ℕ, ◌==◌, if◌then◌else◌, List, [], ◌∷◌, slice_index_or}
use Rattle.nm_action.specs.declared.action.Action.{Action}
use Rattle.nm_action.specs.declared.action.Reply.{Reply}
use Rattle.nm_action.specs.declared.action.Event.{Event}

abbrev pub Own : Type 0
Own = List (Action × Reply)

-- the own list of an actor in a list of events
abbrev pub own_of : ℕ → List Event → Own
own_of actor [] = []
own_of actor (e ∷ events) = if e.actor == actor then (e.action, e.reply) ∷ own_of actor events else own_of actor events

-- a list of events is a merge of own lists, one for each actor by its number: the own list of each actor is the one
-- given, and there are no other events
abbrev pub IsMerge : List Own → List Event → Type 0
IsMerge lists events = (actor : ℕ) → own_of actor events ≡ slice_index_or lists actor []
