-- The machine: its words, the views of its actors, and one step.
use Rattle.std.specs.Prelude.{ℕ, ◌+◌, List, map, slice_index_or, slice_set}
use Rattle.std.specs.List.{range_with_len}
use Rattle.nm_base.specs.Geometry.{Geometry}
use Rattle.nm_action.specs.declared.action.Action.{Action}
use Rattle.nm_action.specs.declared.action.Reply.{Reply}
use Rattle.nm_view.specs.Views.{View}
use Rattle.nm_view.specs.Opening.{opening}
use Rattle.nm_event.specs.After.{after_of}
use Rattle.nm_words.specs.declared.names.Where.{Where}
use Rattle.nm_words.specs.declared.exchanges.Change.{Change}
use Rattle.nm_words.specs.Words.{Words, word_at, exchanged, opening_words}
use Rattle.nm_step.specs.Table.{where_of, change_of, reply_of}

-- the state of a machine: its geometry, its words, and one view for each actor
pub record State : Type 0 where
  pub geometry : Geometry
  pub words : Words
  pub views : List View

-- the state with these parts
abbrev pub state_of : Geometry → Words → List View → State
state_of g words views = record { geometry = g; words = words; views = views }

-- the view of an actor (where there is no such actor, of which nothing is claimed, the opening view)
abbrev pub view_of : State → ℕ → View
view_of s actor = slice_index_or s.views actor (opening s.geometry actor)

-- the word on which an action of an actor is an exchange
abbrev pub place_found : State → ℕ → Action → Where
place_found s actor action = where_of s.geometry (view_of s actor) action

-- what this word is before the exchange
abbrev pub word_found : State → ℕ → Action → ℕ
word_found s actor action = word_at s.geometry s.words (place_found s actor action)

-- the exchange
abbrev pub change_made : State → ℕ → Action → Change
change_made s actor action = change_of s.geometry (view_of s actor) action

-- the reply to an action by a view
abbrev pub reply_by : Geometry → Words → View → Action → Reply
reply_by g words view action = reply_of (change_of g view action) (word_at g words (where_of g view action))

-- the reply
abbrev pub reply_to : State → ℕ → Action → Reply
reply_to s actor action = reply_by s.geometry s.words (view_of s actor) action

-- the state after an action: its exchange was made, and the view of its actor changed by the reply; every other word and
-- every other view is as before
abbrev pub step : State → ℕ → Action → State
step s actor action = record {
  geometry = s.geometry;
  words = exchanged s.geometry (place_found s actor action) (change_made s actor action) s.words;
  views = slice_set s.views actor (after_of s.geometry (view_of s actor) action (reply_to s actor action));
}

-- how many actors there are: the processors, the migrator and the reclaimer
abbrev pub actor_count : Geometry → ℕ
actor_count g = g.cpus + 2

-- the state in which nothing was done
abbrev pub start : Geometry → State
start g = record {
  geometry = g;
  words = opening_words g;
  views = map (opening g) (range_with_len 0 (actor_count g));
}
