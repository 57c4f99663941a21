-- The answered turns of an actor, and the lists that are read off them.
use Rattle.std.specs.Prelude.{◌≡◌, ℕ, List, [], ◌∷◌, ◌++◌}
use Rattle.nm_base.specs.Geometry.{Geometry}
use Rattle.nm_action.specs.declared.turn.Lane.{Lane}
use Rattle.nm_action.specs.declared.turn.Lane.TheVariants.{Candidates, Pending}
use Rattle.nm_action.specs.declared.turn.Turn.{Turn}
use Rattle.nm_action.specs.declared.turn.Turn.TheVariants.{Do, Put, Take}
use Rattle.nm_action.specs.declared.turn.Heard.{Heard}
use Rattle.nm_action.specs.declared.turn.Heard.TheVariants.{Answer, PutDone, Took, TookNone}
use Rattle.nm_action.specs.Own.{Own}
use Rattle.nm_view.specs.Views.{View}
use Rattle.nm_view.specs.Opening.{opening}
use Rattle.nm_event.specs.After.{view_after}
use Rattle.nm_actor.specs.Lanes.{LaneMove, LaneLists, put, took}

-- the turns of an actor that were answered, in order, each with what was heard: refused puts and empty takes too
abbrev pub Turns : Type 0
Turns = List (Turn × Heard)

-- what a turn adds to the own list: an action with its reply
abbrev pub own_turn : Turn → Heard → Own
own_turn (Do action) (Answer reply) = (action, reply) ∷ []
own_turn _ _ = []

-- the own list of an actor with these turns
abbrev pub own_list : Turns → Own
own_list [] = []
own_list (t ∷ turns) = own_turn t.0 t.1 ++ own_list turns

-- moves of one lane, read for a lane
abbrev pub moves_in : Lane → Lane → List LaneMove → List LaneMove
moves_in Candidates Candidates moves = moves
moves_in Pending Pending moves = moves
moves_in _ _ moves = []

-- what a turn adds to the list of a lane: a page that was put, or a page that was taken
abbrev pub lane_turn : Lane → Turn → Heard → List LaneMove
lane_turn lane (Put into page) PutDone = moves_in lane into (put page ∷ [])
lane_turn lane (Take out) (Took page) = moves_in lane out (took page ∷ [])
lane_turn lane _ _ = []

-- the list of a lane of an actor with these turns
abbrev pub lane_list : Lane → Turns → List LaneMove
lane_list lane [] = []
lane_list lane (t ∷ turns) = lane_turn lane t.0 t.1 ++ lane_list lane turns

-- both lane lists
abbrev pub lane_lists : Turns → LaneLists
lane_lists turns = record { candidates = lane_list Candidates turns; pending = lane_list Pending turns }

-- the actor's view after these turns
abbrev pub turns_view : Geometry → ℕ → Turns → View
turns_view g number turns = view_after g (opening g number) (own_list turns)

-- the last that these turns did in a lane was to find it empty: after a take that gave no page nothing was put or taken
pub record IsDrained (lane : Lane) (turns : Turns) : Type 0 where
  pub front : Turns
  pub rest : Turns
  pub is : turns ≡ front ++ (Take lane, TookNone) ∷ rest
  pub still : lane_list lane rest ≡ []
