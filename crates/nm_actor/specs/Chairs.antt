-- What a chair tells: which actor's it is, what that actor did, and its lanes.
use Rattle.std.specs.Prelude.{ℕ, [], ◌∷◌, ◌++◌, Option}
use Rattle.nm_base.specs.Geometry.{Geometry}
use Rattle.nm_action.specs.declared.action.Action.{Action}
use Rattle.nm_action.specs.declared.action.Reply.{Reply}
use Rattle.nm_action.specs.declared.turn.Lane.{Lane}
use Rattle.nm_action.specs.declared.turn.Lane.TheVariants.{Candidates, Pending}
use Rattle.nm_view.specs.Views.{View}
use Rattle.nm_event.specs.After.{after_of}
use Rattle.nm_action.specs.Own.{Own}
use Rattle.nm_actor.specs.Lanes.{LaneLists, LaneState}

-- the geometry, the actor, its own list and its view; its two lanes; once the chair was given rest, the lane lists of the
-- actors that stood before, by actor; and the name of the board
pub record ChairState (N : Type 0) : Type 0 where
  pub geometry : Geometry
  pub actor : ℕ
  pub own : Own
  pub view : View
  pub candidates : LaneState
  pub pending : LaneState
  pub others : Option (ℕ → LaneLists)
  pub board : N

abbrev pub lane_of : {N : Type 0} → Lane → ChairState N → LaneState
lane_of Candidates c = c.candidates
lane_of Pending c = c.pending

abbrev pub with_lane : {N : Type 0} → Lane → LaneState → ChairState N → ChairState N
with_lane Candidates l c = record c { candidates = l }
with_lane Pending l c = record c { pending = l }

-- the chair after an action was answered so: its event is added, and nothing else changes but the view
abbrev pub stepped : {N : Type 0} → Action → Reply → ChairState N → ChairState N
stepped action reply c = record c {
  own = c.own ++ (action, reply) ∷ [];
  view = after_of c.geometry c.view action reply;
}
