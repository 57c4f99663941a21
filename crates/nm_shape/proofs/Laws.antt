-- The laws of a view's numbers: a step keeps them in range and no number twice, so that the view always has room.
use Rattle.std.proofs.Common.{◌≡◌, ℕ, refl, sym, subst, arith, None}
use Rattle.nm_base.specs.Geometry.{Geometry, IsGeometry}
use Rattle.nm_base.specs.Inside.{IsGeometryKept, plain_of}
use Rattle.nm_base.specs.declared.geometry.Geometry.TheInside.{Inside}
use Rattle.nm_action.specs.declared.action.Reply.{Reply}
use Rattle.nm_action.specs.declared.action.Reply.TheVariants.{Done, Word, Busy, Lost}
use Rattle.nm_action.specs.declared.action.Action.{Action}
use Rattle.nm_view.specs.Views.{View}
use Rattle.nm_view.specs.Opening.{opening, IsActor}
use Rattle.nm_base.specs.Ranges.{IsVPage}
use Rattle.nm_permit.specs.Permitted.{Allowed}
use Rattle.nm_event.specs.After.{after_of}
use Rattle.nm_event.specs.Fitting.{Fits}
use Rattle.nm_event.specs.Room.{IsWithinRoom, HasRoom}
use Rattle.nm_shape.specs.Keyed.{IsEntryInRange, IsOpKeyed, IsOwnedInRange, IsKeyed}
use Rattle.nm_event.specs.Ranged.{IsInRangeReply}
use Rattle.nm_view.proofs.Items.{none_left}
use Rattle.nm_shape.proofs.Done.{no_turn, keyed_done}
use Rattle.nm_shape.proofs.Told.{keyed_told}
use Rattle.nm_shape.proofs.Still.{busy_still, lost_still}
use Rattle.nm_shape.proofs.Room.{within_room, numbers_fit, rooms_of}
use Rattle.nm_shape.proofs.Fits.{in_range}

-- the opening view of an actor
pub keyed_opening : (g : Geometry) (number : ℕ) → IsActor g number → IsKeyed g (opening g number)
keyed_opening g number is = record {
  actor = is;
  few = omega arith;
  ops_once = tt;
  ops = none_left (IsOpKeyed g);
  cache_once = tt;
  cache = none_left (IsEntryInRange g);
  peeked_once = tt;
  peeked = none_left (λ p. IsVPage g p.vpage);
  owned_once = tt;
  owned = none_left (IsOwnedInRange g);
  turn = tt;
  scan = no_turn g None;
  bumps = omega arith;
  raises = omega arith;
  room = refl;
}

-- a permitted action with a reply in range keeps the numbers of the view in range, and no number twice in a list
pub keyed_after : (g : Geometry) (view : View) (action : Action) (reply : Reply) → IsGeometry g → IsKeyed g view → Allowed g view action → IsInRangeReply g action reply → IsKeyed g (after_of g view action reply)
keyed_after g view action Done is k a r = keyed_done g view action is k a r
keyed_after g view action (Word n) is k a r = keyed_told g view action n is k a r
keyed_after g view action (Busy n) is k a r = let P : View → Type 0 = λ v. IsKeyed g v in subst P (sym (busy_still g view action n)) k
keyed_after g view action (Lost n) is k a r = let P : View → Type 0 = λ v. IsKeyed g v in subst P (sym (lost_still g view action n)) k

-- such a view is within its room: numbers below n that are all different are at most n
pub keyed_within : (g : Geometry) (view : View) → IsGeometry g → IsKeyed g view → IsWithinRoom view
keyed_within g view is k = within_room g view is k

-- so it has room for each step
pub keyed_room : (g : Geometry) (view : View) (action : Action) (reply : Reply) → IsGeometry g → IsKeyed g view → Allowed g view action → IsInRangeReply g action reply → HasRoom g view action reply
keyed_room g view action reply is k a r = record {
  own = rooms_of g view k;
  after = within_room g (after_of g view action reply) is (keyed_after g view action reply is k a r);
  numbers = numbers_fit g view action reply is k a r;
}

-- a reply that fits is in range
pub fits_in_range : (g : Geometry) (view : View) (action : Action) (reply : Reply) → IsGeometry g → IsKeyed g view → Allowed g view action → Fits g view action reply → IsInRangeReply g action reply
fits_in_range g view action reply is k a f = in_range g view action reply is k a f

-- a geometry is one that a machine can have
pub kept_geometry : (i : Inside) (g : Geometry) → plain_of i ≡ g → IsGeometryKept i → IsGeometry g
kept_geometry i g e h = let P : Geometry → Type 0 = λ x. IsGeometry x in subst P e h.geometry
