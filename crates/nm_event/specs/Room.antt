-- When a view can hold what a step makes of it.
use Rattle.std.specs.Prelude.{◌≡◌, ℕ, ◌+◌, ◌<◌, ◌≤◌, ◌^◌, count_ones, length, All, IfSome, IsTrue}
use Rattle.nm_base.specs.Geometry.{Geometry}
use Rattle.nm_action.specs.declared.action.Reply.{Reply}
use Rattle.nm_action.specs.declared.action.Reply.TheVariants.{Done, Word}
use Rattle.nm_action.specs.declared.action.Action.{Action}
use Rattle.nm_action.specs.declared.action.Action.TheVariants.{Bump, Raise, SetHome, Scan}
use Rattle.nm_view.specs.Views.{Op, View}
use Rattle.nm_view.specs.Operations.{op_on, known_home}
use Rattle.nm_event.specs.After.{after_of}

-- the lists of an operation are within its room, which is the view's, and its numbers fit their fields
pub record IsOpWithin (vpages : ℕ) (o : Op) : Type 0 where
  pub looked : length o.looked ≤ vpages
  pub taken : length o.taken ≤ vpages
  pub wet : length o.wet ≤ vpages
  pub raised : length o.raised ≤ vpages
  pub room : o.room ≡ vpages
  pub copied : o.copied < 2 ^ 32
  pub shadow : IfSome o.shadow (λ word. word < 2 ^ 64)

-- the lists of a view are within their room
pub record IsWithinRoom (view : View) : Type 0 where
  pub cache : length view.cache ≤ view.room.vpages
  pub peeked : length view.peeked ≤ view.room.vpages
  pub owned : length view.owned ≤ view.room.frames
  pub ops : All (IsOpWithin view.room.aliases) view.ops

-- the numbers that a step makes fit their fields: the number of a bump where an operation is due, the number of a raise, the
-- frame of the old home, and the frames found by a scan
abbrev pub NumbersFit : View → Action → Reply → Type 0
NumbersFit view Bump (Word n) = All (λ o. IsTrue o.due → n + 1 < 2 ^ 64) view.ops
NumbersFit view (Raise _) (Word n) = n + 1 < 2 ^ 64
NumbersFit view (SetHome b _) Done = IfSome (known_home (op_on view b)) (λ h. h ≤ 2 ^ 32)
NumbersFit view (Scan _ _) (Word n) = view.scan.sum + count_ones n < 2 ^ 32
NumbersFit view _ _ = Unit {0}

-- the view has room for a step: each operation has the room of the view, the lists are within their room after the step,
-- and its numbers fit their fields
pub record HasRoom (g : Geometry) (view : View) (action : Action) (reply : Reply) : Type 0 where
  pub own : All (λ o. o.room ≡ view.room.aliases) view.ops
  pub after : IsWithinRoom (after_of g view action reply)
  pub numbers : NumbersFit view action reply
