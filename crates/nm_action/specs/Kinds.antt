-- The kind of an action.
use Rattle.nm_action.specs.declared.action.Action.{Action}
use Rattle.nm_action.specs.declared.kind.ActionKind.{ActionKind}
use Rattle.nm_action.specs.declared.action.Action.TheVariants.{Load, Store, Add, Look, Walk, Peek, Poll, Ack, Lock, Unlock, Bump, SeeAck, Raise, Soften, Arm, ClearDirty, Unmap, Map, Grant, CopyLoad, CopyStore, SetHome, SetShadow, TakeTurn, Scan, GiveFrame, PutFrame, ReleaseTurn, Mark, Read}
use Rattle.nm_action.specs.declared.kind.ActionKind.TheVariants as kinds

-- an action without its fields
abbrev pub kind_of : Action → ActionKind
kind_of (Load _ _) = kinds.Load
kind_of (Store _ _ _) = kinds.Store
kind_of (Add _ _ _) = kinds.Add
kind_of (Look _) = kinds.Look
kind_of (Walk _ _ _) = kinds.Walk
kind_of (Peek _) = kinds.Peek
kind_of Poll = kinds.Poll
kind_of (Ack _) = kinds.Ack
kind_of (Lock _) = kinds.Lock
kind_of (Unlock _) = kinds.Unlock
kind_of Bump = kinds.Bump
kind_of (SeeAck _) = kinds.SeeAck
kind_of (Raise _) = kinds.Raise
kind_of (Soften _ _) = kinds.Soften
kind_of (Arm _) = kinds.Arm
kind_of (ClearDirty _) = kinds.ClearDirty
kind_of (Unmap _) = kinds.Unmap
kind_of (Map _ _) = kinds.Map
kind_of (Grant _) = kinds.Grant
kind_of (CopyLoad _ _) = kinds.CopyLoad
kind_of (CopyStore _ _ _ _) = kinds.CopyStore
kind_of (SetHome _ _) = kinds.SetHome
kind_of (SetShadow _ _ _) = kinds.SetShadow
kind_of (TakeTurn _) = kinds.TakeTurn
kind_of (Scan _ _) = kinds.Scan
kind_of (GiveFrame _) = kinds.GiveFrame
kind_of (PutFrame _) = kinds.PutFrame
kind_of (ReleaseTurn _) = kinds.ReleaseTurn
kind_of (Mark _ _ _) = kinds.Mark
kind_of (Read _ _) = kinds.Read
