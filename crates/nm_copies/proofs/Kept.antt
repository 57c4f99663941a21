-- Every permitted step keeps the copy law: by cases on its kind.
use Rattle.std.proofs.Common.{ℕ, Some, None}
use Rattle.nm_base.specs.Geometry.{Geometry}
use Rattle.nm_action.specs.declared.action.Action.{Action}
use Rattle.nm_action.specs.declared.action.Action.TheVariants.{Load, Store, Add, Look, Walk, Peek, Poll, Ack, Lock, Unlock, Bump, SeeAck, Raise, Soften, Arm, ClearDirty, Unmap, Map, Grant, CopyLoad, CopyStore, SetHome, SetShadow, TakeTurn, Scan, GiveFrame, PutFrame, ReleaseTurn, Mark, Read}
use Rattle.nm_world.specs.Worlds.{World, moved}
use Rattle.nm_world.specs.Sights.{sight_of}
use Rattle.nm_world.specs.CopyLaw.{CopyLaw}
use Rattle.nm_world.specs.Laws.{IsReady}
use Rattle.nm_copies.specs.Facts.{CopyFacts, HasStanding}
use Rattle.nm_copies.proofs.Quiet.{copies-load, copies-look, copies-peek, copies-poll, copies-ack, copies-bump, copies-raise, copies-take_turn, copies-release_turn, copies-scan, copies-mark, copies-read}
use Rattle.nm_copies.proofs.Flags.{copies-soften, copies-arm, copies-walk}
use Rattle.nm_copies.proofs.Frames.{copies-give, copies-put, copies-shade}
use Rattle.nm_copies.proofs.Holders.{copies-lock, copies-unlock}
use Rattle.nm_copies.proofs.Table.{copies-clear_dirty, copies-unmap}
use Rattle.nm_copies.proofs.Mapping.{copies-map, copies-grant}
use Rattle.nm_copies.proofs.Seeing.{copies-see}
use Rattle.nm_copies.proofs.Copying.{copies-copy_load}
use Rattle.nm_copies.proofs.Storing.{copies-copy_store}
use Rattle.nm_copies.proofs.Memory.{copies-store, copies-add}
use Rattle.nm_copies.proofs.Homing.{copies-set_home}
use Rattle.nm_copies.proofs.Unshading.{copies-unshade}

pub copies-kept : (g : Geometry) (m : World) (a : ℕ) (action : Action) → CopyFacts g (sight_of g m) → HasStanding g (sight_of g (moved g m a action)) → IsReady g m a action → CopyLaw g (sight_of g m) → CopyLaw g (sight_of g (moved g m a action))
copies-kept g m a (Load v i) facts after r h = copies-load g m a v i h
copies-kept g m a (Store v i x) facts after r h = copies-store g m a v i x facts.homes facts.roles r h
copies-kept g m a (Add v i x) facts after r h = copies-add g m a v i x facts.homes facts.roles r h
copies-kept g m a (Look v) facts after r h = copies-look g m a v h
copies-kept g m a (Walk v e write) facts after r h = copies-walk g m a v e write r h
copies-kept g m a (Peek v) facts after r h = copies-peek g m a v h
copies-kept g m a Poll facts after r h = copies-poll g m a h
copies-kept g m a (Ack to) facts after r h = copies-ack g m a to r h
copies-kept g m a (Lock b) facts after r h = copies-lock g m a b r h
copies-kept g m a (Unlock b) facts after r h = copies-unlock g m a b r h
copies-kept g m a Bump facts after r h = copies-bump g m a facts.processors h
copies-kept g m a (SeeAck p) facts after r h = copies-see g m a p after h
copies-kept g m a (Raise v) facts after r h = copies-raise g m a v h
copies-kept g m a (Soften v bit) facts after r h = copies-soften g m a v bit h
copies-kept g m a (Arm v) facts after r h = copies-arm g m a v r h
copies-kept g m a (ClearDirty v) facts after r h = copies-clear_dirty g m a v facts.holders r h
copies-kept g m a (Unmap v) facts after r h = copies-unmap g m a v facts.holders facts.stages r h
copies-kept g m a (Map v word) facts after r h = copies-map g m a v word facts.holders r h
copies-kept g m a (Grant v) facts after r h = copies-grant g m a v facts.holders r h
copies-kept g m a (CopyLoad b i) facts after r h = copies-copy_load g m a b i facts.holders facts.informed facts.standing r h
copies-kept g m a (CopyStore b f i x) facts after r h = copies-copy_store g m a b f i x facts.holders facts.roles r h
copies-kept g m a (SetHome b f) facts after r h = copies-set_home g m a b f facts r h
copies-kept g m a (SetShadow b k None) facts after r h = copies-unshade g m a b k facts.holders facts.informed facts.shadowed r h
copies-kept g m a (SetShadow b k (Some s)) facts after r h = copies-shade g m a b k s r h
copies-kept g m a (TakeTurn t) facts after r h = copies-take_turn g m a t h
copies-kept g m a (Scan t k) facts after r h = copies-scan g m a t k h
copies-kept g m a (GiveFrame f) facts after r h = copies-give g m a f h
copies-kept g m a (PutFrame f) facts after r h = copies-put g m a f r h
copies-kept g m a (ReleaseTurn t) facts after r h = copies-release_turn g m a t h
copies-kept g m a (Mark b old new) facts after r h = copies-mark g m a b old new h
copies-kept g m a (Read b cell) facts after r h = copies-read g m a b cell h
