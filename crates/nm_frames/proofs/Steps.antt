-- That each permitted step keeps the frame law, and the shadow law: kind by kind.
use Rattle.std.proofs.Common.{ℕ}
use Rattle.nm_base.specs.Geometry.{Geometry}
use Rattle.nm_action.specs.declared.action.Action.{Action}
use Rattle.nm_action.specs.declared.action.Action.TheVariants.{Load, Store, Add, Look, Walk, Peek, Poll, Ack, Lock, Unlock, Bump, SeeAck, Raise, Soften, Arm, ClearDirty, Unmap, Map, Grant, CopyLoad, CopyStore, SetHome, SetShadow, TakeTurn, Scan, GiveFrame, PutFrame, ReleaseTurn, Mark, Read}
use Rattle.nm_world.specs.Worlds.{World, moved}
use Rattle.nm_world.specs.Sights.{sight_of}
use Rattle.nm_world.specs.FrameLaw.{FrameLaw}
use Rattle.nm_world.specs.ShadowLaw.{ShadowLaw}
use Rattle.nm_world.specs.Laws.{IsReady}
use Rattle.nm_frames.specs.Facts.{HasFrameFacts, HasShadowFacts}
use Rattle.nm_frames.proofs.Quiet.{frames_load, frames_store, frames_add, frames_look, frames_peek, frames_poll, frames_ack, frames_bump, frames_see, frames_raise, frames_copy_load, frames_copy_store, frames_take_turn, frames_scan, frames_release_turn, frames_mark, frames_read}
use Rattle.nm_frames.proofs.Table.{frames_walk, frames_soften, frames_arm, frames_clear_dirty, frames_unmap, frames_map, frames_grant}
use Rattle.nm_frames.proofs.Owners.{frames_lock, frames_unlock, frames_give, frames_put}
use Rattle.nm_frames.proofs.Shadings.{frames_set_shadow}
use Rattle.nm_frames.proofs.Homes.{frames_set_home}
use Rattle.nm_frames.proofs.Shadows.{shadows_load, shadows_look, shadows_peek, shadows_poll, shadows_lock, shadows_unlock, shadows_bump, shadows_see, shadows_raise, shadows_soften, shadows_arm, shadows_clear_dirty, shadows_unmap, shadows_map, shadows_grant, shadows_copy_load, shadows_take_turn, shadows_scan, shadows_give, shadows_put, shadows_release_turn, shadows_mark, shadows_read}
use Rattle.nm_frames.proofs.Twins.{shadows_store, shadows_add, shadows_walk, shadows_ack, shadows_copy_store, shadows_set_home, shadows_set_shadow}

pub frames_step : (g : Geometry) (m : World) (a : ℕ) (action : Action) → HasFrameFacts g m → IsReady g m a action → FrameLaw g (sight_of g m) → FrameLaw g (sight_of g (moved g m a action))
frames_step g m a (Load v i) h r law = frames_load g m a v i law
frames_step g m a (Store v i x) h r law = frames_store g m a v i x law
frames_step g m a (Add v i x) h r law = frames_add g m a v i x law
frames_step g m a (Look v) h r law = frames_look g m a v law
frames_step g m a (Walk v e write) h r law = frames_walk g m a v e write r law
frames_step g m a (Peek v) h r law = frames_peek g m a v law
frames_step g m a Poll h r law = frames_poll g m a law
frames_step g m a (Ack to) h r law = frames_ack g m a to law
frames_step g m a (Lock b) h r law = frames_lock g m a b r law
frames_step g m a (Unlock b) h r law = frames_unlock g m a b r law
frames_step g m a Bump h r law = frames_bump g m a law
frames_step g m a (SeeAck p) h r law = frames_see g m a p law
frames_step g m a (Raise v) h r law = frames_raise g m a v law
frames_step g m a (Soften v bit) h r law = frames_soften g m a v bit law
frames_step g m a (Arm v) h r law = frames_arm g m a v r law
frames_step g m a (ClearDirty v) h r law = frames_clear_dirty g m a v law
frames_step g m a (Unmap v) h r law = frames_unmap g m a v r law
frames_step g m a (Map v word) h r law = frames_map g m a v word h.locks r law
frames_step g m a (Grant v) h r law = frames_grant g m a v h.locks r law
frames_step g m a (CopyLoad b i) h r law = frames_copy_load g m a b i law
frames_step g m a (CopyStore b f i x) h r law = frames_copy_store g m a b f i x law
frames_step g m a (SetHome b f) h r law = frames_set_home g m a b f h.locks h.copies h.bounds r law
frames_step g m a (SetShadow b k shadow) h r law = frames_set_shadow g m a b k shadow h.geometry h.locks h.copies h.bounds r law
frames_step g m a (TakeTurn t) h r law = frames_take_turn g m a t law
frames_step g m a (Scan t k) h r law = frames_scan g m a t k law
frames_step g m a (GiveFrame f) h r law = frames_give g m a f h.locks r law
frames_step g m a (PutFrame f) h r law = frames_put g m a f r law
frames_step g m a (ReleaseTurn t) h r law = frames_release_turn g m a t law
frames_step g m a (Mark b old new) h r law = frames_mark g m a b old new law
frames_step g m a (Read b cell) h r law = frames_read g m a b cell law

pub shadows_step : (g : Geometry) (m : World) (a : ℕ) (action : Action) → HasShadowFacts g m → IsReady g m a action → ShadowLaw g (sight_of g m) → ShadowLaw g (sight_of g (moved g m a action))
shadows_step g m a (Load v i) h r law = shadows_load g m a v i law
shadows_step g m a (Store v i x) h r law = shadows_store g m a v i x h.geometry h.caches h.bounds h.frames r law
shadows_step g m a (Add v i x) h r law = shadows_add g m a v i x h.geometry h.caches h.bounds h.frames r law
shadows_step g m a (Look v) h r law = shadows_look g m a v law
shadows_step g m a (Walk v e write) h r law = shadows_walk g m a v e write h.frames r law
shadows_step g m a (Peek v) h r law = shadows_peek g m a v law
shadows_step g m a Poll h r law = shadows_poll g m a law
shadows_step g m a (Ack to) h r law = shadows_ack g m a to r law
shadows_step g m a (Lock b) h r law = shadows_lock g m a b law
shadows_step g m a (Unlock b) h r law = shadows_unlock g m a b law
shadows_step g m a Bump h r law = shadows_bump g m a law
shadows_step g m a (SeeAck p) h r law = shadows_see g m a p law
shadows_step g m a (Raise v) h r law = shadows_raise g m a v law
shadows_step g m a (Soften v bit) h r law = shadows_soften g m a v bit law
shadows_step g m a (Arm v) h r law = shadows_arm g m a v law
shadows_step g m a (ClearDirty v) h r law = shadows_clear_dirty g m a v law
shadows_step g m a (Unmap v) h r law = shadows_unmap g m a v law
shadows_step g m a (Map v word) h r law = shadows_map g m a v word law
shadows_step g m a (Grant v) h r law = shadows_grant g m a v law
shadows_step g m a (CopyLoad b i) h r law = shadows_copy_load g m a b i law
shadows_step g m a (CopyStore b f i x) h r law = shadows_copy_store g m a b f i x h.geometry h.frames r law
shadows_step g m a (SetHome b f) h r law = shadows_set_home g m a b f h.geometry h.locks r law
shadows_step g m a (SetShadow b k shadow) h r law = shadows_set_shadow g m a b k shadow h.locks h.copies r law
shadows_step g m a (TakeTurn t) h r law = shadows_take_turn g m a t law
shadows_step g m a (Scan t k) h r law = shadows_scan g m a t k law
shadows_step g m a (GiveFrame f) h r law = shadows_give g m a f law
shadows_step g m a (PutFrame f) h r law = shadows_put g m a f law
shadows_step g m a (ReleaseTurn t) h r law = shadows_release_turn g m a t law
shadows_step g m a (Mark b old new) h r law = shadows_mark g m a b old new law
shadows_step g m a (Read b cell) h r law = shadows_read g m a b cell law
