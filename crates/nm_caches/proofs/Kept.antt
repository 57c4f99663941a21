-- That every step that is ready keeps the cache law, by the kind of its action.
use Rattle.std.proofs.Common.{ℕ, inr}
use Rattle.nm_base.specs.Geometry.{Geometry}
use Rattle.nm_action.specs.declared.action.Action.{Action}
use Rattle.nm_action.specs.declared.action.Action.TheVariants.{Load, Store, Add, Look, Walk, Peek, Poll, Ack, Lock, Unlock, Bump, SeeAck, Raise, Soften, Arm, ClearDirty, Unmap, Map, Grant, CopyLoad, CopyStore, SetHome, SetShadow, TakeTurn, Scan, GiveFrame, PutFrame, ReleaseTurn, Mark, Read}
use Rattle.nm_world.specs.Worlds.{World, moved}
use Rattle.nm_world.specs.CacheLaw.{CacheLaw}
use Rattle.nm_world.specs.Laws.{AreAll, IsReady}
use Rattle.nm_caches.specs.Facts.{HasCacheFacts}
use Rattle.nm_caches.proofs.Still.{cache_load, cache_store, cache_add, cache_look, cache_copy_load, cache_copy_store, cache_set_shadow, cache_take_turn, cache_release_turn, cache_scan, cache_give_frame, cache_put_frame, cache_mark, cache_read}
use Rattle.nm_caches.proofs.Table.{cache_soften, cache_arm, cache_map, cache_grant}
use Rattle.nm_caches.proofs.Desks.{cache_peek, cache_poll, cache_walk}
use Rattle.nm_caches.proofs.Acks.{cache_ack}
use Rattle.nm_caches.proofs.Edits.{cache_clear_dirty, cache_unmap, cache_raise}
use Rattle.nm_caches.proofs.Maps.{cache_bump, cache_see_ack}
use Rattle.nm_caches.proofs.Holds.{cache_lock, cache_unlock}
use Rattle.nm_caches.proofs.Homes.{cache_set_home}

pub cache_kept : (g : Geometry) (m : World) (a : ℕ) (action : Action) → IsReady g m a action → HasCacheFacts g m → CacheLaw g m → CacheLaw g (moved g m a action)
cache_kept g m a (Load v i) ready facts h = cache_load g m a v i ready.shaped h
cache_kept g m a (Store v i x) ready facts h = cache_store g m a v i x ready.shaped h
cache_kept g m a (Add v i x) ready facts h = cache_add g m a v i x ready.shaped h
cache_kept g m a (Look v) ready facts h = cache_look g m a v ready.shaped h
cache_kept g m a (Walk v e write) ready facts h = cache_walk g m a v e write ready.allowed facts.mappings ready.shaped h
cache_kept g m a (Peek v) ready facts h = cache_peek g m a v ready.shaped h
cache_kept g m a Poll ready facts h = cache_poll g m a ready.shaped h
cache_kept g m a (Ack to) ready facts h = cache_ack g m a to ready.allowed ready.shaped h
cache_kept g m a (Lock b) ready facts h = cache_lock g m a b ready.allowed ready.shaped h
cache_kept g m a (Unlock b) ready facts h = cache_unlock g m a b ready h
cache_kept g m a Bump ready facts h = cache_bump g m a ready h
cache_kept g m a (SeeAck p) ready facts h = cache_see_ack g m a p ready.shaped h
cache_kept g m a (Raise v) ready facts h = cache_raise g m a v ready h
cache_kept g m a (Soften v bit) ready facts h = cache_soften g m a v bit ready.shaped h
cache_kept g m a (Arm v) ready facts h = cache_arm g m a v ready.shaped h
cache_kept g m a (ClearDirty v) ready facts h = cache_clear_dirty g m a v ready.allowed ready.shaped h
cache_kept g m a (Unmap v) ready facts h = cache_unmap g m a v ready.allowed ready.shaped h
cache_kept g m a (Map v word) ready facts h = cache_map g m a v word ready.allowed facts.locks ready.shaped h
cache_kept g m a (Grant v) ready facts h = cache_grant g m a v ready.allowed facts.locks ready.shaped h
cache_kept g m a (CopyLoad b i) ready facts h = cache_copy_load g m a b i ready.shaped h
cache_kept g m a (CopyStore b f i x) ready facts h = cache_copy_store g m a b f i x ready.shaped h
cache_kept g m a (SetHome b f) ready facts h = cache_set_home g m a b f ready.allowed facts ready.shaped h
cache_kept g m a (SetShadow b k s) ready facts h = cache_set_shadow g m a b k s ready.shaped h
cache_kept g m a (TakeTurn t) ready facts h = cache_take_turn g m a t ready.shaped h
cache_kept g m a (Scan t k) ready facts h = cache_scan g m a t k ready.shaped h
cache_kept g m a (GiveFrame f) ready facts h = cache_give_frame g m a f ready.shaped h
cache_kept g m a (PutFrame f) ready facts h = cache_put_frame g m a f ready.shaped h
cache_kept g m a (ReleaseTurn t) ready facts h = cache_release_turn g m a t ready.shaped h
cache_kept g m a (Mark b old new) ready facts h = cache_mark g m a b old new ready.shaped h
cache_kept g m a (Read b cell) ready facts h = cache_read g m a b cell ready.shaped h

-- the other groups have what the cache law takes from them
pub facts_of : (g : Geometry) (m : World) → AreAll g m → HasCacheFacts g m
facts_of g m all = record {
  locks = all.locks;
  mappings = all.frames.words;
  copies = λ a b o is names owns. (all.copies.ops a b o is).out names (inr owns);
}

pub cache_kept_of : (g : Geometry) (m : World) (a : ℕ) (action : Action) → AreAll g m → IsReady g m a action → CacheLaw g (moved g m a action)
cache_kept_of g m a action all ready = cache_kept g m a action ready (facts_of g m all) all.caches
