-- That each permitted step keeps the lock law, and where the facts of other groups come from.
use Rattle.std.proofs.Common.{◌≡◌, ℕ, Option, Some, IsSome, inl, inr, arith}
use Rattle.std.proofs.lemmas.Bool.{cases_eq}
use Rattle.nm_base.specs.Geometry.{Geometry}
use Rattle.nm_base.specs.HomeWord.{home_word}
use Rattle.nm_base.specs.Ranges.{IsFrame}
use Rattle.nm_action.specs.declared.action.Cell.TheVariants as cells
use Rattle.nm_action.specs.declared.action.Action.{Action}
use Rattle.nm_action.specs.declared.action.Action.TheVariants.{Load, Store, Add, Look, Walk, Peek, Poll, Ack, Lock, Unlock, Bump, SeeAck, Raise, Soften, Arm, ClearDirty, Unmap, Map, Grant, CopyLoad, CopyStore, SetHome, SetShadow, TakeTurn, Scan, GiveFrame, PutFrame, ReleaseTurn, Mark, Read}
use Rattle.nm_view.specs.declared.view.Fill.{Fill}
use Rattle.nm_view.specs.Opening.{IsActor}
use Rattle.nm_view.specs.Operations.{fill_of}
use Rattle.nm_permit.specs.Permitted.{Allowed}
use Rattle.nm_event.specs.Fitting.{Fits}
use Rattle.nm_world.specs.Worlds.{World, moved, pte_at, home_at, shadow_at, reply_in}
use Rattle.nm_world.specs.Sights.{sight_of}
use Rattle.nm_world.specs.FrameLaw.{AtHome, By, names_of}
use Rattle.nm_world.specs.LockLaw.{LockLaw}
use Rattle.nm_world.specs.Laws.{AreAll, IsReady}
use Rattle.nm_world.proofs.Roles.{one_claim}
use Rattle.nm_locks.specs.Facts.{LockFacts}
use Rattle.nm_locks.proofs.Quiet.{lock_load, lock_store, lock_add, lock_peek, lock_poll, lock_ack, lock_bump, lock_see, lock_raise, lock_copy_load, lock_copy_store, lock_mark}
use Rattle.nm_locks.proofs.Turns.{lock_take_turn, lock_release_turn, lock_give, lock_put}
use Rattle.nm_locks.proofs.Flags.{lock_soften, lock_arm, lock_walk}
use Rattle.nm_locks.proofs.Holders.{lock_lock, lock_unlock}
use Rattle.nm_locks.proofs.Homes.{lock_read_home, lock_read_shadow, lock_set_home, lock_set_shadow}
use Rattle.nm_locks.proofs.Table.{lock_look, lock_clear, lock_unmap, lock_map, lock_grant}
use Rattle.nm_locks.proofs.Scans.{lock_scan}

-- each kind
pub lock_kept : (g : Geometry) (m : World) (a : ℕ) (action : Action) → LockFacts g m → IsReady g m a action → LockLaw g m → LockLaw g (moved g m a action)
lock_kept g m a (Load v i) facts r h = lock_load g m a v i h
lock_kept g m a (Store v i x) facts r h = lock_store g m a v i x h
lock_kept g m a (Add v i x) facts r h = lock_add g m a v i x h
lock_kept g m a (Look v) facts r h = lock_look g m a v r.shaped h
lock_kept g m a (Walk v e write) facts r h = lock_walk g m a v e write facts r h
lock_kept g m a (Peek v) facts r h = lock_peek g m a v h
lock_kept g m a Poll facts r h = lock_poll g m a h
lock_kept g m a (Ack to) facts r h = lock_ack g m a to h
lock_kept g m a (Lock b) facts r h = lock_lock g m a b r h
lock_kept g m a (Unlock b) facts r h = lock_unlock g m a b r h
lock_kept g m a Bump facts r h = lock_bump g m a h
lock_kept g m a (SeeAck p) facts r h = lock_see g m a p h
lock_kept g m a (Raise v) facts r h = lock_raise g m a v h
lock_kept g m a (Soften v bit) facts r h = lock_soften g m a v bit facts h
lock_kept g m a (Arm v) facts r h = lock_arm g m a v facts r h
lock_kept g m a (ClearDirty v) facts r h = lock_clear g m a v facts r h
lock_kept g m a (Unmap v) facts r h = lock_unmap g m a v r h
lock_kept g m a (Map v word) facts r h = lock_map g m a v word r h
lock_kept g m a (Grant v) facts r h = lock_grant g m a v facts r h
lock_kept g m a (CopyLoad b i) facts r h = lock_copy_load g m a b i h
lock_kept g m a (CopyStore b f i x) facts r h = lock_copy_store g m a b f i x h
lock_kept g m a (SetHome b f) facts r h = lock_set_home g m a b f facts r h
lock_kept g m a (SetShadow b k s) facts r h = lock_set_shadow g m a b k s facts r h
lock_kept g m a (TakeTurn t) facts r h = lock_take_turn g m a t r h
lock_kept g m a (Scan t k) facts r h = lock_scan g m a t k r h
lock_kept g m a (GiveFrame f) facts r h = lock_give g m a f r h
lock_kept g m a (PutFrame f) facts r h = lock_put g m a f r h
lock_kept g m a (ReleaseTurn t) facts r h = lock_release_turn g m a t r h
lock_kept g m a (Mark b old new) facts r h = lock_mark g m a b old new h
lock_kept g m a (Read b (cells.Home page)) facts r h = lock_read_home g m a b page r h
lock_kept g m a (Read b (cells.Shadow frame)) facts r h = lock_read_shadow g m a b frame r h

-- The facts.

same_page : (b c : ℕ) → AtHome b ≡ AtHome c → b ≡ c
same_page b c e = cc

not_home : (a b : ℕ) → By a ≡ AtHome b → ⊥
not_home a b e = cc

some_of : (o : Option Fill) (x : Fill) → o ≡ Some x → IsSome o
some_of o x is = rw is cc

home_frame_there : (g : Geometry) (m : World) (b f : ℕ) → AreAll g m → home_at m b ≡ home_word f → IsFrame g f
home_frame_there g m b f h is = omega (arith, h.bounds.homes b, is)

pub LockFacts-AreAll : (g : Geometry) (m : World) → AreAll g m → LockFacts g m
LockFacts-AreAll g m h = record {
  page_words = λ v. elim (cases_eq (pte_at m v) 0) [ inl zero ↦ inl zero | inr some ↦ inr (h.frames.words v some).is.layout ];
  one_page = λ b c f mine theirs.
      same_page b c (one_claim g (names_of (sight_of g m)) f (AtHome b) (AtHome c) h.frames.roles (home_frame_there g m b f h mine) mine theirs);
  owned = λ a b f fill is home.
      not_home a b (one_claim g (names_of (sight_of g m)) f (By a) (AtHome b) h.frames.roles (home_frame_there g m b f h home) (some_of (fill_of (m.view a) f) fill is) home);
  unshaded = λ f none. elim (cases_eq (shadow_at m f) 0) [ inl zero ↦ zero | inr some ↦ absurd (let master = h.shadows.masters f some in none master.page master.home) ];
}

-- The law.

pub lock_law : (g : Geometry) (m : World) (a : ℕ) (action : Action) → AreAll g m → IsActor g a → Allowed g (m.view a) action → Fits g (m.view a) action (reply_in g m a action) → LockLaw g (moved g m a action)
lock_law g m a action h actor allowed fits =
    lock_kept g m a action (LockFacts-AreAll g m h) (record { shaped = h.shape; actor = actor; allowed = allowed; fits = fits }) h.locks
