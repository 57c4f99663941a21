-- The kinds that touch nothing that the lock law reads.
use Rattle.std.proofs.Common.{ℕ, ◌+◌, Option, refl}
use Rattle.nm_base.specs.Geometry.{Geometry}
use Rattle.nm_action.specs.declared.action.AckTo.{AckTo}
use Rattle.nm_action.specs.declared.action.Reply.{Reply}
use Rattle.nm_action.specs.declared.action.Reply.TheVariants.{Done, Word, Busy, Lost}
use Rattle.nm_action.specs.declared.action.Action.{Action}
use Rattle.nm_action.specs.declared.action.Action.TheVariants.{Load, Store, Add, Peek, Poll, Ack, Bump, SeeAck, Raise, CopyLoad, CopyStore, Mark}
use Rattle.nm_words.specs.declared.names.Where.TheVariants as words
use Rattle.nm_step.specs.Table.{where_of, home_frame}
use Rattle.nm_view.specs.Views.{View}
use Rattle.nm_event.specs.After.{after_of, bumped_to, seen_at, raised_to, loaded, copied_one}
use Rattle.nm_world.specs.Worlds.{World, moved, left_in, reply_in}
use Rattle.nm_world.specs.Parts.{lore_of}
use Rattle.nm_world.specs.LockLaw.{LockLaw}
use Rattle.nm_world.proofs.Parts.{part_edit, part_under, part_of, part_map}
use Rattle.nm_locks.proofs.Still.{IsUnread, KeepsView, same_view, unread_keeps, lock_quiet}

-- an exchange on a word that the law does not read, by a view that keeps what it reads
unread : (g : Geometry) (m : World) (a : ℕ) (action : Action) → IsUnread (where_of g (m.view a) action) → KeepsView (m.view a) (after_of g (m.view a) action (reply_in g m a action)) → LockLaw g m → LockLaw g (moved g m a action)
unread g m a action out view h =
    lock_quiet g m (moved g m a action).word a (after_of g (m.view a) action (reply_in g m a action))
    (unread_keeps g (where_of g (m.view a) action) (left_in g m a action) m.word out) view h

mark_still : (g : Geometry) (view : View) (b old new : ℕ) (r : Reply) → KeepsView view (after_of g view (Mark b old new) r)
mark_still g view b old new Done = same_view view
mark_still g view b old new (Word n) = same_view view
mark_still g view b old new (Busy n) = same_view view
mark_still g view b old new (Lost n) = same_view view

pub lock_load : (g : Geometry) (m : World) (a v i : ℕ) → LockLaw g m → LockLaw g (moved g m a (Load v i))
lock_load g m a v i h = unread g m a (Load v i) tt (same_view (m.view a)) h

pub lock_store : (g : Geometry) (m : World) (a v i x : ℕ) → LockLaw g m → LockLaw g (moved g m a (Store v i x))
lock_store g m a v i x h = unread g m a (Store v i x) tt (same_view (m.view a)) h

pub lock_add : (g : Geometry) (m : World) (a v i x : ℕ) → LockLaw g m → LockLaw g (moved g m a (Add v i x))
lock_add g m a v i x h = unread g m a (Add v i x) tt (same_view (m.view a)) h

pub lock_peek : (g : Geometry) (m : World) (a v : ℕ) → LockLaw g m → LockLaw g (moved g m a (Peek v))
lock_peek g m a v h = unread g m a (Peek v) tt (record { turn = refl; least = refl; lore = λ b. refl }) h

pub lock_poll : (g : Geometry) (m : World) (a : ℕ) → LockLaw g m → LockLaw g (moved g m a Poll)
lock_poll g m a h = unread g m a Poll tt (record { turn = refl; least = refl; lore = λ b. refl }) h

pub lock_ack : (g : Geometry) (m : World) (a : ℕ) (to : AckTo) → LockLaw g m → LockLaw g (moved g m a (Ack to))
lock_ack g m a to h = unread g m a (Ack to) tt (record { turn = refl; least = refl; lore = λ b. refl }) h

pub lock_bump : (g : Geometry) (m : World) (a : ℕ) → LockLaw g m → LockLaw g (moved g m a Bump)
lock_bump g m a h =
    let n : ℕ = m.word words.Req in
    unread g m a Bump tt (record { turn = refl; least = refl; lore = λ b. part_map lore_of (bumped_to (n + 1)) b (m.view a).ops (λ o. refl) (λ o. refl) }) h

pub lock_see : (g : Geometry) (m : World) (a p : ℕ) → LockLaw g m → LockLaw g (moved g m a (SeeAck p))
lock_see g m a p h =
    let n : ℕ = m.word (words.Ack p) in
    unread g m a (SeeAck p) tt (record { turn = refl; least = refl; lore = λ b. part_map lore_of (seen_at p n) b (m.view a).ops (λ o. refl) (λ o. refl) }) h

pub lock_raise : (g : Geometry) (m : World) (a v : ℕ) → LockLaw g m → LockLaw g (moved g m a (Raise v))
lock_raise g m a v h =
    let n : ℕ = m.word (words.Stamp v) in
    unread g m a (Raise v) tt (record { turn = refl; least = refl; lore = λ b. part_of lore_of g v (raised_to v (n + 1)) b (m.view a).ops (λ o. refl) (λ o. refl) }) h

pub lock_copy_load : (g : Geometry) (m : World) (a b i : ℕ) → LockLaw g m → LockLaw g (moved g m a (CopyLoad b i))
lock_copy_load g m a b i h =
    let n : ℕ = m.word (words.Mem (home_frame (m.view a) b) i) in
    unread g m a (CopyLoad b i) tt (record { turn = refl; least = refl; lore = λ k. part_edit lore_of b (loaded n) k (m.view a).ops (λ o. refl) (λ o. refl) }) h

pub lock_copy_store : (g : Geometry) (m : World) (a : ℕ) (b : Option ℕ) (f i x : ℕ) → LockLaw g m → LockLaw g (moved g m a (CopyStore b f i x))
lock_copy_store g m a b f i x h =
    unread g m a (CopyStore b f i x) tt (record { turn = refl; least = refl; lore = λ k. part_under lore_of b copied_one k (m.view a).ops (λ o. refl) (λ o. refl) }) h

pub lock_mark : (g : Geometry) (m : World) (a b old new : ℕ) → LockLaw g m → LockLaw g (moved g m a (Mark b old new))
lock_mark g m a b old new h =
    unread g m a (Mark b old new) tt (mark_still g (m.view a) b old new (reply_in g m a (Mark b old new))) h
