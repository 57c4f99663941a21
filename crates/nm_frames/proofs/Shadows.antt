-- The shadow law in pieces, and the kinds that touch nothing that it reads.
use Rattle.std.proofs.Common.{◌≡◌, ℕ, Option, Some, refl, sym, ap, subst, ◌∙◌}
use Rattle.nm_base.specs.Geometry.{Geometry}
use Rattle.nm_base.specs.Ranges.{IsIndex}
use Rattle.nm_base.specs.ShadowWord.{NamesShadow}
use Rattle.nm_action.specs.declared.action.Bit.{Bit}
use Rattle.nm_action.specs.declared.action.Cell.{Cell}
use Rattle.nm_action.specs.declared.action.Reply.{Reply}
use Rattle.nm_action.specs.declared.action.Reply.TheVariants.{Done, Word, Busy, Lost}
use Rattle.nm_action.specs.declared.action.Action.{Action}
use Rattle.nm_action.specs.declared.action.Action.TheVariants.{Load, Look, Peek, Poll, Lock, Unlock, Bump, SeeAck, Raise, Soften, Arm, ClearDirty, Unmap, Map, Grant, CopyLoad, TakeTurn, Scan, GiveFrame, PutFrame, ReleaseTurn, Mark, Read}
use Rattle.nm_view.specs.declared.view.CacheEntry.{CacheEntry}
use Rattle.nm_view.specs.Lists.{find}
use Rattle.nm_view.specs.Views.{View}
use Rattle.nm_view.specs.Operations.{cached_page}
use Rattle.nm_words.specs.declared.names.Where.{Where}
use Rattle.nm_words.specs.declared.names.Where.TheVariants.{Req, Pte, Stamp, Home, Shadow, Mem, Ack, Turn, Free}
use Rattle.nm_words.specs.declared.names.Where.TheVariants as words
use Rattle.nm_step.specs.Table.{where_of, cached_frame, home_frame, cell_word}
use Rattle.nm_event.specs.After.{after_of}
use Rattle.nm_world.specs.Worlds.{World, moved, written, viewing, reply_in, left_in}
use Rattle.nm_world.specs.Sights.{Sight, sight_of, sight_at}
use Rattle.nm_world.specs.Notions.{IsClean}
use Rattle.nm_world.specs.ShadowLaw.{IsMaster, ShadowLaw}
use Rattle.nm_world.proofs.Choose.{choose}
use Rattle.nm_frames.proofs.Still.{rewritten}

-- a master stays one, where its shadow word and its page's home are as before, and it equals its shadow and is clean
pub master_kept : (g : Geometry) (m after : Sight) (k : ℕ) (h : IsMaster g m k) → after.shadow k ≡ m.shadow k → after.home h.page ≡ m.home h.page → ((i : ℕ) → IsIndex g i → after.mem k i ≡ after.mem h.frame i) → IsClean g after.entry h.page → IsMaster g after k
master_kept g m after k h shadow home equal clean = record {
  page = h.page;
  frame = h.frame;
  names = subst (λ (w : ℕ). NamesShadow g w h.page h.frame) (sym shadow) h.names;
  home = home ∙ h.home;
  slower = h.slower;
  equal = equal;
  clean = clean;
}

-- caches hold nothing that they did not hold before
abbrev pub KeepsEntries : (ℕ → ℕ → Option CacheEntry) → (ℕ → ℕ → Option CacheEntry) → Type 0
KeepsEntries entry after = (a v : ℕ) (e : CacheEntry) → after a v ≡ Some e → entry a v ≡ Some e

pub clean_kept : (g : Geometry) (entry after : ℕ → ℕ → Option CacheEntry) (b : ℕ) → KeepsEntries entry after → IsClean g entry b → IsClean g after b
clean_kept g entry after b keeps clean a v e of is = clean a v e of (keeps a v e is)

-- what the shadow law reads is as before
pub record KeepsShadows (m after : Sight) : Type 0 where
  pub home : (b : ℕ) → after.home b ≡ m.home b
  pub shadow : (k : ℕ) → after.shadow k ≡ m.shadow k
  pub mem : (f i : ℕ) → after.mem f i ≡ m.mem f i
  pub entries : KeepsEntries m.entry after.entry

pub shadows_still : (g : Geometry) (m after : Sight) → KeepsShadows m after → ShadowLaw g m → ShadowLaw g after
shadows_still g m after keeps law = record {
  masters = λ k some. (let h = law.masters k (λ none. some (keeps.shadow k ∙ none)) in
      master_kept g m after k h (keeps.shadow k) (keeps.home h.page) (λ i in_page. keeps.mem k i ∙ h.equal i in_page ∙ sym (keeps.mem h.frame i))
      (clean_kept g m.entry after.entry h.page keeps.entries h.clean));
}

-- At a step.

-- the cache of an actor holds nothing that it did not hold before
abbrev pub KeepsCache : View → View → Type 0
KeepsCache view new = (v : ℕ) (e : CacheEntry) → find cached_page v new.cache ≡ Some e → find cached_page v view.cache ≡ Some e

pub same_cache : (view : View) → KeepsCache view view
same_cache view v e is = is

pub entries_kept : (a : ℕ) (new : View) (views : ℕ → View) → KeepsCache (views a) new → KeepsEntries (λ c v. find cached_page v (views c).cache) (λ c v. find cached_page v (viewing a new views c).cache)
entries_kept a new views keeps c v e =
    choose (λ w. find cached_page v w.cache ≡ Some e → find cached_page v (views c).cache ≡ Some e) c a new (views c)
    (λ s is. ap (λ i. find cached_page v (views i).cache) s ∙ keeps v e is)
    (λ other is. is)

-- the shadow law reads no word of this name
abbrev pub IsUnread : Where → Type 0
IsUnread (Home b) = ⊥
IsUnread (Shadow k) = ⊥
IsUnread (Mem f i) = ⊥
IsUnread _ = Unit {0}

-- the words that the shadow law reads are as before
pub record KeepsWords (word after : Where → ℕ) : Type 0 where
  pub home : (b : ℕ) → after (Home b) ≡ word (Home b)
  pub shadow : (k : ℕ) → after (Shadow k) ≡ word (Shadow k)
  pub mem : (f i : ℕ) → after (Mem f i) ≡ word (Mem f i)

unread_keeps : (c : Where) (x : ℕ) (word : Where → ℕ) → IsUnread c → KeepsWords word (written c x word)
unread_keeps (Home b) x word h = absurd h
unread_keeps (Shadow k) x word h = absurd h
unread_keeps (Mem f i) x word h = absurd h
unread_keeps c x word h = record { home = λ b. refl; shadow = λ k. refl; mem = λ f i. refl }

pub read_keeps : (c : Where) (word : Where → ℕ) → KeepsWords word (written c (word c) word)
read_keeps c word = record { home = λ b. rewritten c word (Home b); shadow = λ k. rewritten c word (Shadow k); mem = λ f i. rewritten c word (Mem f i) }

pub shadows_quiet : (g : Geometry) (m : World) (word : Where → ℕ) (a : ℕ) (new : View) → KeepsWords m.word word → KeepsCache (m.view a) new → ShadowLaw g (sight_of g m) → ShadowLaw g (sight_at g word (viewing a new m.view))
shadows_quiet g m word a new words cache law =
    shadows_still g (sight_of g m) (sight_at g word (viewing a new m.view))
    (record { home = words.home; shadow = words.shadow; mem = words.mem; entries = entries_kept a new m.view cache }) law

-- an exchange on a word that the law does not read, by a view that keeps its cache
pub shadows_unread : (g : Geometry) (m : World) (a : ℕ) (action : Action) → IsUnread (where_of g (m.view a) action) → KeepsCache (m.view a) (after_of g (m.view a) action (reply_in g m a action)) → ShadowLaw g (sight_of g m) → ShadowLaw g (sight_of g (moved g m a action))
shadows_unread g m a action out cache law =
    shadows_quiet g m (moved g m a action).word a (after_of g (m.view a) action (reply_in g m a action))
    (unread_keeps (where_of g (m.view a) action) (left_in g m a action) m.word out) cache law

-- The kinds.

pub shadows_load : (g : Geometry) (m : World) (a v i : ℕ) → ShadowLaw g (sight_of g m) → ShadowLaw g (sight_of g (moved g m a (Load v i)))
shadows_load g m a v i law = shadows_quiet g m (moved g m a (Load v i)).word a (m.view a) (read_keeps (words.Mem (cached_frame (m.view a) v) i) m.word) (same_cache (m.view a)) law

pub shadows_look : (g : Geometry) (m : World) (a v : ℕ) → ShadowLaw g (sight_of g m) → ShadowLaw g (sight_of g (moved g m a (Look v)))
shadows_look g m a v law = shadows_unread g m a (Look v) tt (same_cache (m.view a)) law

pub shadows_peek : (g : Geometry) (m : World) (a v : ℕ) → ShadowLaw g (sight_of g m) → ShadowLaw g (sight_of g (moved g m a (Peek v)))
shadows_peek g m a v law = shadows_unread g m a (Peek v) tt (same_cache (m.view a)) law

pub shadows_poll : (g : Geometry) (m : World) (a : ℕ) → ShadowLaw g (sight_of g m) → ShadowLaw g (sight_of g (moved g m a Poll))
shadows_poll g m a law = shadows_unread g m a Poll tt (same_cache (m.view a)) law

lock_cache : (g : Geometry) (view : View) (b : ℕ) (r : Reply) → KeepsCache view (after_of g view (Lock b) r)
lock_cache g view b Done = same_cache view
lock_cache g view b (Word n) = same_cache view
lock_cache g view b (Busy n) = same_cache view
lock_cache g view b (Lost n) = same_cache view

pub shadows_lock : (g : Geometry) (m : World) (a b : ℕ) → ShadowLaw g (sight_of g m) → ShadowLaw g (sight_of g (moved g m a (Lock b)))
shadows_lock g m a b law = shadows_unread g m a (Lock b) tt (lock_cache g (m.view a) b (reply_in g m a (Lock b))) law

pub shadows_unlock : (g : Geometry) (m : World) (a b : ℕ) → ShadowLaw g (sight_of g m) → ShadowLaw g (sight_of g (moved g m a (Unlock b)))
shadows_unlock g m a b law = shadows_unread g m a (Unlock b) tt (same_cache (m.view a)) law

pub shadows_bump : (g : Geometry) (m : World) (a : ℕ) → ShadowLaw g (sight_of g m) → ShadowLaw g (sight_of g (moved g m a Bump))
shadows_bump g m a law = shadows_unread g m a Bump tt (same_cache (m.view a)) law

pub shadows_see : (g : Geometry) (m : World) (a p : ℕ) → ShadowLaw g (sight_of g m) → ShadowLaw g (sight_of g (moved g m a (SeeAck p)))
shadows_see g m a p law = shadows_unread g m a (SeeAck p) tt (same_cache (m.view a)) law

pub shadows_raise : (g : Geometry) (m : World) (a v : ℕ) → ShadowLaw g (sight_of g m) → ShadowLaw g (sight_of g (moved g m a (Raise v)))
shadows_raise g m a v law = shadows_unread g m a (Raise v) tt (same_cache (m.view a)) law

pub shadows_soften : (g : Geometry) (m : World) (a v : ℕ) (bit : Bit) → ShadowLaw g (sight_of g m) → ShadowLaw g (sight_of g (moved g m a (Soften v bit)))
shadows_soften g m a v bit law = shadows_unread g m a (Soften v bit) tt (same_cache (m.view a)) law

pub shadows_arm : (g : Geometry) (m : World) (a v : ℕ) → ShadowLaw g (sight_of g m) → ShadowLaw g (sight_of g (moved g m a (Arm v)))
shadows_arm g m a v law = shadows_unread g m a (Arm v) tt (same_cache (m.view a)) law

pub shadows_clear_dirty : (g : Geometry) (m : World) (a v : ℕ) → ShadowLaw g (sight_of g m) → ShadowLaw g (sight_of g (moved g m a (ClearDirty v)))
shadows_clear_dirty g m a v law = shadows_unread g m a (ClearDirty v) tt (same_cache (m.view a)) law

pub shadows_unmap : (g : Geometry) (m : World) (a v : ℕ) → ShadowLaw g (sight_of g m) → ShadowLaw g (sight_of g (moved g m a (Unmap v)))
shadows_unmap g m a v law = shadows_unread g m a (Unmap v) tt (same_cache (m.view a)) law

pub shadows_map : (g : Geometry) (m : World) (a v word : ℕ) → ShadowLaw g (sight_of g m) → ShadowLaw g (sight_of g (moved g m a (Map v word)))
shadows_map g m a v word law = shadows_unread g m a (Map v word) tt (same_cache (m.view a)) law

pub shadows_grant : (g : Geometry) (m : World) (a v : ℕ) → ShadowLaw g (sight_of g m) → ShadowLaw g (sight_of g (moved g m a (Grant v)))
shadows_grant g m a v law = shadows_unread g m a (Grant v) tt (same_cache (m.view a)) law

pub shadows_copy_load : (g : Geometry) (m : World) (a b i : ℕ) → ShadowLaw g (sight_of g m) → ShadowLaw g (sight_of g (moved g m a (CopyLoad b i)))
shadows_copy_load g m a b i law =
    shadows_quiet g m (moved g m a (CopyLoad b i)).word a (after_of g (m.view a) (CopyLoad b i) (reply_in g m a (CopyLoad b i)))
    (read_keeps (words.Mem (home_frame (m.view a) b) i) m.word) (same_cache (m.view a)) law

take_cache : (g : Geometry) (view : View) (t : ℕ) (r : Reply) → KeepsCache view (after_of g view (TakeTurn t) r)
take_cache g view t Done = same_cache view
take_cache g view t (Word n) = same_cache view
take_cache g view t (Busy n) = same_cache view
take_cache g view t (Lost n) = same_cache view

pub shadows_take_turn : (g : Geometry) (m : World) (a t : ℕ) → ShadowLaw g (sight_of g m) → ShadowLaw g (sight_of g (moved g m a (TakeTurn t)))
shadows_take_turn g m a t law = shadows_unread g m a (TakeTurn t) tt (take_cache g (m.view a) t (reply_in g m a (TakeTurn t))) law

pub shadows_scan : (g : Geometry) (m : World) (a t k : ℕ) → ShadowLaw g (sight_of g m) → ShadowLaw g (sight_of g (moved g m a (Scan t k)))
shadows_scan g m a t k law = shadows_unread g m a (Scan t k) tt (same_cache (m.view a)) law

pub shadows_give : (g : Geometry) (m : World) (a f : ℕ) → ShadowLaw g (sight_of g m) → ShadowLaw g (sight_of g (moved g m a (GiveFrame f)))
shadows_give g m a f law = shadows_unread g m a (GiveFrame f) tt (same_cache (m.view a)) law

pub shadows_put : (g : Geometry) (m : World) (a f : ℕ) → ShadowLaw g (sight_of g m) → ShadowLaw g (sight_of g (moved g m a (PutFrame f)))
shadows_put g m a f law = shadows_unread g m a (PutFrame f) tt (same_cache (m.view a)) law

pub shadows_release_turn : (g : Geometry) (m : World) (a t : ℕ) → ShadowLaw g (sight_of g m) → ShadowLaw g (sight_of g (moved g m a (ReleaseTurn t)))
shadows_release_turn g m a t law = shadows_unread g m a (ReleaseTurn t) tt (same_cache (m.view a)) law

mark_cache : (g : Geometry) (view : View) (b old new : ℕ) (r : Reply) → KeepsCache view (after_of g view (Mark b old new) r)
mark_cache g view b old new Done = same_cache view
mark_cache g view b old new (Word n) = same_cache view
mark_cache g view b old new (Busy n) = same_cache view
mark_cache g view b old new (Lost n) = same_cache view

pub shadows_mark : (g : Geometry) (m : World) (a b old new : ℕ) → ShadowLaw g (sight_of g m) → ShadowLaw g (sight_of g (moved g m a (Mark b old new)))
shadows_mark g m a b old new law = shadows_unread g m a (Mark b old new) tt (mark_cache g (m.view a) b old new (reply_in g m a (Mark b old new))) law

pub shadows_read : (g : Geometry) (m : World) (a b : ℕ) (cell : Cell) → ShadowLaw g (sight_of g m) → ShadowLaw g (sight_of g (moved g m a (Read b cell)))
shadows_read g m a b cell law =
    shadows_quiet g m (moved g m a (Read b cell)).word a (after_of g (m.view a) (Read b cell) (reply_in g m a (Read b cell)))
    (read_keeps (cell_word cell) m.word) (same_cache (m.view a)) law
