-- The kinds that leave table words, homes, the words of frames and fills, and cache nothing.
use Rattle.std.proofs.Common.{◌≡◌, ℕ, ◌+◌, ◌<◌, ◌&&◌, not, if◌then◌else◌, Bool, true, false, List, [], ◌∷◌, Option, Some, refl, sym, ap, subst, ◌∙◌, arith}
use Rattle.std.specs.Prelude.{option_map}
use Rattle.std.specs.List.{filter}
use Rattle.nm_base.specs.Geometry.{Geometry}
use Rattle.nm_action.specs.declared.action.AckTo.{AckTo}
use Rattle.nm_action.specs.declared.action.AckTo.TheVariants.{Seen, Off, End}
use Rattle.nm_action.specs.declared.action.Cell.{Cell}
use Rattle.nm_action.specs.declared.action.Cell.TheVariants as cells
use Rattle.nm_action.specs.declared.action.Reply.{Reply}
use Rattle.nm_action.specs.declared.action.Reply.TheVariants.{Done, Word, Busy, Lost}
use Rattle.nm_action.specs.declared.action.Action.{Action}
use Rattle.nm_action.specs.declared.action.Action.TheVariants.{Load, Look, Peek, Poll, Ack, Bump, Raise, TakeTurn, ReleaseTurn, Scan, Mark, Read}
use Rattle.nm_words.specs.declared.names.Where.{Where}
use Rattle.nm_words.specs.declared.names.Where.TheVariants as words
use Rattle.nm_step.specs.Table.{where_of, cached_frame}
use Rattle.nm_view.specs.declared.view.CacheEntry.{CacheEntry}
use Rattle.nm_view.specs.Lists.{find, Once}
use Rattle.nm_view.specs.Views.{Op, View}
use Rattle.nm_view.specs.Operations.{cached_page, op_on, fill_of, is_answered, is_early, names_one}
use Rattle.nm_view.proofs.Finds.{absent_filter}
use Rattle.nm_view.proofs.Items.{not_none}
use Rattle.nm_view.proofs.Known.{are_seen_not}
use Rattle.nm_event.specs.After.{after_of, bumped_to, raised_to, looked_at, read_cell, kept_entries, is_confirmed}
use Rattle.nm_world.specs.Worlds.{World, moved, viewing, written, left_in, reply_in}
use Rattle.nm_world.specs.Parts.{Copier, copier_of}
use Rattle.nm_world.specs.Sights.{sight_of, sight_at}
use Rattle.nm_world.specs.CopyLaw.{CopyLaw, copy_sight}
use Rattle.nm_world.specs.Laws.{IsReady}
use Rattle.nm_world.proofs.Choose.{choose, choose_name}
use Rattle.nm_world.proofs.Parts.{part_edit, part_of, part_map}
use Rattle.nm_copies.proofs.Still.{stays_tame, law_tame}

-- the words that the copy law reads are as before
pub record KeepsWords (word after : Where → ℕ) : Type 0 where
  pub pte : (v : ℕ) → after (words.Pte v) ≡ word (words.Pte v)
  pub home : (b : ℕ) → after (words.Home b) ≡ word (words.Home b)
  pub mem : (f i : ℕ) → after (words.Mem f i) ≡ word (words.Mem f i)

-- the new view of the actor has the same fills, the same operations as copies read them, and no new entry
pub record KeepsView (g : Geometry) (view new : View) : Type 0 where
  pub fill : (f : ℕ) → fill_of new f ≡ fill_of view f
  pub entry : (v : ℕ) (e : CacheEntry) → find cached_page v new.cache ≡ Some e → find cached_page v view.cache ≡ Some e
  pub copier : (b : ℕ) → option_map (copier_of g) (op_on new b) ≡ option_map (copier_of g) (op_on view b)

pub same_view : (g : Geometry) (view : View) → KeepsView g view view
same_view g view = record { fill = λ f. refl; entry = λ v e is. is; copier = λ b. refl }

-- a part of each view that the new one of the actor keeps
pub view_part : {A : Type 0} (part : View → A) (a : ℕ) (new : View) (views : ℕ → View) → part new ≡ part (views a) → (c : ℕ) → part (viewing a new views c) ≡ part (views c)
view_part part a new views same c = choose (λ v. part v ≡ part (views c)) c a new (views c) (λ s. same ∙ ap (λ i. part (views i)) (sym s)) (λ other. refl)

-- the entries of each view were cached before
pub entries_before : (a : ℕ) (new : View) (views : ℕ → View) → ((v : ℕ) (e : CacheEntry) → find cached_page v new.cache ≡ Some e → find cached_page v (views a).cache ≡ Some e) → (c v : ℕ) (e : CacheEntry) → find cached_page v (viewing a new views c).cache ≡ Some e → find cached_page v (views c).cache ≡ Some e
entries_before a new views before c v e =
    choose (λ view. find cached_page v view.cache ≡ Some e → find cached_page v (views c).cache ≡ Some e) c a new (views c)
    (λ same is. let Q : ℕ → Type 0 = λ n. find cached_page v (views n).cache ≡ Some e in subst Q (sym same) (before v e is)) (λ other is. is)

pub law_quiet : (g : Geometry) (m : World) (word : Where → ℕ) (a : ℕ) (new : View) → KeepsWords m.word word → KeepsView g (m.view a) new → CopyLaw g (sight_of g m) → CopyLaw g (sight_at g word (viewing a new m.view))
law_quiet g m word a new keeps view h =
    let after = sight_at g word (viewing a new m.view) in
    law_tame g (sight_of g m) after
    (stays_tame g (copy_sight (sight_of g m)) (copy_sight after) (record {
      pte = keeps.pte;
      home = keeps.home;
      mem = keeps.mem;
      fill = λ c f. view_part (λ v. fill_of v f) a new m.view (view.fill f) c;
      entry = entries_before a new m.view view.entry;
    }))
    (λ c b. view_part (λ v. option_map (copier_of g) (op_on v b)) a new m.view (view.copier b) c) h

-- the copy law reads no word of this name
abbrev pub IsUnread : Where → Type 0
IsUnread words.Req = Unit {0}
IsUnread (words.Stamp v) = Unit {0}
IsUnread (words.Shadow k) = Unit {0}
IsUnread (words.Lock b) = Unit {0}
IsUnread (words.Mark b) = Unit {0}
IsUnread (words.Ack p) = Unit {0}
IsUnread (words.Turn t) = Unit {0}
IsUnread (words.Free t k) = Unit {0}
IsUnread _ = ⊥

pub unread_keeps : (c : Where) (x : ℕ) (word : Where → ℕ) → IsUnread c → KeepsWords word (written c x word)
unread_keeps words.Req x word h = record { pte = λ v. refl; home = λ b. refl; mem = λ f i. refl }
unread_keeps (words.Stamp v) x word h = record { pte = λ v. refl; home = λ b. refl; mem = λ f i. refl }
unread_keeps (words.Shadow v) x word h = record { pte = λ v. refl; home = λ b. refl; mem = λ f i. refl }
unread_keeps (words.Lock v) x word h = record { pte = λ v. refl; home = λ b. refl; mem = λ f i. refl }
unread_keeps (words.Mark v) x word h = record { pte = λ v. refl; home = λ b. refl; mem = λ f i. refl }
unread_keeps (words.Ack v) x word h = record { pte = λ v. refl; home = λ b. refl; mem = λ f i. refl }
unread_keeps (words.Turn v) x word h = record { pte = λ v. refl; home = λ b. refl; mem = λ f i. refl }
unread_keeps (words.Free t k) x word h = record { pte = λ v. refl; home = λ b. refl; mem = λ f i. refl }
unread_keeps c x word h = absurd h

-- a word that is written again leaves every word
pub rewritten : (c : Where) (word : Where → ℕ) (d : Where) → written c (word c) word d ≡ word d
rewritten c word d = choose_name (λ n. n ≡ word d) c d (word c) (word d) (λ same. ap word same) (λ other. refl)

pub read_keeps : (c : Where) (word : Where → ℕ) → KeepsWords word (written c (word c) word)
read_keeps c word = record { pte = λ v. rewritten c word (words.Pte v); home = λ b. rewritten c word (words.Home b); mem = λ f i. rewritten c word (words.Mem f i) }

-- an exchange on a word that the law does not read, by a view that keeps what it reads
pub unread : (g : Geometry) (m : World) (a : ℕ) (action : Action) → IsUnread (where_of g (m.view a) action) → KeepsView g (m.view a) (after_of g (m.view a) action (reply_in g m a action)) → CopyLaw g (sight_of g m) → CopyLaw g (sight_of g (moved g m a action))
unread g m a action out view h =
    law_quiet g m (moved g m a action).word a (after_of g (m.view a) action (reply_in g m a action))
    (unread_keeps (where_of g (m.view a) action) (left_in g m a action) m.word out) view h

mark_keeps : (g : Geometry) (view : View) (b old new : ℕ) (r : Reply) → KeepsView g view (after_of g view (Mark b old new) r)
mark_keeps g view b old new Done = same_view g view
mark_keeps g view b old new (Word n) = same_view g view
mark_keeps g view b old new (Busy n) = same_view g view
mark_keeps g view b old new (Lost n) = same_view g view

take_keeps : (g : Geometry) (view : View) (t : ℕ) (r : Reply) → KeepsView g view (after_of g view (TakeTurn t) r)
take_keeps g view t Done = record { fill = λ f. refl; entry = λ v e is. is; copier = λ b. refl }
take_keeps g view t (Word n) = same_view g view
take_keeps g view t (Busy n) = same_view g view
take_keeps g view t (Lost n) = same_view g view

pub copies-load : (g : Geometry) (m : World) (a v i : ℕ) → CopyLaw g (sight_of g m) → CopyLaw g (sight_of g (moved g m a (Load v i)))
copies-load g m a v i h = law_quiet g m (moved g m a (Load v i)).word a (m.view a) (read_keeps (words.Mem (cached_frame (m.view a) v) i) m.word) (same_view g (m.view a)) h

pub copies-look : (g : Geometry) (m : World) (a v : ℕ) → CopyLaw g (sight_of g m) → CopyLaw g (sight_of g (moved g m a (Look v)))
copies-look g m a v h =
    let n : ℕ = m.word (words.Pte v) in
    law_quiet g m (moved g m a (Look v)).word a (after_of g (m.view a) (Look v) (Word n)) (read_keeps (words.Pte v) m.word)
    (record { fill = λ f. refl; entry = λ u e is. is; copier = λ b. part_of (copier_of g) g v (looked_at v n) b (m.view a).ops (λ o. refl) (λ o. refl) }) h

pub copies-peek : (g : Geometry) (m : World) (a v : ℕ) → CopyLaw g (sight_of g m) → CopyLaw g (sight_of g (moved g m a (Peek v)))
copies-peek g m a v h = unread g m a (Peek v) tt (record { fill = λ f. refl; entry = λ u e is. is; copier = λ b. refl }) h

pub copies-poll : (g : Geometry) (m : World) (a : ℕ) → CopyLaw g (sight_of g m) → CopyLaw g (sight_of g (moved g m a Poll))
copies-poll g m a h = unread g m a Poll tt (record { fill = λ f. refl; entry = λ u e is. is; copier = λ b. refl }) h

pub copies-raise : (g : Geometry) (m : World) (a v : ℕ) → CopyLaw g (sight_of g m) → CopyLaw g (sight_of g (moved g m a (Raise v)))
copies-raise g m a v h =
    let n : ℕ = m.word (words.Stamp v) in
    unread g m a (Raise v) tt (record { fill = λ f. refl; entry = λ u e is. is; copier = λ b. part_of (copier_of g) g v (raised_to v (n + 1)) b (m.view a).ops (λ o. refl) (λ o. refl) }) h

pub copies-take_turn : (g : Geometry) (m : World) (a t : ℕ) → CopyLaw g (sight_of g m) → CopyLaw g (sight_of g (moved g m a (TakeTurn t)))
copies-take_turn g m a t h = unread g m a (TakeTurn t) tt (take_keeps g (m.view a) t (reply_in g m a (TakeTurn t))) h

pub copies-release_turn : (g : Geometry) (m : World) (a t : ℕ) → CopyLaw g (sight_of g m) → CopyLaw g (sight_of g (moved g m a (ReleaseTurn t)))
copies-release_turn g m a t h = unread g m a (ReleaseTurn t) tt (record { fill = λ f. refl; entry = λ u e is. is; copier = λ b. refl }) h

pub copies-scan : (g : Geometry) (m : World) (a t k : ℕ) → CopyLaw g (sight_of g m) → CopyLaw g (sight_of g (moved g m a (Scan t k)))
copies-scan g m a t k h = unread g m a (Scan t k) tt (record { fill = λ f. refl; entry = λ u e is. is; copier = λ b. refl }) h

pub copies-mark : (g : Geometry) (m : World) (a b old new : ℕ) → CopyLaw g (sight_of g m) → CopyLaw g (sight_of g (moved g m a (Mark b old new)))
copies-mark g m a b old new h = unread g m a (Mark b old new) tt (mark_keeps g (m.view a) b old new (reply_in g m a (Mark b old new))) h

read_keeps_view : (g : Geometry) (view : View) (b : ℕ) (cell : Cell) (n : ℕ) → KeepsView g view (after_of g view (Read b cell) (Word n))
read_keeps_view g view b (cells.Home page) n = record { fill = λ f. refl; entry = λ u e is. is; copier = λ j. part_edit (copier_of g) b (read_cell (cells.Home page) n) j view.ops (λ o. refl) (λ o. refl) }
read_keeps_view g view b (cells.Shadow k) n = record { fill = λ f. refl; entry = λ u e is. is; copier = λ j. part_edit (copier_of g) b (read_cell (cells.Shadow k) n) j view.ops (λ o. refl) (λ o. refl) }

pub copies-read : (g : Geometry) (m : World) (a b : ℕ) (cell : Cell) → CopyLaw g (sight_of g m) → CopyLaw g (sight_of g (moved g m a (Read b cell)))
copies-read g m a b (cells.Home page) h =
    let n : ℕ = m.word (words.Home page) in
    law_quiet g m (moved g m a (Read b (cells.Home page))).word a (after_of g (m.view a) (Read b (cells.Home page)) (Word n)) (read_keeps (words.Home page) m.word) (read_keeps_view g (m.view a) b (cells.Home page) n) h
copies-read g m a b (cells.Shadow k) h =
    let n : ℕ = m.word (words.Shadow k) in
    law_quiet g m (moved g m a (Read b (cells.Shadow k))).word a (after_of g (m.view a) (Read b (cells.Shadow k)) (Word n)) (read_keeps (words.Shadow k) m.word) (read_keeps_view g (m.view a) b (cells.Shadow k) n) h

-- Bump: an operation that was due had not ended its flush, and has not ended the new one, as no processor was seen

ended_bumped : (g : Geometry) (due : Bool) (flush : Option ℕ) (seen n : ℕ) → 0 < g.cpus → is_answered g (if due then Some n else flush) (if due then 0 else seen) ≡ (not due && is_answered g flush seen)
ended_bumped g true flush seen n some = are_seen_not g.cpus 0 0 some refl
ended_bumped g false flush seen n some = refl

copier_bumped : (g : Geometry) (n : ℕ) → 0 < g.cpus → (o : Op) → copier_of g (bumped_to n o) ≡ copier_of g o
copier_bumped g n some o =
    let Made : Bool → Copier = λ ended. record { naming = names_one o.phase o.cleared o.moved; early = is_early o.phase ended; taken = o.taken; copied = o.copied; last = o.last } in
    ap Made (ended_bumped g o.due o.flush o.seen n some)

pub copies-bump : (g : Geometry) (m : World) (a : ℕ) → 0 < g.cpus → CopyLaw g (sight_of g m) → CopyLaw g (sight_of g (moved g m a Bump))
copies-bump g m a some h =
    let n : ℕ = m.word words.Req in
    unread g m a Bump tt (record { fill = λ f. refl; entry = λ u e is. is; copier = λ b. part_map (copier_of g) (bumped_to (n + 1)) b (m.view a).ops (λ o. refl) (copier_bumped g (n + 1) some) }) h

-- Ack: what is left of a cache was there before

found_filtered : {A : Type 0} (key : A → ℕ) (p : A → Bool) (k : ℕ) (xs : List A) (e : A) → Once key xs → find key k (filter p xs) ≡ Some e → find key k xs ≡ Some e
found_filtered key p k [] e once is = is
found_filtered key p k (x ∷ xs) e once is = grind (arith, is, once.0, absent_filter key p k xs, found_filtered key p k xs e once.1)

kept_before : (view : View) (to : AckTo) (v : ℕ) (e : CacheEntry) → Once cached_page view.cache → find cached_page v (kept_entries view to) ≡ Some e → find cached_page v view.cache ≡ Some e
kept_before view Seen v e once is = found_filtered cached_page (is_confirmed view.peeked) v view.cache e once is
kept_before view Off v e once is = absurd (not_none e is)
kept_before view End v e once is = absurd (not_none e is)

pub copies-ack : (g : Geometry) (m : World) (a : ℕ) (to : AckTo) → IsReady g m a (Ack to) → CopyLaw g (sight_of g m) → CopyLaw g (sight_of g (moved g m a (Ack to)))
copies-ack g m a to r h =
    unread g m a (Ack to) tt (record { fill = λ f. refl; entry = λ u e is. kept_before (m.view a) to u e (r.shaped.shape a r.actor).keyed.cache_once is; copier = λ b. refl }) h
