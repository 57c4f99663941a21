-- The kinds that touch nothing of the cache law.
use Rattle.std.proofs.Common.{◌≡◌, ℕ, Option, refl}
use Rattle.nm_base.specs.Geometry.{Geometry}
use Rattle.nm_action.specs.declared.action.Cell.{Cell}
use Rattle.nm_action.specs.declared.action.Cell.TheVariants as cells
use Rattle.nm_action.specs.declared.action.Reply.{Reply}
use Rattle.nm_action.specs.declared.action.Reply.TheVariants.{Done, Word, Busy, Lost}
use Rattle.nm_action.specs.declared.action.Action.{Action}
use Rattle.nm_action.specs.declared.action.Action.TheVariants.{Load, Store, Add, Look, CopyLoad, CopyStore, SetShadow, TakeTurn, Scan, GiveFrame, PutFrame, ReleaseTurn, Mark, Read}
use Rattle.nm_words.specs.declared.names.Where.{Where}
use Rattle.nm_words.specs.declared.names.Where.TheVariants as words
use Rattle.nm_step.specs.Table.{where_of, cell_word}
use Rattle.nm_view.specs.declared.view.CacheEntry.{CacheEntry}
use Rattle.nm_view.specs.Views.{Op, View}
use Rattle.nm_event.specs.After.{after_of, looked_at, read_cell, shaded}
use Rattle.nm_event.specs.After.{loaded, copied_one}
use Rattle.nm_world.specs.Worlds.{World, written, viewing, moved, found_in, left_in, reply_in}
use Rattle.nm_world.specs.Parts.{flight_of}
use Rattle.nm_world.specs.Notions.{IsStanding}
use Rattle.nm_world.specs.ShapeLaw.{ShapeLaw}
use Rattle.nm_world.specs.CacheLaw.{CacheLaw}
use Rattle.nm_world.proofs.Parts.{part_edit, part_under, part_of}
use Rattle.nm_caches.proofs.Shapes.{KeepsFlights, LeavesWords, table_step, after_read}

pub same_view : (view : View) → KeepsFlights view view
same_view view = record { desk = refl; flights = λ b. refl }

same_words : (word : Where → ℕ) → LeavesWords word word
same_words word = record { stamp = λ v. refl; home = λ b. refl; ack = λ p. refl; req = refl }

-- the cache law reads no word of this name
abbrev pub IsAside : Where → Type 0
IsAside (words.Shadow k) = Unit {0}
IsAside (words.Lock b) = Unit {0}
IsAside (words.Mark b) = Unit {0}
IsAside (words.Turn t) = Unit {0}
IsAside (words.Free t k) = Unit {0}
IsAside (words.Mem f i) = Unit {0}
IsAside _ = ⊥

aside_leaves : (c : Where) (x : ℕ) (word : Where → ℕ) → IsAside c → LeavesWords word (written c x word)
aside_leaves (words.Shadow k) x word h = record { stamp = λ v. refl; home = λ b. refl; ack = λ p. refl; req = refl }
aside_leaves (words.Lock b) x word h = record { stamp = λ v. refl; home = λ b. refl; ack = λ p. refl; req = refl }
aside_leaves (words.Mark b) x word h = record { stamp = λ v. refl; home = λ b. refl; ack = λ p. refl; req = refl }
aside_leaves (words.Turn t) x word h = record { stamp = λ v. refl; home = λ b. refl; ack = λ p. refl; req = refl }
aside_leaves (words.Free t k) x word h = record { stamp = λ v. refl; home = λ b. refl; ack = λ p. refl; req = refl }
aside_leaves (words.Mem f i) x word h = record { stamp = λ v. refl; home = λ b. refl; ack = λ p. refl; req = refl }
aside_leaves c x word h = absurd h

aside_stands : (c : Where) (x : ℕ) (word : Where → ℕ) (e : CacheEntry) → IsAside c → IsStanding (word (words.Pte e.vpage)) e → IsStanding (written c x word (words.Pte e.vpage)) e
aside_stands (words.Shadow k) x word e h is = is
aside_stands (words.Lock b) x word e h is = is
aside_stands (words.Mark b) x word e h is = is
aside_stands (words.Turn t) x word e h is = is
aside_stands (words.Free t k) x word e h is = is
aside_stands (words.Mem f i) x word e h is = is
aside_stands c x word e h is = absurd h

-- an exchange on a word that the law does not read, by a view that keeps what it reads
aside : (g : Geometry) (m : World) (a : ℕ) (action : Action) → IsAside (where_of g (m.view a) action) → KeepsFlights (m.view a) (after_of g (m.view a) action (reply_in g m a action)) → ShapeLaw g m → CacheLaw g m → CacheLaw g (moved g m a action)
aside g m a action out view shape h =
    let c : Where = where_of g (m.view a) action in
    let x : ℕ = left_in g m a action in
    table_step g m (written c x m.word) a (after_of g (m.view a) action (reply_in g m a action)) (aside_leaves c x m.word out) (λ e is. aside_stands c x m.word e out is) view shape h

-- a read by a view that keeps what the law reads
pub read_still : (g : Geometry) (m : World) (c : Where) (a : ℕ) (new : View) → KeepsFlights (m.view a) new → ShapeLaw g m → CacheLaw g m → CacheLaw g (record { word = written c (m.word c) m.word; view = viewing a new m.view })
read_still g m c a new view shape h = after_read g c m.word (viewing a new m.view) (table_step g m m.word a new (same_words m.word) (λ e is. is) view shape h)

pub cache_load : (g : Geometry) (m : World) (a v i : ℕ) → ShapeLaw g m → CacheLaw g m → CacheLaw g (moved g m a (Load v i))
cache_load g m a v i shape h = aside g m a (Load v i) tt (same_view (m.view a)) shape h

pub cache_store : (g : Geometry) (m : World) (a v i x : ℕ) → ShapeLaw g m → CacheLaw g m → CacheLaw g (moved g m a (Store v i x))
cache_store g m a v i x shape h = aside g m a (Store v i x) tt (same_view (m.view a)) shape h

pub cache_add : (g : Geometry) (m : World) (a v i x : ℕ) → ShapeLaw g m → CacheLaw g m → CacheLaw g (moved g m a (Add v i x))
cache_add g m a v i x shape h = aside g m a (Add v i x) tt (same_view (m.view a)) shape h

pub cache_look : (g : Geometry) (m : World) (a v : ℕ) → ShapeLaw g m → CacheLaw g m → CacheLaw g (moved g m a (Look v))
cache_look g m a v shape h =
    let n : ℕ = m.word (words.Pte v) in
    read_still g m (words.Pte v) a (after_of g (m.view a) (Look v) (Word n)) (record { desk = refl; flights = λ b. part_of flight_of g v (looked_at v n) b (m.view a).ops (λ o. refl) (λ o. refl) }) shape h

pub cache_copy_load : (g : Geometry) (m : World) (a b i : ℕ) → ShapeLaw g m → CacheLaw g m → CacheLaw g (moved g m a (CopyLoad b i))
cache_copy_load g m a b i shape h =
    let n : ℕ = found_in g m a (CopyLoad b i) in
    aside g m a (CopyLoad b i) tt (record { desk = refl; flights = λ k. part_edit flight_of b (loaded n) k (m.view a).ops (λ o. refl) (λ o. refl) }) shape h

pub cache_copy_store : (g : Geometry) (m : World) (a : ℕ) (b : Option ℕ) (f i x : ℕ) → ShapeLaw g m → CacheLaw g m → CacheLaw g (moved g m a (CopyStore b f i x))
cache_copy_store g m a b f i x shape h =
    aside g m a (CopyStore b f i x) tt (record { desk = refl; flights = λ k. part_under flight_of b copied_one k (m.view a).ops (λ o. refl) (λ o. refl) }) shape h

pub cache_set_shadow : (g : Geometry) (m : World) (a b k : ℕ) (s : Option ℕ) → ShapeLaw g m → CacheLaw g m → CacheLaw g (moved g m a (SetShadow b k s))
cache_set_shadow g m a b k s shape h =
    aside g m a (SetShadow b k s) tt (record { desk = refl; flights = λ j. part_edit flight_of b (shaded b s) j (m.view a).ops (λ o. refl) (λ o. refl) }) shape h

turn_still : (g : Geometry) (view : View) (t : ℕ) (r : Reply) → KeepsFlights view (after_of g view (TakeTurn t) r)
turn_still g view t Done = record { desk = refl; flights = λ b. refl }
turn_still g view t (Word n) = same_view view
turn_still g view t (Busy n) = same_view view
turn_still g view t (Lost n) = same_view view

pub cache_take_turn : (g : Geometry) (m : World) (a t : ℕ) → ShapeLaw g m → CacheLaw g m → CacheLaw g (moved g m a (TakeTurn t))
cache_take_turn g m a t shape h =
    aside g m a (TakeTurn t) tt (turn_still g (m.view a) t (reply_in g m a (TakeTurn t))) shape h

pub cache_release_turn : (g : Geometry) (m : World) (a t : ℕ) → ShapeLaw g m → CacheLaw g m → CacheLaw g (moved g m a (ReleaseTurn t))
cache_release_turn g m a t shape h = aside g m a (ReleaseTurn t) tt (record { desk = refl; flights = λ b. refl }) shape h

pub cache_scan : (g : Geometry) (m : World) (a t k : ℕ) → ShapeLaw g m → CacheLaw g m → CacheLaw g (moved g m a (Scan t k))
cache_scan g m a t k shape h = aside g m a (Scan t k) tt (record { desk = refl; flights = λ b. refl }) shape h

pub cache_give_frame : (g : Geometry) (m : World) (a f : ℕ) → ShapeLaw g m → CacheLaw g m → CacheLaw g (moved g m a (GiveFrame f))
cache_give_frame g m a f shape h = aside g m a (GiveFrame f) tt (record { desk = refl; flights = λ b. refl }) shape h

pub cache_put_frame : (g : Geometry) (m : World) (a f : ℕ) → ShapeLaw g m → CacheLaw g m → CacheLaw g (moved g m a (PutFrame f))
cache_put_frame g m a f shape h = aside g m a (PutFrame f) tt (record { desk = refl; flights = λ b. refl }) shape h

mark_still : (g : Geometry) (view : View) (b old new : ℕ) (r : Reply) → KeepsFlights view (after_of g view (Mark b old new) r)
mark_still g view b old new Done = same_view view
mark_still g view b old new (Word n) = same_view view
mark_still g view b old new (Busy n) = same_view view
mark_still g view b old new (Lost n) = same_view view

pub cache_mark : (g : Geometry) (m : World) (a b old new : ℕ) → ShapeLaw g m → CacheLaw g m → CacheLaw g (moved g m a (Mark b old new))
cache_mark g m a b old new shape h =
    aside g m a (Mark b old new) tt (mark_still g (m.view a) b old new (reply_in g m a (Mark b old new))) shape h

read_page : (cell : Cell) (n : ℕ) (o : Op) → (read_cell cell n o).page ≡ o.page
read_page (cells.Home b) n o = refl
read_page (cells.Shadow k) n o = refl

read_flight : (cell : Cell) (n : ℕ) (o : Op) → flight_of (read_cell cell n o) ≡ flight_of o
read_flight (cells.Home b) n o = refl
read_flight (cells.Shadow k) n o = refl

pub cache_read : (g : Geometry) (m : World) (a b : ℕ) (cell : Cell) → ShapeLaw g m → CacheLaw g m → CacheLaw g (moved g m a (Read b cell))
cache_read g m a b cell shape h =
    let n : ℕ = m.word (cell_word cell) in
    read_still g m (cell_word cell) a (after_of g (m.view a) (Read b cell) (Word n)) (record { desk = refl; flights = λ k. part_edit flight_of b (read_cell cell n) k (m.view a).ops (read_page cell n) (read_flight cell n) }) shape h
