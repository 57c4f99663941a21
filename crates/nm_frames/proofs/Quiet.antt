-- The kinds that touch nothing that the frame law reads.
use Rattle.std.proofs.Common.{◌≡◌, ℕ, ◌+◌, Option, refl}
use Rattle.nm_base.specs.Geometry.{Geometry}
use Rattle.nm_action.specs.declared.action.AckTo.{AckTo}
use Rattle.nm_action.specs.declared.action.Cell.{Cell}
use Rattle.nm_action.specs.declared.action.Cell.TheVariants as cells
use Rattle.nm_action.specs.declared.action.Reply.{Reply}
use Rattle.nm_action.specs.declared.action.Reply.TheVariants.{Done, Word, Busy, Lost}
use Rattle.nm_action.specs.declared.action.Action.{Action}
use Rattle.nm_action.specs.declared.action.Action.TheVariants.{Load, Store, Add, Look, Peek, Poll, Ack, Bump, SeeAck, Raise, CopyLoad, CopyStore, TakeTurn, ReleaseTurn, Scan, Mark, Read}
use Rattle.nm_words.specs.declared.names.Where.TheVariants as words
use Rattle.nm_step.specs.Table.{where_of, home_frame, cell_word}
use Rattle.nm_view.specs.Views.{Op, View}
use Rattle.nm_event.specs.After.{after_of, bumped_to, seen_at, raised_to, looked_at, read_cell, loaded, copied_one, filled, stored_fill}
use Rattle.nm_world.specs.Worlds.{World, moved, left_in, reply_in}
use Rattle.nm_world.specs.Sights.{sight_of}
use Rattle.nm_world.specs.FrameLaw.{FrameLaw}
use Rattle.nm_world.proofs.Parts.{part_edit, part_under, part_of, part_map}
use Rattle.nm_frames.proofs.Still.{takings_of, IsUnread, KeepsView, same_view, same_fills, edit_fills, unread_keeps, read_keeps, frames_quiet}

-- an exchange on a word that the law does not read, by a view that keeps what it reads
unread : (g : Geometry) (m : World) (a : ℕ) (action : Action) → IsUnread (where_of g (m.view a) action) → KeepsView (m.view a) (after_of g (m.view a) action (reply_in g m a action)) → FrameLaw g (sight_of g m) → FrameLaw g (sight_of g (moved g m a action))
unread g m a action out view law =
    frames_quiet g m (moved g m a action).word a (after_of g (m.view a) action (reply_in g m a action))
    (unread_keeps g (where_of g (m.view a) action) (left_in g m a action) m.word out) view law

pub frames_load : (g : Geometry) (m : World) (a v i : ℕ) → FrameLaw g (sight_of g m) → FrameLaw g (sight_of g (moved g m a (Load v i)))
frames_load g m a v i law = unread g m a (Load v i) tt (same_view (m.view a)) law

pub frames_store : (g : Geometry) (m : World) (a v i x : ℕ) → FrameLaw g (sight_of g m) → FrameLaw g (sight_of g (moved g m a (Store v i x)))
frames_store g m a v i x law = unread g m a (Store v i x) tt (same_view (m.view a)) law

pub frames_add : (g : Geometry) (m : World) (a v i x : ℕ) → FrameLaw g (sight_of g m) → FrameLaw g (sight_of g (moved g m a (Add v i x)))
frames_add g m a v i x law = unread g m a (Add v i x) tt (same_view (m.view a)) law

pub frames_peek : (g : Geometry) (m : World) (a v : ℕ) → FrameLaw g (sight_of g m) → FrameLaw g (sight_of g (moved g m a (Peek v)))
frames_peek g m a v law = unread g m a (Peek v) tt (record { takings = λ b. refl; fills = λ f. same_fills }) law

pub frames_poll : (g : Geometry) (m : World) (a : ℕ) → FrameLaw g (sight_of g m) → FrameLaw g (sight_of g (moved g m a Poll))
frames_poll g m a law = unread g m a Poll tt (record { takings = λ b. refl; fills = λ f. same_fills }) law

pub frames_ack : (g : Geometry) (m : World) (a : ℕ) (to : AckTo) → FrameLaw g (sight_of g m) → FrameLaw g (sight_of g (moved g m a (Ack to)))
frames_ack g m a to law = unread g m a (Ack to) tt (record { takings = λ b. refl; fills = λ f. same_fills }) law

pub frames_bump : (g : Geometry) (m : World) (a : ℕ) → FrameLaw g (sight_of g m) → FrameLaw g (sight_of g (moved g m a Bump))
frames_bump g m a law =
    let n : ℕ = m.word words.Req in
    unread g m a Bump tt (record { takings = λ b. part_map takings_of (bumped_to (n + 1)) b (m.view a).ops (λ o. refl) (λ o. refl); fills = λ f. same_fills }) law

pub frames_see : (g : Geometry) (m : World) (a p : ℕ) → FrameLaw g (sight_of g m) → FrameLaw g (sight_of g (moved g m a (SeeAck p)))
frames_see g m a p law =
    let n : ℕ = m.word (words.Ack p) in
    unread g m a (SeeAck p) tt (record { takings = λ b. part_map takings_of (seen_at p n) b (m.view a).ops (λ o. refl) (λ o. refl); fills = λ f. same_fills }) law

pub frames_raise : (g : Geometry) (m : World) (a v : ℕ) → FrameLaw g (sight_of g m) → FrameLaw g (sight_of g (moved g m a (Raise v)))
frames_raise g m a v law =
    let n : ℕ = m.word (words.Stamp v) in
    unread g m a (Raise v) tt (record { takings = λ b. part_of takings_of g v (raised_to v (n + 1)) b (m.view a).ops (λ o. refl) (λ o. refl); fills = λ f. same_fills }) law

pub frames_copy_load : (g : Geometry) (m : World) (a b i : ℕ) → FrameLaw g (sight_of g m) → FrameLaw g (sight_of g (moved g m a (CopyLoad b i)))
frames_copy_load g m a b i law =
    let n : ℕ = m.word (words.Mem (home_frame (m.view a) b) i) in
    unread g m a (CopyLoad b i) tt (record { takings = λ k. part_edit takings_of b (loaded n) k (m.view a).ops (λ o. refl) (λ o. refl); fills = λ f. same_fills }) law

pub frames_copy_store : (g : Geometry) (m : World) (a : ℕ) (b : Option ℕ) (f i x : ℕ) → FrameLaw g (sight_of g m) → FrameLaw g (sight_of g (moved g m a (CopyStore b f i x)))
frames_copy_store g m a b f i x law =
    unread g m a (CopyStore b f i x) tt (record {
      takings = λ k. part_under takings_of b copied_one k (m.view a).ops (λ o. refl) (λ o. refl);
      fills = λ h. edit_fills f (filled (stored_fill b (i + 1))) h (m.view a).owned (λ w. refl);
    }) law

mark_still : (g : Geometry) (view : View) (b old new : ℕ) (r : Reply) → KeepsView view (after_of g view (Mark b old new) r)
mark_still g view b old new Done = same_view view
mark_still g view b old new (Word n) = same_view view
mark_still g view b old new (Busy n) = same_view view
mark_still g view b old new (Lost n) = same_view view

pub frames_mark : (g : Geometry) (m : World) (a b old new : ℕ) → FrameLaw g (sight_of g m) → FrameLaw g (sight_of g (moved g m a (Mark b old new)))
frames_mark g m a b old new law = unread g m a (Mark b old new) tt (mark_still g (m.view a) b old new (reply_in g m a (Mark b old new))) law

take_still : (g : Geometry) (view : View) (t : ℕ) (r : Reply) → KeepsView view (after_of g view (TakeTurn t) r)
take_still g view t Done = record { takings = λ b. refl; fills = λ f. same_fills }
take_still g view t (Word n) = same_view view
take_still g view t (Busy n) = same_view view
take_still g view t (Lost n) = same_view view

pub frames_take_turn : (g : Geometry) (m : World) (a t : ℕ) → FrameLaw g (sight_of g m) → FrameLaw g (sight_of g (moved g m a (TakeTurn t)))
frames_take_turn g m a t law = unread g m a (TakeTurn t) tt (take_still g (m.view a) t (reply_in g m a (TakeTurn t))) law

pub frames_release_turn : (g : Geometry) (m : World) (a t : ℕ) → FrameLaw g (sight_of g m) → FrameLaw g (sight_of g (moved g m a (ReleaseTurn t)))
frames_release_turn g m a t law = unread g m a (ReleaseTurn t) tt (record { takings = λ b. refl; fills = λ f. same_fills }) law

pub frames_scan : (g : Geometry) (m : World) (a t k : ℕ) → FrameLaw g (sight_of g m) → FrameLaw g (sight_of g (moved g m a (Scan t k)))
frames_scan g m a t k law =
    frames_quiet g m (moved g m a (Scan t k)).word a (after_of g (m.view a) (Scan t k) (reply_in g m a (Scan t k)))
    (read_keeps g (words.Free t k) m.word) (record { takings = λ b. refl; fills = λ f. same_fills }) law

pub frames_look : (g : Geometry) (m : World) (a v : ℕ) → FrameLaw g (sight_of g m) → FrameLaw g (sight_of g (moved g m a (Look v)))
frames_look g m a v law =
    let n : ℕ = m.word (words.Pte v) in
    frames_quiet g m (moved g m a (Look v)).word a (after_of g (m.view a) (Look v) (Word n))
    (read_keeps g (words.Pte v) m.word)
    (record { takings = λ b. part_of takings_of g v (looked_at v n) b (m.view a).ops (λ o. refl) (λ o. refl); fills = λ f. same_fills }) law

read_page : (cell : Cell) (n : ℕ) (o : Op) → (read_cell cell n o).page ≡ o.page
read_page (cells.Home page) n o = refl
read_page (cells.Shadow frame) n o = refl

read_takings : (cell : Cell) (n : ℕ) (o : Op) → takings_of (read_cell cell n o) ≡ takings_of o
read_takings (cells.Home page) n o = refl
read_takings (cells.Shadow frame) n o = refl

pub frames_read : (g : Geometry) (m : World) (a b : ℕ) (cell : Cell) → FrameLaw g (sight_of g m) → FrameLaw g (sight_of g (moved g m a (Read b cell)))
frames_read g m a b cell law =
    let n : ℕ = m.word (cell_word cell) in
    frames_quiet g m (moved g m a (Read b cell)).word a (after_of g (m.view a) (Read b cell) (Word n))
    (read_keeps g (cell_word cell) m.word)
    (record { takings = λ k. part_edit takings_of b (read_cell cell n) k (m.view a).ops (read_page cell n) (read_takings cell n); fills = λ f. same_fills }) law
