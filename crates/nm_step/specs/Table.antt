-- The step as a table: for each kind of action the word on which it is an exchange, and the exchange; and the reply, which
-- follows from the exchange.
use Rattle.std.specs.Prelude.{ℕ, ◌+◌, ◌-◌, ◌^◌, ◌==◌, if◌then◌else◌, Option, Some, None}
use Rattle.nm_base.specs.Geometry.{Geometry, tier_of}
use Rattle.nm_base.specs.PageWord.{hint_mask, dirty_mask, accessed_mask, grant_mask, all_but, walked_word}
use Rattle.nm_base.specs.HomeWord.{home_word}
use Rattle.nm_action.specs.declared.action.AckTo.{AckTo}
use Rattle.nm_action.specs.declared.action.AckTo.TheVariants as acks
use Rattle.nm_action.specs.declared.action.Bit.{Bit}
use Rattle.nm_action.specs.declared.action.Bit.TheVariants.{Hint, Accessed}
use Rattle.nm_action.specs.declared.action.Cell.{Cell}
use Rattle.nm_action.specs.declared.action.Cell.TheVariants as cells
use Rattle.nm_action.specs.declared.action.Reply.{Reply}
use Rattle.nm_action.specs.declared.action.Reply.TheVariants.{Done, Word, Busy, Lost}
use Rattle.nm_action.specs.declared.action.Action.{Action}
use Rattle.nm_action.specs.declared.action.Action.TheVariants.{Load, Store, Add, Look, Walk, Peek, Poll, Ack, Lock, Unlock, Bump, SeeAck, Raise, Soften, Arm, ClearDirty, Unmap, Map, Grant, CopyLoad, CopyStore, SetHome, SetShadow, TakeTurn, Scan, GiveFrame, PutFrame, ReleaseTurn, Mark, Read}
use Rattle.nm_view.specs.declared.view.CacheEntry.{CacheEntry}
use Rattle.nm_view.specs.Lists.{find}
use Rattle.nm_view.specs.Views.{View, off_word, end_word}
use Rattle.nm_base.specs.ShadowWord.{shadow_word}
use Rattle.nm_base.specs.FreeWords.{free_index, free_bit}
use Rattle.nm_view.specs.Operations.{cached_page, op_on, known_home}
use Rattle.nm_words.specs.declared.names.Where.{Where}
use Rattle.nm_words.specs.declared.names.Where.TheVariants as words
use Rattle.nm_words.specs.declared.exchanges.Change.{Change}
use Rattle.nm_words.specs.declared.exchanges.Change.TheVariants as changes

-- Words.

-- the frame of a cached translation (0 where there is none, of which nothing is claimed)
abbrev pub entry_frame : Option CacheEntry → ℕ
entry_frame None = 0
entry_frame (Some e) = e.frame

-- the frame to which the cached translation of v leads
abbrev pub cached_frame : View → ℕ → ℕ
cached_frame view v = entry_frame (find cached_page v view.cache)

-- the frame that a known home word names (0 where it names none, of which nothing is claimed)
abbrev pub named_frame : Option ℕ → ℕ
named_frame None = 0
named_frame (Some home) = home - 1

-- the frame that the operation on a page knows as its home
abbrev pub home_frame : View → ℕ → ℕ
home_frame view page = named_frame (known_home (op_on view page))

-- the word in which a frame has its bit
abbrev pub free_word_of : Geometry → ℕ → Where
free_word_of g f = words.Free (tier_of g f) (free_index g f)

-- the word that a Read reads
abbrev pub cell_word : Cell → Where
cell_word (cells.Home page) = words.Home page
cell_word (cells.Shadow frame) = words.Shadow frame

-- What is written.

-- what an acknowledgement says
abbrev pub acked_word : View → AckTo → ℕ
acked_word view acks.Seen = view.req_seen
acked_word view acks.Off = off_word
acked_word view acks.End = end_word

-- the flag of a table word that a Soften clears
abbrev pub bit_mask : Bit → ℕ
bit_mask Hint = hint_mask
bit_mask Accessed = accessed_mask

-- The table.

-- the word on which an action is an exchange, and the exchange
abbrev pub exchange_of : Geometry → View → Action → Where × Change
exchange_of g view (Load v i) = (words.Mem (cached_frame view v) i, changes.Keep)
exchange_of g view (Store v i x) = (words.Mem (cached_frame view v) i, changes.Swap x)
exchange_of g view (Add v i x) = (words.Mem (cached_frame view v) i, changes.Add x)
exchange_of g view (Look v) = (words.Pte v, changes.Keep)
exchange_of g view (Walk v e write) = (words.Pte v, changes.IfIs e (walked_word e write))
exchange_of g view (Peek v) = (words.Stamp v, changes.Keep)
exchange_of g view Poll = (words.Req, changes.Keep)
exchange_of g view (Ack to) = (words.Ack view.number, changes.Put (acked_word view to))
exchange_of g view (Lock b) = (words.Lock b, changes.Take (view.number + 1))
exchange_of g view (Unlock b) = (words.Lock b, changes.Put 0)
exchange_of g view Bump = (words.Req, changes.Add 1)
exchange_of g view (SeeAck p) = (words.Ack p, changes.Keep)
exchange_of g view (Raise v) = (words.Stamp v, changes.Add 1)
exchange_of g view (Soften v bit) = (words.Pte v, changes.And (all_but (bit_mask bit)))
exchange_of g view (Arm v) = (words.Pte v, changes.Or hint_mask)
exchange_of g view (ClearDirty v) = (words.Pte v, changes.And (all_but dirty_mask))
exchange_of g view (Unmap v) = (words.Pte v, changes.Swap 0)
exchange_of g view (Map v word) = (words.Pte v, changes.Put word)
exchange_of g view (Grant v) = (words.Pte v, changes.Xor grant_mask)
exchange_of g view (CopyLoad b i) = (words.Mem (home_frame view b) i, changes.Keep)
exchange_of g view (CopyStore b f i x) = (words.Mem f i, changes.Put x)
exchange_of g view (SetHome b f) = (words.Home b, changes.Put (home_word f))
exchange_of g view (SetShadow b m s) = (words.Shadow m, changes.Put (shadow_word b s))
exchange_of g view (TakeTurn t) = (words.Turn t, changes.Take (view.number + 1))
exchange_of g view (Scan t k) = (words.Free t k, changes.Keep)
exchange_of g view (GiveFrame f) = (free_word_of g f, changes.And (all_but (2 ^ free_bit g f)))
exchange_of g view (PutFrame f) = (free_word_of g f, changes.Or (2 ^ free_bit g f))
exchange_of g view (ReleaseTurn t) = (words.Turn t, changes.Put 0)
exchange_of g view (Mark b old new) = (words.Mark b, changes.IfIs old new)
exchange_of g view (Read b cell) = (cell_word cell, changes.Keep)

abbrev pub where_of : Geometry → View → Action → Where
where_of g view action = (exchange_of g view action).0

abbrev pub change_of : Geometry → View → Action → Change
change_of g view action = (exchange_of g view action).1

-- Replies.

-- the reply of an exchange, which the word before it decides: a put tells nothing, and one that asks for a word refuses with
-- the word found where it is another
abbrev pub reply_of : Change → ℕ → Reply
reply_of changes.Keep n = Word n
reply_of (changes.Swap x) n = Word n
reply_of (changes.Put x) n = Done
reply_of (changes.Add k) n = Word n
reply_of (changes.And k) n = Word n
reply_of (changes.Or k) n = Word n
reply_of (changes.Xor k) n = Word n
reply_of (changes.Take x) n = if n == 0 then Done else Busy n
reply_of (changes.IfIs old new) n = if n == old then Done else Lost n

abbrev pub IsTold : Reply → Type 0
IsTold Done = ⊥
IsTold (Word n) = Unit {0}
IsTold (Busy n) = ⊥
IsTold (Lost n) = ⊥

abbrev pub IsDone : Reply → Type 0
IsDone Done = Unit {0}
IsDone (Word n) = ⊥
IsDone (Busy n) = ⊥
IsDone (Lost n) = ⊥

abbrev pub IsDoneOrBusy : Reply → Type 0
IsDoneOrBusy Done = Unit {0}
IsDoneOrBusy (Word n) = ⊥
IsDoneOrBusy (Busy n) = Unit {0}
IsDoneOrBusy (Lost n) = ⊥

abbrev pub IsDoneOrLost : Reply → Type 0
IsDoneOrLost Done = Unit {0}
IsDoneOrLost (Word n) = ⊥
IsDoneOrLost (Busy n) = ⊥
IsDoneOrLost (Lost n) = Unit {0}

-- a reply is of the kind that an exchange has
abbrev pub IsReplyTo : Change → Reply → Type 0
IsReplyTo changes.Keep reply = IsTold reply
IsReplyTo (changes.Swap x) reply = IsTold reply
IsReplyTo (changes.Put x) reply = IsDone reply
IsReplyTo (changes.Add k) reply = IsTold reply
IsReplyTo (changes.And k) reply = IsTold reply
IsReplyTo (changes.Or k) reply = IsTold reply
IsReplyTo (changes.Xor k) reply = IsTold reply
IsReplyTo (changes.Take x) reply = IsDoneOrBusy reply
IsReplyTo (changes.IfIs old new) reply = IsDoneOrLost reply
