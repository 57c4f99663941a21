-- Mirrors the reader: what stands first in a text, and what follows it.
use Rattle.std.specs.Prelude.{ℕ, ◌^◌, nat_lt, if◌then◌else◌, Bool, true, false, List, [], Option, Some, None, codes}
use Rattle.std.specs.Str.{bytes_eq}
use Rattle.nm_text.specs.Cuts.{cut_of, strip_of}
use Rattle.nm_text.specs.Fields.{◌>>=◌}
use Rattle.nm_text.specs.Kinds.{all_kinds, kind_among}
use Rattle.nm_text.specs.Numbers.{number_of}
use Rattle.nm_action.specs.declared.action.AckTo.{AckTo}
use Rattle.nm_action.specs.declared.action.AckTo.TheVariants.{Seen, Off, End}
use Rattle.nm_action.specs.declared.action.Bit.{Bit}
use Rattle.nm_action.specs.declared.action.Bit.TheVariants.{Hint, Accessed}
use Rattle.nm_action.specs.declared.action.Cell.{Cell}
use Rattle.nm_action.specs.declared.action.Cell.TheVariants.{Home, Shadow}
use Rattle.nm_action.specs.declared.action.Action.{Action}
use Rattle.nm_action.specs.declared.action.Action.TheVariants.{Load, Store, Add, Look, Walk, Peek, Poll, Ack, Lock, Unlock, Bump, SeeAck, Raise, Soften, Arm, ClearDirty, Unmap, Map, Grant, CopyLoad, CopyStore, SetHome, SetShadow, TakeTurn, Scan, GiveFrame, PutFrame, ReleaseTurn, Mark, Read}
use Rattle.nm_action.specs.declared.action.Reply.{Reply}
use Rattle.nm_action.specs.declared.action.Reply.TheVariants.{Done, Word, Busy, Lost}
use Rattle.nm_action.specs.declared.action.Event.{Event}
use Rattle.nm_action.specs.declared.kind.ActionKind.{ActionKind}
use Rattle.nm_action.specs.declared.kind.ActionKind.TheVariants as kinds

-- ---- fields

-- a number of 64 bits
unfoldable pub wide_in : List ℕ → Option (ℕ × List ℕ)
wide_in text = do
  p ← cut_of 32 text
  n ← number_of p.0
  Some (n, p.1)

-- a number of 32 bits
unfoldable pub small_in : List ℕ → Option (ℕ × List ℕ)
small_in text = do
  p ← wide_in text
  if nat_lt p.0 (2 ^ 32) then Some p else None

-- a number of 32 bits, or -
unfoldable pub maybe_in : List ℕ → Option (Option ℕ × List ℕ)
maybe_in text =
    elim (strip_of (codes "- ") text) as (λ _. Option (Option ℕ × List ℕ)) [
      | Some rest ↦ Some (None, rest)
      | None ↦ do
        p ← small_in text
        Some (Some p.0, p.1)
    ]

abbrev pub ack_of : ℕ → Option AckTo
ack_of n = if nat_lt n 1 then Some Seen else if nat_lt n 2 then Some Off else if nat_lt n 3 then Some End else None

abbrev pub flag_of : ℕ → Option Bool
flag_of n = if nat_lt n 1 then Some false else if nat_lt n 2 then Some true else None

abbrev pub bit_of : ℕ → Option Bit
bit_of n = if nat_lt n 1 then Some Hint else if nat_lt n 2 then Some Accessed else None

abbrev pub cell_of : ℕ → ℕ → Option Cell
cell_of n m = if nat_lt n 1 then Some (Home m) else if nat_lt n 2 then Some (Shadow m) else None

unfoldable pub ack_in : List ℕ → Option (AckTo × List ℕ)
ack_in text = do
  p ← wide_in text
  to ← ack_of p.0
  Some (to, p.1)

unfoldable pub flag_in : List ℕ → Option (Bool × List ℕ)
flag_in text = do
  p ← wide_in text
  flag ← flag_of p.0
  Some (flag, p.1)

unfoldable pub bit_in : List ℕ → Option (Bit × List ℕ)
bit_in text = do
  p ← wide_in text
  bit ← bit_of p.0
  Some (bit, p.1)

unfoldable pub cell_in : List ℕ → Option (Cell × List ℕ)
cell_in text = do
  p ← wide_in text
  q ← small_in p.1
  cell ← cell_of p.0 q.0
  Some (cell, q.1)

-- two numbers of 32 bits
unfoldable pub two_in : List ℕ → Option (ℕ × ℕ × List ℕ)
two_in text = do
  p ← small_in text
  q ← small_in p.1
  Some (p.0, q.0, q.1)

-- a number of 32 bits and one of 64
unfoldable pub word_in : List ℕ → Option (ℕ × ℕ × List ℕ)
word_in text = do
  p ← small_in text
  q ← wide_in p.1
  Some (p.0, q.0, q.1)

-- two numbers of 32 bits and one of 64
unfoldable pub value_in : List ℕ → Option (ℕ × ℕ × ℕ × List ℕ)
value_in text = do
  p ← two_in text
  q ← wide_in p.2
  Some (p.0, p.1, q.0, q.1)

-- ---- actions

-- an action of this kind, by the fields of its kind
unfoldable pub action_in : ActionKind → List ℕ → Option (Action × List ℕ)
action_in kinds.Load text = do
  p ← two_in text
  Some (Load p.0 p.1, p.2)
action_in kinds.Store text = do
  p ← value_in text
  Some (Store p.0 p.1 p.2, p.3)
action_in kinds.Add text = do
  p ← value_in text
  Some (Add p.0 p.1 p.2, p.3)
action_in kinds.Look text = do
  p ← small_in text
  Some (Look p.0, p.1)
action_in kinds.Walk text = do
  p ← word_in text
  q ← flag_in p.2
  Some (Walk p.0 p.1 q.0, q.1)
action_in kinds.Peek text = do
  p ← small_in text
  Some (Peek p.0, p.1)
action_in kinds.Poll text = Some (Poll, text)
action_in kinds.Ack text = do
  p ← ack_in text
  Some (Ack p.0, p.1)
action_in kinds.Lock text = do
  p ← small_in text
  Some (Lock p.0, p.1)
action_in kinds.Unlock text = do
  p ← small_in text
  Some (Unlock p.0, p.1)
action_in kinds.Bump text = Some (Bump, text)
action_in kinds.SeeAck text = do
  p ← small_in text
  Some (SeeAck p.0, p.1)
action_in kinds.Raise text = do
  p ← small_in text
  Some (Raise p.0, p.1)
action_in kinds.Soften text = do
  p ← small_in text
  q ← bit_in p.1
  Some (Soften p.0 q.0, q.1)
action_in kinds.Arm text = do
  p ← small_in text
  Some (Arm p.0, p.1)
action_in kinds.ClearDirty text = do
  p ← small_in text
  Some (ClearDirty p.0, p.1)
action_in kinds.Unmap text = do
  p ← small_in text
  Some (Unmap p.0, p.1)
action_in kinds.Map text = do
  p ← word_in text
  Some (Map p.0 p.1, p.2)
action_in kinds.Grant text = do
  p ← small_in text
  Some (Grant p.0, p.1)
action_in kinds.CopyLoad text = do
  p ← two_in text
  Some (CopyLoad p.0 p.1, p.2)
action_in kinds.CopyStore text = do
  p ← maybe_in text
  q ← value_in p.1
  Some (CopyStore p.0 q.0 q.1 q.2, q.3)
action_in kinds.SetHome text = do
  p ← two_in text
  Some (SetHome p.0 p.1, p.2)
action_in kinds.SetShadow text = do
  p ← two_in text
  q ← maybe_in p.2
  Some (SetShadow p.0 p.1 q.0, q.1)
action_in kinds.TakeTurn text = do
  p ← small_in text
  Some (TakeTurn p.0, p.1)
action_in kinds.Scan text = do
  p ← two_in text
  Some (Scan p.0 p.1, p.2)
action_in kinds.GiveFrame text = do
  p ← small_in text
  Some (GiveFrame p.0, p.1)
action_in kinds.PutFrame text = do
  p ← small_in text
  Some (PutFrame p.0, p.1)
action_in kinds.ReleaseTurn text = do
  p ← small_in text
  Some (ReleaseTurn p.0, p.1)
action_in kinds.Mark text = do
  p ← word_in text
  q ← wide_in p.2
  Some (Mark p.0 p.1 q.0, q.1)
action_in kinds.Read text = do
  p ← small_in text
  q ← cell_in p.1
  Some (Read p.0 q.0, q.1)

-- ---- replies, which end a line

unfoldable pub word_of : List ℕ → List ℕ → Option ℕ
word_of word text = do
  rest ← strip_of word text
  number_of rest

-- the first of the three replies that have a number
unfoldable pub number_reply_of : List ℕ → Option Reply
number_reply_of text =
    elim (word_of (codes "word ") text) as (λ _. Option Reply) [
      | Some n ↦ Some (Word n)
      | None ↦ elim (word_of (codes "busy ") text) as (λ _. Option Reply) [
        | Some n ↦ Some (Busy n)
        | None ↦ do
          n ← word_of (codes "lost ") text
          Some (Lost n)
      ]
    ]

unfoldable pub reply_of : List ℕ → Option Reply
reply_of text = if bytes_eq text (codes "done") then Some Done else number_reply_of text

-- ---- lines

-- an action, by its kind
unfoldable pub act_in : List ℕ → Option (Action × List ℕ)
act_in text = do
  p ← cut_of 32 text
  kind ← kind_among all_kinds p.0
  action_in kind p.1

-- the event of a line
unfoldable pub event_of : List ℕ → Option Event
event_of line = do
  actor ← small_in line
  act ← act_in actor.1
  rest ← strip_of (codes "= ") act.1
  reply ← reply_of rest
  Some (record { actor = actor.0; action = act.0; reply = reply })
