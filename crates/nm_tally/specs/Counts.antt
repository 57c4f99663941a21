-- What is counted of an actor's own list, event by event. In all of these `before` is what came before an event, the last
-- event first.
use Rattle.std.specs.Prelude.{ℕ, ◌==◌, ◌&&◌, ◌||◌, not, if◌then◌else◌, Bool, true, false, [], ◌∷◌, Some, None}
use Rattle.nm_action.specs.declared.action.Action.{Action}
use Rattle.nm_action.specs.declared.action.Action.TheVariants.{Peek, Poll, Ack, Lock, Unlock, Bump, Soften, Grant, CopyStore, SetShadow, TakeTurn, PutFrame, ReleaseTurn, Mark}
use Rattle.nm_action.specs.declared.action.Bit.TheVariants.{Hint}
use Rattle.nm_action.specs.declared.action.Reply.{Reply}
use Rattle.nm_action.specs.declared.action.Reply.TheVariants.{Done}
use Rattle.nm_action.specs.declared.tally.Tally.{Tally}
use Rattle.nm_action.specs.Own.{Own}
use Rattle.nm_action.specs.Tally.{sum_of}

-- nothing was counted
abbrev pub zero_tally : Tally
zero_tally = record { demand = 0; alias = 0; hint = 0; shadow = 0; marked = 0; spilled = 0; cold = 0; committed = 0; moved = 0; noframe = 0; gone = 0; worn = 0; aborted = 0; remapped = 0; copied = 0; words = 0; flushes = 0; reclaimed = 0 }

-- An operation on a page is open where the actor has the page locked: the last of the Locks of the page that were had and of
-- its Unlocks is a Lock.

abbrev pub locked_with : ℕ → Action → Reply → Bool → Bool
locked_with page (Lock b) Done locked = (b == page) || locked
locked_with page (Lock b) reply locked = locked
locked_with page (Unlock b) reply locked = not (b == page) && locked
locked_with page action reply locked = locked

abbrev pub is_locked : ℕ → Own → Bool
is_locked page [] = false
is_locked page (e ∷ before) = locked_with page e.0 e.1 (is_locked page before)

-- an action is a Mark inside an operation on its page
abbrev pub is_inside : Action → Own → Bool
is_inside (Mark page from to) before = is_locked page before
is_inside action before = false

-- Shadows that a Reclaim frees. It is the one work that gives a shadow up, unlocks the page with its next action, and then
-- gives the frame back; a processor that waits for the turn polls, peeks and acknowledges meanwhile.

-- the last action gave up a shadow
abbrev pub gives_up : Action → Bool
gives_up (SetShadow page master None) = true
gives_up action = false

abbrev pub is_given_up : Own → Bool
is_given_up [] = false
is_given_up (e ∷ before) = gives_up e.0

-- the page was unlocked right after that, and no more was done than to ask for the turn
abbrev pub unlocks_after : Action → Bool → Bool → Bool
unlocks_after (Unlock page) given_up unlocked = given_up
unlocks_after (TakeTurn tier) given_up unlocked = unlocked
unlocks_after Poll given_up unlocked = unlocked
unlocks_after (Peek vpage) given_up unlocked = unlocked
unlocks_after (Ack to) given_up unlocked = unlocked
unlocks_after action given_up unlocked = false

abbrev pub is_unlocked_after : Own → Bool
is_unlocked_after [] = false
is_unlocked_after (e ∷ before) = unlocks_after e.0 (is_given_up before) (is_unlocked_after before)

-- the last action put its frame back
abbrev pub puts_back : Action → Bool → Bool
puts_back (PutFrame frame) unlocked = unlocked
puts_back action unlocked = false

abbrev pub is_put_back : Own → Bool
is_put_back [] = false
is_put_back (e ∷ before) = puts_back e.0 (is_unlocked_after before)

-- The counts.

-- a candidate is marked, and a mark of a candidate is taken away: cold inside an operation on the page, spilled outside one
abbrev pub mark_counts : Bool → ℕ → ℕ → Tally
mark_counts inside from to =
    if (from == 0) && (to == 1) then record zero_tally { marked = 1 }
    else if (from == 1) && (to == 0) then (if inside then record zero_tally { cold = 1 } else record zero_tally { spilled = 1 })
    else zero_tally

-- what an event counts, by whether it stands inside an operation on its page, and whether a reclaimed frame was put back
-- right before it
abbrev pub counts_with : Bool → Bool → Action → Reply → Tally
counts_with inside back (Soften vpage Hint) reply = record zero_tally { hint = 1 }
counts_with inside back (Grant vpage) reply = record zero_tally { shadow = 1 }
counts_with inside back (Mark page from to) Done = mark_counts inside from to
counts_with inside back (CopyStore (Some page) frame index value) reply = record zero_tally { words = 1 }
counts_with inside back Bump reply = record zero_tally { flushes = 1 }
counts_with inside back (ReleaseTurn tier) reply = if back then record zero_tally { reclaimed = 1 } else zero_tally
counts_with inside back action reply = zero_tally

-- what an event counts, by what came before it
abbrev pub event_counts : Own → Action → Reply → Tally
event_counts before action reply = counts_with (is_inside action before) (is_put_back before) action reply

-- the counts so far with those of a list of events, each count at most 2^64 - 1
abbrev pub tally_from : Tally → Own → Own → Tally
tally_from tally before [] = tally
tally_from tally before (e ∷ own) = tally_from (sum_of tally (event_counts before e.0 e.1)) (e ∷ before) own

-- what is counted of the events of an own list
abbrev pub events_tally : Own → Tally
events_tally own = tally_from zero_tally [] own
