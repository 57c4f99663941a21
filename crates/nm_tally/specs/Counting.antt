-- What is kept of an own list to count its events one by one.
use Rattle.std.specs.Prelude.{◌≡◌, ℕ, ◌<◌, Bool, true, false, List, [], ◌∷◌, length, slice_index_or}
use Rattle.nm_action.specs.declared.action.Action.{Action}
use Rattle.nm_action.specs.declared.action.Action.TheVariants.{Lock, Unlock, Mark}
use Rattle.nm_action.specs.declared.action.Reply.{Reply}
use Rattle.nm_action.specs.Own.{Own}
use Rattle.nm_tally.specs.declared.counter.Counter.{Counter}
use Rattle.nm_tally.specs.declared.counter.Reclaiming.{Reclaiming}
use Rattle.nm_tally.specs.Counts.{zero_tally, counts_with, locked_with, is_locked, gives_up, unlocks_after, puts_back, is_given_up, is_unlocked_after, is_put_back, events_tally}

-- the events of a list put before these, one by one, so that the last stands first
abbrev pub backwards : Own → Own → Own
backwards before [] = before
backwards before (e ∷ own) = backwards (e ∷ before) own

-- the page that an action locks, unlocks or marks is below this number
abbrev pub IsCountable : ℕ → Action → Type 0
IsCountable pages (Lock page) = page < pages
IsCountable pages (Unlock page) = page < pages
IsCountable pages (Mark page from to) = page < pages
IsCountable pages action = Unit {0}

-- an action of a kind that counts nothing counts nothing, whatever came before it and whatever the reply
abbrev pub CountsNothing : Action → Bool → Type 0
CountsNothing action true = Unit {0}
CountsNothing action false = (inside back : Bool) (reply : Reply) → counts_with inside back action reply ≡ zero_tally

-- how far a shadow has come that is freed, after one action more
abbrev pub reclaiming_with : Action → Reclaiming → Reclaiming
reclaiming_with action r = record {
  given_up = gives_up action;
  unlocked = unlocks_after action r.given_up r.unlocked;
  put_back = puts_back action r.unlocked;
}

abbrev pub reclaiming_after : Own → Reclaiming
reclaiming_after before = record { given_up = is_given_up before; unlocked = is_unlocked_after before; put_back = is_put_back before }

-- the flags of the pages after an event
pub record AreFlags (action : Action) (reply : Reply) (old new : List Bool) : Type 0 where
  pub flag : (page : ℕ) → page < length old → slice_index_or new page false ≡ locked_with page action reply (slice_index_or old page false)
  pub size : length new ≡ length old

-- a counter has counted this own list
pub record CountsEvents (c : Counter) (own : Own) : Type 0 where
  pub tally : c.tally ≡ events_tally own
  pub locked : (page : ℕ) → page < length c.locked.items → slice_index_or c.locked.items page false ≡ is_locked page (backwards [] own)
  pub reclaiming : c.reclaiming ≡ reclaiming_after (backwards [] own)
