-- How far the lines behind the line events are those of a journal that holds.
use Rattle.std.specs.Prelude.{◌≡◌, ℕ, List, [], ◌∷◌, ◌++◌, length, map, codes, Option, Some, None}
use Rattle.std.specs.List.{AllByRecursion}
use Rattle.nm_text.specs.Cuts.{Lacks}
use Rattle.nm_action.specs.declared.action.Event.{Event}
use Rattle.nm_core.specs.State.{State}
use Rattle.nm_core.specs.Runs.{state_after}
use Rattle.nm_script.specs.Plain.{Script}
use Rattle.nm_event_text.specs.Events.{FitsEvent, event_text}
use Rattle.nm_follow.specs.Cursors.{Cursor}
use Rattle.nm_journal_text.specs.Journals.{events_text}
use Rattle.nm_journal_text.specs.Taken.{AreTaken}
use Rattle.nm_journal_text.specs.Verdicts.{IsBegun}

-- how much stands behind report, if it is there
abbrev pub after_length : Option (List ℕ) → ℕ
after_length None = 0
after_length (Some after) = length after

-- the line events, and the lines of some events
abbrev pub event_lines : List Event → List (List ℕ)
event_lines events = codes "events" ∷ map event_text events

-- behind some events the line report stands and this rest; or the next line is one with which no journal that holds goes on, or lacks its newline, or there is none
abbrev pub IsStop : Script → List Event → List ℕ → State → List Cursor → Option (List ℕ) → Type 0
IsStop script events rest s cursors (Some after) = (rest ≡ codes "report" ++ 10 ∷ after) × (s ≡ state_after script.geometry events) × AreTaken script events cursors
IsStop script events rest s cursors None = (l more : List ℕ) → Lacks 10 l → rest ≡ l ++ 10 ∷ more → ¬ IsBegun script (event_lines events ++ l ∷ [])

-- the lines of so many events were taken, and there the reader stopped
pub record IsFollowed (script : Script) (text : List ℕ) (count : ℕ) (after : Option (List ℕ)) (s : State) (cursors : List Cursor) : Type 0 where
  pub events : List Event
  pub rest : List ℕ
  pub is : text ≡ events_text events ++ rest
  pub many : count ≡ length events
  pub fits : AllByRecursion FitsEvent events
  pub begun : IsBegun script (event_lines events)
  pub stop : IsStop script events rest s cursors after

-- the lines of so many events were taken, and this rest is left
pub record IsTakenTo (script : Script) (text rest : List ℕ) (count : ℕ) (s : State) (cursors : List Cursor) : Type 0 where
  pub events : List Event
  pub is : text ≡ events_text events ++ rest
  pub many : count ≡ length events
  pub taken : AreTaken script events cursors
  pub state : s ≡ state_after script.geometry events

-- the line of an event is taken: the text goes on behind it
pub record IsMore (script : Script) (events : List Event) (l : List ℕ) (s' : State) (new : List Cursor) : Type 0 where
  pub event : Event
  pub is : l ≡ event_text event
  pub taken : AreTaken script (events ++ event ∷ []) new
  pub state : s' ≡ state_after script.geometry (events ++ event ∷ [])
