-- The lines of some events.
use Rattle.std.specs.Prelude.{◌≡◌, ℕ, List}
use Rattle.std.specs.List.{AllByRecursion}
use Rattle.nm_action.specs.declared.action.Event.{Event}
use Rattle.nm_event_text.specs.Events.{FitsEvent}
use Rattle.nm_journal_text.specs.Journals.{events_text}

-- the text is the lines of these events, whose numbers fit their fields
pub record AreWritten (text : List ℕ) (events : List Event) : Type 0 where
  pub is : text ≡ events_text events
  pub fits : AllByRecursion FitsEvent events
