use Rattle.std.proofs.Common.{◌≡◌, ◌++◌, take}
use Rattle.std.specs.List.{AllByRecursion}
use Rattle.nm_event_text.specs.Events.{FitsEvent}
use Rattle.nm_journal_text.specs.Journals.{events_text}
use Rattle.nm_journal_print.proofs.lines.push_events.Given as goal

abbrev pub invariant-loop-event : goal.invariant-loop-event
invariant-loop-event l = record {
  text : l.out.items ≡ l.fn.out.items ++ events_text (take l.event-index l.events);
  fits : AllByRecursion FitsEvent (take l.event-index l.events);
}
