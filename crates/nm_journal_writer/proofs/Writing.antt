-- One turn more of a run whose events are written.
use Rattle.std.proofs.Common.{◌≡◌, ℕ, List, [], ◌∷◌, ◌++◌, sym, ap, ◌∙◌, subst}
use Rattle.std.specs.List.{AllByRecursion}
use Rattle.nm_action.specs.declared.action.Event.{Event}
use Rattle.nm_event_text.specs.Events.{FitsEvent}
use Rattle.nm_schedule.specs.declared.turn.Played.{Played}
use Rattle.nm_schedule.specs.Played.{events_of}
use Rattle.nm_play.proofs.Making.{events-push}
use Rattle.nm_journal_text.specs.Journals.{events_text}
use Rattle.nm_journal_text.proofs.Beginning.{events-more}
use Rattle.nm_journal_writer.specs.Written.{AreWritten}

all-both : (P : Event → Type 0) (xs ys : List Event) → AllByRecursion P xs → AllByRecursion P ys → AllByRecursion P (xs ++ ys)
all-both P [] ys h k = k
all-both P (x ∷ xs) ys h k = (h.0, all-both P xs ys h.1 k)

pub written-more : (text after : List ℕ) (before : List Played) (p : Played) → AreWritten text (events_of before)
    → after ≡ text ++ events_text (events_of (p ∷ [])) → AllByRecursion FitsEvent (events_of (p ∷ [])) → AreWritten after (events_of (before ++ p ∷ []))
written-more text after before p h is fits =
    subst (AreWritten after) (sym (events-push before p)) (record {
      is = is ∙ ap (λ t. t ++ events_text (events_of (p ∷ []))) h.is ∙ sym (events-more (events_of before) (events_of (p ∷ [])));
      fits = all-both FitsEvent (events_of before) (events_of (p ∷ [])) h.fits fits;
    })
