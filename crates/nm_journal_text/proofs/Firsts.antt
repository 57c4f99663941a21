-- Where the reader of event lines stops at a line that is wrong, this is the first.
use Rattle.std.proofs.Common.{◌≡◌, ◌≢◌, ℕ, ◌+◌, List, [], ◌∷◌, ◌++◌, length, map, Option, None, codes, refl, sym, ap, ◌∙◌, subst, arith, append_assoc, append-nil}
use Rattle.std.proofs.lemmas.List.{length-map}
use Rattle.std.specs.List.{AllByRecursion}
use Rattle.nm_action.specs.declared.action.Event.{Event}
use Rattle.nm_core.specs.State.{State}
use Rattle.nm_script.specs.Plain.{Script}
use Rattle.nm_script.specs.Items.{line}
use Rattle.nm_text.specs.Cuts.{Lacks}
use Rattle.nm_event_text.specs.Events.{FitsEvent, event_text}
use Rattle.nm_event_text.proofs.Readings.{one_event}
use Rattle.nm_event_text.proofs.Newlines.{event_lacks, event_other}
use Rattle.nm_follow.specs.Cursors.{Cursor}
use Rattle.nm_journal_text.specs.Journals.{events_text, told_text, IsBody}
use Rattle.nm_journal_text.specs.Verdicts.{joined, IsBegun, IsFirstWrong}
use Rattle.nm_journal_text.specs.Following.{event_lines, IsStop, IsFollowed}
use Rattle.nm_journal_text.proofs.Beginning.{lines-events}
use Rattle.nm_journal_text.proofs.Wrong.{one_line, front_line, body_front}

-- the lines of some events are not those of events and report
no_end : (events all : List Event) (y : List ℕ) → AllByRecursion FitsEvent events → AllByRecursion FitsEvent all → events_text events ≢ events_text all ++ (codes "report" ++ 10 ∷ y)
no_end [] [] y h k e = absurd cc
no_end [] (a ∷ all) y h k e =
    let f : [] ≡ event_text a ++ 10 ∷ (events_text all ++ (codes "report" ++ 10 ∷ y)) = e ∙ append_assoc (line (event_text a)) (events_text all) (codes "report" ++ 10 ∷ y) ∙ front_line (event_text a) (events_text all ++ (codes "report" ++ 10 ∷ y)) in
    nothing (event_text a) (events_text all ++ (codes "report" ++ 10 ∷ y)) f
  where
    nothing : (a x : List ℕ) → [] ≢ a ++ 10 ∷ x
    nothing [] x e = cc
    nothing (c ∷ a) x e = cc
no_end (a ∷ events) [] y h k e =
    let s = one_line (event_text a) (codes "report") (events_text events) y (event_lacks a h.0) refl (sym (front_line (event_text a) (events_text events)) ∙ e) in
    event_other a h.0 s.0
no_end (a ∷ events) (b ∷ all) y h k e =
    let s = one_line (event_text a) (event_text b) (events_text events) (events_text all ++ (codes "report" ++ 10 ∷ y)) (event_lacks a h.0) (event_lacks b k.0)
    (sym (front_line (event_text a) (events_text events)) ∙ e ∙ append_assoc (line (event_text b)) (events_text all) (codes "report" ++ 10 ∷ y) ∙ front_line (event_text b) (events_text all ++ (codes "report" ++ 10 ∷ y))) in
    no_end events all y h.1 k.1 s.1

pub lines_lack : (events : List Event) → AllByRecursion FitsEvent events → AllByRecursion (Lacks 10) (map event_text events)
lines_lack [] h = tt
lines_lack (e ∷ events) h = (event_lacks e h.0, lines_lack events h.1)

pub front_of : (events : List Event) (rest : List ℕ) → joined (event_lines events) ++ rest ≡ codes "events" ++ 10 ∷ (events_text events ++ rest)
front_of events rest =
    append_assoc (line (codes "events")) (joined (map event_text events)) rest ∙ front_line (codes "events") (joined (map event_text events) ++ rest)
    ∙ ap (λ t. codes "events" ++ 10 ∷ (t ++ rest)) (lines-events events)

-- the line behind those that were taken is the first that is wrong
pub first_wrong : (script : Script) (text : List ℕ) (count : ℕ) (s : State) (cursors : List Cursor) → IsFollowed script text count None s cursors → IsFirstWrong script (codes "events" ++ 10 ∷ text) (count + 1)
first_wrong script text count s cursors h = record {
  front = event_lines h.events;
  rest = h.rest;
  is = ap (λ t. codes "events" ++ 10 ∷ t) h.is ∙ sym (front_of h.events h.rest);
  lines = (refl, lines_lack h.events h.fits);
  count = omega (arith, h.many, length-map h.events event_text);
  begun = h.begun;
  wrong = h.stop;
  short = λ none k.
      let text_is : text ≡ events_text h.events = h.is ∙ ap (λ t. events_text h.events ++ t) none ∙ append-nil (events_text h.events) in
      let joint : codes "events" ++ 10 ∷ events_text h.events ≡ codes "events" ++ 10 ∷ (events_text k.events ++ (codes "report" ++ 10 ∷ told_text script k.results k.end)) = ap (λ t. codes "events" ++ 10 ∷ t) (sym text_is) ∙ k.is ∙ body_front script k.events k.results k.end in
      no_end h.events k.events (told_text script k.results k.end) h.fits k.tells.fits (one_line (codes "events") (codes "events") _ _ refl refl joint).1;
}
