-- What is answered behind the line events, from what the reader of event lines and the checker of the report say.
use Rattle.std.proofs.Common.{◌≡◌, ℕ, zero, suc, ◌+◌, ◌<◌, List, [], ◌∷◌, ◌++◌, length, get_or, Some, codes, refl, sym, ap, ◌∙◌, subst, arith}
use Rattle.std.specs.Prelude.{replicate}
use Rattle.std.proofs.lemmas.List.{length-map, length-replicate}
use Rattle.nm_action.specs.declared.action.Event.{Event}
use Rattle.nm_core.specs.State.{State, start, view_of}
use Rattle.nm_script.specs.Plain.{Script}
use Rattle.nm_script.specs.Script.{IsScript}
use Rattle.nm_event_text.specs.Events.{event_text}
use Rattle.nm_follow.specs.Cursors.{Cursor, new_cursor}
use Rattle.nm_journal_text.specs.Journals.{events_text, IsBody}
use Rattle.nm_journal_text.specs.Taken.{cursor_of, AreTaken, AreWhole}
use Rattle.nm_journal_text.specs.Verdicts.{joined, IsBegun, IsFirstWrong}
use Rattle.nm_journal_text.specs.Following.{event_lines, IsFollowed, IsTakenTo}
use Rattle.nm_journal_text.proofs.Lines.{taken_none, at_of, acked_as_seen}
use Rattle.nm_journal_text.proofs.Wrong.{one_line, begun_front, wrong_report}
use Rattle.nm_journal_text.proofs.Firsts.{front_of, lines_lack}

pub each_new : (n cpu : ℕ) → cursor_of (replicate n new_cursor) cpu ≡ new_cursor
each_new zero cpu = refl
each_new (suc n) zero = refl
each_new (suc n) (suc cpu) = each_new n cpu

-- nothing was read
pub opened : (script : Script) (text : List ℕ) (s : State) (cursors : List Cursor) → IsScript script → s ≡ start script.geometry → cursors ≡ replicate script.geometry.cpus new_cursor → IsTakenTo script text text 0 s cursors
opened script text s cursors is at new = record {
  events = [];
  is = refl;
  many = refl;
  taken = subst (λ (c : List Cursor). AreTaken script [] c) (sym new) (taken_none script (replicate script.geometry.cpus new_cursor) is (length-replicate script.geometry.cpus new_cursor) (each_new script.geometry.cpus));
  state = at;
}

whole_text : (events : List Event) (text after : List ℕ) → text ≡ events_text events ++ (codes "report" ++ 10 ∷ after) → joined (event_lines events ++ codes "report" ∷ []) ++ after ≡ codes "events" ++ 10 ∷ text
whole_text events text after is = begun_front events (codes "report") after ∙ ap (λ t. codes "events" ++ 10 ∷ t) (sym is)

module _ (script : Script) (text after : List ℕ) (count : ℕ) (s : State) (cursors : List Cursor) (h : IsFollowed script text count (Some after) s cursors) where
  text_is : text ≡ events_text h.events ++ (codes "report" ++ 10 ∷ after)
  text_is = h.is ∙ ap (λ t. events_text h.events ++ t) h.stop.0

  -- the state is of the script's machine, and each processor's view tells its acknowledgement
  pub followed_machine : IsScript script → s.geometry ≡ script.geometry
  followed_machine is = (at_of script h.events s cursors is h.stop.2 h.stop.1).machine

  pub followed_acked : IsScript script → (cpu : ℕ) → cpu < script.geometry.cpus → (view_of s cpu).acked ≡ get_or s.words.ack cpu 0
  followed_acked is = acked_as_seen script.geometry h.events s is.geometry h.stop.2.run h.stop.1

  pub followed_cpus : length cursors ≡ script.geometry.cpus
  followed_cpus = h.stop.2.cpus

  -- a processor that has ended has lines left: report is wrong
  pub not_whole : ¬ AreWhole script s cursors → IsFirstWrong script (codes "events" ++ 10 ∷ text) (count + 1)
  not_whole left = record {
    front = event_lines h.events;
    rest = codes "report" ++ 10 ∷ after;
    is = ap (λ t. codes "events" ++ 10 ∷ t) text_is ∙ sym (front_of h.events (codes "report" ++ 10 ∷ after));
    lines = (refl, lines_lack h.events h.fits);
    count = omega (arith, h.many, length-map h.events event_text);
    begun = h.begun;
    wrong = λ l more lacks is b.
        let same : codes "report" ≡ l = (one_line (codes "report") l after more refl lacks is).0 in
        wrong_report script h.events cursors h.stop.2 (λ whole. left (subst (λ (q : State). AreWhole script q cursors) (sym h.stop.1) whole)) (subst (λ (q : List ℕ). IsBegun script (event_lines h.events ++ q ∷ [])) (sym same) b);
    short = λ none k. let f : codes "report" ++ 10 ∷ after ≡ [] = none in absurd cc;
  }

  -- what is said of the report is said of the whole
  pub report_holds : IsBody script (joined (event_lines h.events ++ codes "report" ∷ []) ++ after) → IsBody script (codes "events" ++ 10 ∷ text)
  report_holds k = subst (IsBody script) (whole_text h.events text after text_is) k

  pub report_fails : (n : ℕ) → IsFirstWrong script (joined (event_lines h.events ++ codes "report" ∷ []) ++ after) (length h.events + 2 + n) → IsFirstWrong script (codes "events" ++ 10 ∷ text) (count + 2 + n)
  report_fails n k = subst (λ (t : List ℕ). IsFirstWrong script t (count + 2 + n)) (whole_text h.events text after text_is) (subst (λ (m : ℕ). IsFirstWrong script (joined (event_lines h.events ++ codes "report" ∷ []) ++ after) (m + 2 + n)) (sym h.many) k)
