-- The text of a journal holds.
use Rattle.std.proofs.Common.{◌≡◌, ℕ, List, [], ◌∷◌, ◌++◌, refl, sym, ap, ◌∙◌, subst, append_assoc, append-nil}
use Rattle.nm_action.specs.declared.action.Event.{Event}
use Rattle.nm_core.specs.EndWords.{EndWords}
use Rattle.nm_script.specs.declared.item.Item.{Item}
use Rattle.nm_script.specs.Plain.{Script}
use Rattle.nm_script.specs.Items.{line, item_text, lines_text}
use Rattle.nm_script.specs.Script.{IsScript, items_of, script_text}
use Rattle.nm_script.proofs.OneReading.{one-text}
use Rattle.nm_report.specs.declared.line_result.LineResult.{LineResult}
use Rattle.nm_journal_text.specs.Journals.{EndsLine, TellsOfEvents, IsJournalThatHolds, body_text, journal_text}

lines_end : (cpus : ℕ) (i : Item) (items : List Item) → EndsLine (lines_text cpus (i ∷ items))
lines_end cpus i [] = record { front = item_text cpus i; is = append-nil (line (item_text cpus i)) }
lines_end cpus i (j ∷ items) =
    let e = lines_end cpus j items in
    record { front = line (item_text cpus i) ++ e.front; is = ap (λ t. line (item_text cpus i) ++ t) e.is ∙ sym (append_assoc (line (item_text cpus i)) e.front (10 ∷ [])) }

some_end : (cpus : ℕ) (items : List Item) (i : Item) (rest : List Item) → items ≡ i ∷ rest → EndsLine (lines_text cpus items)
some_end cpus items i rest is = subst (λ (list : List Item). EndsLine (lines_text cpus list)) (sym is) (lines_end cpus i rest)

-- each line of the text of a script has its newline
script_ends : (s : Script) → EndsLine (script_text s)
script_ends s = some_end s.geometry.cpus (items_of s) _ _ refl

pub journal_holds : (script : Script) (events : List Event) (results : List (List LineResult)) (end : EndWords) → IsScript script → TellsOfEvents script events results end → IsJournalThatHolds (journal_text (script_text script) script events results end)
journal_holds script events results end is tells = record {
  part = script_text script;
  body = body_text script events results end;
  script = script;
  is = refl;
  whole = script_ends script;
  says = (one-text script is).again;
  holds = record { events = events; results = results; end = end; tells = tells; is = refl };
}
