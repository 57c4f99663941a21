-- What is answered behind the line report.
use Rattle.std.proofs.Common.{◌≡◌, ℕ, ◌+◌, List, [], ◌∷◌, ◌++◌, length, codes, sym, ap, ◌∙◌, subst}
use Rattle.nm_action.specs.declared.action.Event.{Event}
use Rattle.nm_core.specs.State.{State}
use Rattle.nm_core.specs.Runs.{state_after}
use Rattle.nm_core.specs.EndWords.{EndWords, IsEndOf}
use Rattle.nm_script.specs.Plain.{Script}
use Rattle.nm_report.specs.declared.line_result.LineResult.{LineResult}
use Rattle.nm_follow.specs.Cursors.{Cursor}
use Rattle.nm_journal_text.specs.Journals.{told_text, IsBody}
use Rattle.nm_journal_text.specs.Taken.{AreTaken, results_in, AreWhole}
use Rattle.nm_journal_text.specs.Verdicts.{joined, IsFirstWrong}
use Rattle.nm_journal_text.specs.Following.{event_lines}
use Rattle.nm_journal_text.specs.Differing.{IsDifferentAt}
use Rattle.nm_journal_text.proofs.Wrong.{report_stands}
use Rattle.nm_journal_text.proofs.Differences.{report_wrong}

-- the same lines are those of a journal that holds
pub report_same : (script : Script) (events : List Event) (s : State) (cursors : List Cursor) (end : EndWords) (results : List (List LineResult)) (told text : List ℕ) → IsEndOf s end → results ≡ results_in cursors → told ≡ told_text script results end → told ≡ text
    → AreTaken script events cursors → s ≡ state_after script.geometry events → AreWhole script s cursors → IsBody script (joined (event_lines events ++ codes "report" ∷ []) ++ text)
report_same script events s cursors end results told text ends same is whole_text h at whole =
    let text_is : told_text script (results_in cursors) end ≡ text = ap (λ q. told_text script q end) (sym same) ∙ sym is ∙ whole_text in
    subst (λ (t : List ℕ). IsBody script (joined (event_lines events ++ codes "report" ∷ []) ++ t)) text_is
    (report_stands script events cursors end h (subst (λ (q : State). AreWhole script q cursors) at whole) (subst (λ (q : State). IsEndOf q end) at ends))

-- the first line that differs is the first that is wrong
pub report_other : (script : Script) (events : List Event) (s : State) (cursors : List Cursor) (end : EndWords) (results : List (List LineResult)) (told text : List ℕ) (n : ℕ) → IsEndOf s end → results ≡ results_in cursors → told ≡ told_text script results end → IsDifferentAt told text n
    → AreTaken script events cursors → s ≡ state_after script.geometry events → AreWhole script s cursors → IsFirstWrong script (joined (event_lines events ++ codes "report" ∷ []) ++ text) (length events + 2 + n)
report_other script events s cursors end results told text n ends same is d h at whole =
    report_wrong script events cursors end text n h (subst (λ (q : State). AreWhole script q cursors) at whole) (subst (λ (q : State). IsEndOf q end) at ends)
    (subst (λ (t : List ℕ). IsDifferentAt t text n) (is ∙ ap (λ q. told_text script q end) same) d)
