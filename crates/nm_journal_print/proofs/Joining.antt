-- The parts of a journal, written one after the other.
use Rattle.std.proofs.Common.{◌≡◌, ℕ, List, ◌++◌, codes, ap, ◌∙◌, append_assoc}
use Rattle.nm_core.specs.EndWords.{EndWords}
use Rattle.nm_script.specs.Plain.{Script}
use Rattle.nm_script.specs.Items.{line}
use Rattle.nm_report.specs.declared.line_result.LineResult.{LineResult}
use Rattle.nm_journal_text.specs.Journals.{told_text}

joined : (part head lines tail : List ℕ) → ((part ++ head) ++ lines) ++ tail ≡ part ++ (head ++ (lines ++ tail))
joined part head lines tail = append_assoc (part ++ head) lines tail ∙ append_assoc part head (lines ++ tail)

-- the opening, the lines of events and the report of this script make the text
pub journal_joined : (part lines opened with_lines out : List ℕ) (script own : Script) (results : List (List LineResult)) (end : EndWords) → own ≡ script
    → opened ≡ part ++ line (codes "events") → with_lines ≡ opened ++ lines → out ≡ with_lines ++ (line (codes "report") ++ told_text own results end)
    → out ≡ part ++ (line (codes "events") ++ (lines ++ (line (codes "report") ++ told_text script results end)))
journal_joined part lines opened with_lines out script own results end same a b c =
    c ∙ ap (λ t. t ++ (line (codes "report") ++ told_text own results end)) (b ∙ ap (λ t. t ++ lines) a)
    ∙ joined part (line (codes "events")) lines (line (codes "report") ++ told_text own results end)
    ∙ ap (λ s. part ++ (line (codes "events") ++ (lines ++ (line (codes "report") ++ told_text s results end)))) same
