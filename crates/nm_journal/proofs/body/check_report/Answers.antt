use Rattle.std.proofs.Common.{◌≡◌, ℕ, List, Vec, Global, Some, None, map, sym, ap, ◌∙◌, subst}
use Rattle.nm_report.specs.declared.line_result.LineResult.{LineResult}
use Rattle.nm_report.specs.Texts.{IsPrintable}
use Rattle.nm_journal_text.specs.Taken.{results_in, zero_tally}
use Rattle.nm_journal_text.specs.Differing.{IsDifferentAt}
use Rattle.nm_journal.proofs.Printing.{printable}
use Rattle.nm_journal.proofs.Reporting.{report_same, report_other}
use Rattle.nm_journal.proofs.body.check_report.Goals as goal

pub told_lines-requires : goal.told_lines-requires
told_lines-requires c =
    let taken = c.requires.taken in
    let same : map (λ (v : Vec LineResult Global). v.items) c.deref.result.now ≡ results_in c.args.cursors.items = ap (λ (l : List (Vec LineResult Global)). map (λ v. v.items) l) c.deref.ensures.value ∙ c.in_ok-results.ensures in
    subst (λ (r : List (List LineResult)). IsPrintable (record { script = c.args.script.now; results = r; end = c.in_ok-end.end; tally = zero_tally })) (sym same)
    (printable c.args.script.now taken.0 c.args.state.now c.args.cursors.items c.in_ok-end.end c.requires.script taken.1 taken.2 c.in_ok-end.ensures)

pub returns-clause-holds : goal.returns-clause-holds
returns-clause-holds c = λ answer events h at whole.
    let same : map (λ (v : Vec LineResult Global). v.items) c.deref.result.now ≡ results_in c.args.cursors.items = ap (λ (l : List (Vec LineResult Global)). map (λ v. v.items) l) c.deref.ensures.value ∙ c.in_ok-results.ensures in
    let none : c.first_difference.result ≡ None = cc in
    report_same c.args.script.now events c.args.state.now c.args.cursors.items c.in_ok-end.end (map (λ v. v.items) c.deref.result.now) c.in_ok-told.told.items c.args.text.now c.in_ok-end.ensures same c.in_ok-told.ensures (sym c.deref-2.ensures.value ∙ c.first_difference.ensures.none none) h at whole

pub returns-clause-wrong : goal.returns-clause-wrong
returns-clause-wrong c = λ n answer events h at whole.
    let same : map (λ (v : Vec LineResult Global). v.items) c.deref.result.now ≡ results_in c.args.cursors.items = ap (λ (l : List (Vec LineResult Global)). map (λ v. v.items) l) c.deref.ensures.value ∙ c.in_ok-results.ensures in
    let some : c.first_difference.result ≡ Some n = cc in
    let d = subst (λ (t : List ℕ). IsDifferentAt t c.args.text.now n) c.deref-2.ensures.value (c.first_difference.ensures.some n some) in
    report_other c.args.script.now events c.args.state.now c.args.cursors.items c.in_ok-end.end (map (λ v. v.items) c.deref.result.now) c.in_ok-told.told.items c.args.text.now n c.in_ok-end.ensures same c.in_ok-told.ensures d h at whole
