use Rattle.std.proofs.Common.{◌≡◌, ◌+◌, ◌++◌, ◌∷◌, None, Some, Ok, codes, ap, ◌∙◌, subst}
use Rattle.nm_journal_text.specs.Verdicts.{IsFirstWrong}
use Rattle.nm_journal.proofs.Answering.{report_holds, report_fails}
use Rattle.nm_journal.proofs.body.check_end.Goals as goal

pub check_report-requires-clause-taken : goal.check_report-requires-clause-taken
check_report-requires-clause-taken c = let h = c.requires.followed.1 in (h.events, h.stop.2, h.stop.1)

pub returns-in-None-clause-holds : goal.returns-in-None-clause-holds
returns-in-None-clause-holds c = λ e text h.
    let answer : c.check_report.result ≡ Ok None = c.in_ok-check_report.was ∙ ap (λ o. Ok o) c.in-None.is in
    report_holds c.args.script.now text c.args.after.now c.args.count c.args.state.now c.args.cursors.items h (c.check_report.ensures.holds answer h.events h.stop.2 h.stop.1 c.requires.whole)

pub returns-in-Some-clause-wrong : goal.returns-in-Some-clause-wrong
returns-in-Some-clause-wrong c = λ m e text h.
    let n = c.in-Some.n in
    let answer : c.check_report.result ≡ Ok (Some n) = c.in_ok-check_report.was ∙ ap (λ o. Ok o) c.in-Some.is in
    let at : c.args.count + 2 + n ≡ m = cc in
    subst (IsFirstWrong c.args.script.now (codes "events" ++ 10 ∷ text)) at
    (report_fails c.args.script.now text c.args.after.now c.args.count c.args.state.now c.args.cursors.items h n (c.check_report.ensures.wrong n answer h.events h.stop.2 h.stop.1 c.requires.whole))
