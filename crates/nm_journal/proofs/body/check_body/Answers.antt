use Rattle.std.proofs.Common.{◌≡◌, ℕ, length, List, codes, sym, ap, subst, arith}
use Rattle.nm_text.proofs.CutLemmas.{strip_of-some, strip_of-none}
use Rattle.nm_journal_text.specs.Journals.{IsBody}
use Rattle.nm_journal_text.specs.Verdicts.{IsFirstWrong}
use Rattle.nm_journal.proofs.Bodies.{not_events}
use Rattle.nm_journal.proofs.body.check_body.Goals as goal

pub check_events-requires-clause-few : goal.check_events-requires-clause-few
check_events-requires-clause-few c =
    let is = strip_of-some (codes "events\n") c.args.body.now c.in-Some.text.now c.in-Some.ensures.some in
    omega (arith, ap length is, c.requires.few)

pub returns-in-None-clause-wrong : goal.returns-in-None-clause-wrong
returns-in-None-clause-wrong c = λ n e.
    let at : 0 ≡ n = cc in
    subst (IsFirstWrong c.args.script.now c.args.body.now) at (not_events c.args.script.now c.args.body.now c.requires.script (strip_of-none (codes "events\n") c.args.body.now c.in-None.ensures.none))

pub returns-in-Some-clause-holds : goal.returns-in-Some-clause-holds
returns-in-Some-clause-holds c = λ e.
    let is = strip_of-some (codes "events\n") c.args.body.now c.in-Some.text.now c.in-Some.ensures.some in
    subst (IsBody c.args.script.now) (sym is) (c.check_events.ensures.holds e)

pub returns-in-Some-clause-wrong : goal.returns-in-Some-clause-wrong
returns-in-Some-clause-wrong c = λ n e.
    let is = strip_of-some (codes "events\n") c.args.body.now c.in-Some.text.now c.in-Some.ensures.some in
    subst (λ (t : List ℕ). IsFirstWrong c.args.script.now t n) (sym is) (c.check_events.ensures.wrong n e)

pub returns-in-Some-clause-few : goal.returns-in-Some-clause-few
returns-in-Some-clause-few c = λ n e.
    let is = strip_of-some (codes "events\n") c.args.body.now c.in-Some.text.now c.in-Some.ensures.some in
    omega (arith, ap length is, c.check_events.ensures.few n e)
