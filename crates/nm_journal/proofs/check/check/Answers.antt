use Rattle.std.proofs.Common.{rules, ◌≡◌, ◌-◌, ℕ, List, length, take, drop, subst, arith}
use Rattle.std.proofs.lemmas.List.{take_all, length-drop}
use Rattle.nm_journal.specs.Answers.{CheckCause, BodyCause}
use Rattle.nm_journal.proofs.Causes.{caused}
use Rattle.nm_journal.proofs.OneAnswer.{answered}
use Rattle.nm_journal.proofs.check.check.Goals as goal

pub returns-in_err-script-clause-answers : goal.returns-in_err-script-clause-answers
returns-in_err-script-clause-answers c =
    let cause : CheckCause c.args.bytes.now c.from_residual.result = search rules in
    answered c.args.bytes.now c.from_residual.result cause

rest_whole : (place : ℕ) (bytes : List ℕ) → take (length bytes - place) (drop place bytes) ≡ drop place bytes
rest_whole place bytes = take_all (length bytes - place) (drop place bytes) (omega (arith, length-drop place bytes))

pub returns-clause-cause : goal.returns-clause-cause
returns-clause-cause c =
    let place = c.script_part-place.result.0 in
    let lines = c.script_part-place.result.1 in
    let bytes = c.args.bytes.now in
    caused bytes place lines c.in_ok-script.script c.verdict_of.result c.script_part-place.ensures c.in_ok-script.ensures.found
    (subst (λ (t : List ℕ). BodyCause c.in_ok-script.script t lines c.verdict_of.result) (rest_whole place bytes) c.verdict_of.ensures)

pub returns-clause-answers : goal.returns-clause-answers
returns-clause-answers c =
    let place = c.script_part-place.result.0 in
    let lines = c.script_part-place.result.1 in
    let bytes = c.args.bytes.now in
    answered bytes c.verdict_of.result
    (caused bytes place lines c.in_ok-script.script c.verdict_of.result c.script_part-place.ensures c.in_ok-script.ensures.found
    (subst (λ (t : List ℕ). BodyCause c.in_ok-script.script t lines c.verdict_of.result) (rest_whole place bytes) c.verdict_of.ensures))
