use Rattle.std.proofs.Common.{rules, ◌≡◌, ◌≢◌, ℕ, length, [], ◌∷◌, List, None, Ok, true, false, codes, sym, ◌∙◌, refl, arith}
use Rattle.std.specs.Str.{bytes_eq}
use Rattle.std.proofs.lemmas.Slice.Eq.{bytes_eq-Decides}
use Rattle.nm_text.specs.Cuts.{cut_of}
use Rattle.nm_text.proofs.LineLemmas.{cut-shorter}
use Rattle.nm_journal_text.proofs.Lines.{at_of, script_tries}
use Rattle.nm_journal.proofs.Stops.{followed_report, followed_wrong, followed_last, followed_more}
use Rattle.nm_journal.proofs.reader.follow.Goals as goal

pub returns-in-None-clause-followed : goal.returns-in-None-clause-followed
returns-in-None-clause-followed c = followed_last c.args.script.now c.requires.script c.args.text.now c.loop-rest.rest.now c.loop-rest.count c.loop-rest.state c.loop-rest.cursors c.loop-rest.invariant.taken c.in-None.ensures.none

pub returns-then-is_text-clause-followed : goal.returns-then-is_text-clause-followed
returns-then-is_text-clause-followed c =
    let parts = c.in-Some.parts in
    let is = (bytes_eq-Decides parts.0.now (codes "report")).0 (sym c.is_text.ensures ∙ c.if-is_text.true) in
    followed_report c.args.script.now c.requires.script c.args.text.now c.loop-rest.rest.now c.loop-rest.count c.loop-rest.state c.loop-rest.cursors parts.0.now parts.1.now c.loop-rest.invariant.taken c.in-Some.ensures.some is

pub take_line-requires-clause-at : goal.take_line-requires-clause-at
take_line-requires-clause-at c = let h = c.loop-rest.invariant.taken in at_of c.args.script.now h.events c.loop-rest.state c.loop-rest.cursors c.requires.script h.taken h.state

pub take_line-requires-clause-awaits : goal.take_line-requires-clause-awaits
take_line-requires-clause-awaits c = script_tries c.args.script.now c.requires.script

pub returns-then-not-branch-clause-followed : goal.returns-then-not-branch-clause-followed
returns-then-not-branch-clause-followed c =
    let parts = c.in-Some.parts in
    let other : parts.0.now ≢ codes "report" = λ e. let hit : bytes_eq parts.0.now (codes "report") ≡ true = (bytes_eq-Decides parts.0.now (codes "report")).1 e in let told = c.is_text.ensures in let miss = c.if-is_text.false in cc in
    let answer : c.take_line.result ≡ Ok false = search rules in
    followed_wrong c.args.script.now c.requires.script c.args.text.now c.loop-rest.rest.now c.loop-rest.count c.loop-rest.state c.loop-rest.cursors parts.0.now parts.1.now c.take_line.new.state c.take_line.new.cursors c.loop-rest.invariant.taken c.in-Some.ensures.some other (c.take_line.ensures.refused answer)

pub loop-rest-smaller : goal.loop-rest-smaller
loop-rest-smaller c = cut-shorter c.loop-rest.rest.now (c.in-Some.parts.0.now, c.in-Some.parts.1.now) c.in-Some.ensures.some

pub loop-rest-preserved : goal.loop-rest-preserved
loop-rest-preserved c =
    let parts = c.in-Some.parts in
    let shorter = cut-shorter c.loop-rest.rest.now (parts.0.now, parts.1.now) c.in-Some.ensures.some in
    let answer : c.take_line.result ≡ Ok true = search rules in
    record {
      taken = followed_more c.args.script.now c.requires.script c.args.text.now c.loop-rest.rest.now c.loop-rest.count c.loop-rest.state c.loop-rest.cursors parts.0.now parts.1.now c.take_line.new.state c.take_line.new.cursors c.loop-rest.invariant.taken c.in-Some.ensures.some (c.take_line.ensures.taken answer);
      short = omega (arith, shorter, c.loop-rest.invariant.short);
    }

none_of : (xs : List ℕ) → length xs ≡ 0 → cut_of 10 xs ≡ None
unfolding cut_of
none_of [] e = refl
none_of (x ∷ xs) e = absurd (omega (arith, e))

pub returns-clause-followed : goal.returns-clause-followed
returns-clause-followed c =
    let empty : length c.loop-rest.rest.now ≡ 0 = search rules in
    followed_last c.args.script.now c.requires.script c.args.text.now c.loop-rest.rest.now c.loop-rest.count c.loop-rest.state c.loop-rest.cursors c.loop-rest.invariant.taken (none_of c.loop-rest.rest.now empty)

pub returns-then-is_text-clause-few : goal.returns-then-is_text-clause-few
returns-then-is_text-clause-few c =
    let shorter = cut-shorter c.loop-rest.rest.now (c.in-Some.parts.0.now, c.in-Some.parts.1.now) c.in-Some.ensures.some in
    omega (arith, shorter, c.loop-rest.invariant.short)

pub returns-in-None-clause-few : goal.returns-in-None-clause-few
returns-in-None-clause-few c = omega (arith, c.loop-rest.invariant.short)

pub returns-then-not-branch-clause-few : goal.returns-then-not-branch-clause-few
returns-then-not-branch-clause-few c = omega (arith, c.loop-rest.invariant.short)

pub returns-clause-few : goal.returns-clause-few
returns-clause-few c = omega (arith, c.loop-rest.invariant.short)
