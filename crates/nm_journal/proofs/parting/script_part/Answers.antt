use Rattle.std.proofs.Common.{rules, ◌≡◌, ◌≢◌, ℕ, length, [], ◌∷◌, List, true, codes, sym, ap, ◌∙◌, refl, arith}
use Rattle.std.specs.Str.{bytes_eq}
use Rattle.std.proofs.lemmas.Slice.Eq.{bytes_eq-Decides}
use Rattle.nm_text.specs.Fields.{lines_of}
use Rattle.nm_text.proofs.LineLemmas.{cut-shorter, lines-front}
use Rattle.nm_journal.proofs.Parts.{parted_here, parted_end, passed_more, passed_none, passed_few}
use Rattle.nm_journal.proofs.parting.script_part.Goals as goal

empty_of : (xs : List ℕ) → length xs ≡ 0 → xs ≡ []
empty_of [] e = refl
empty_of (x ∷ xs) e = absurd (omega (arith, e))

pub loop-rest-init : goal.loop-rest-init
loop-rest-init c = passed_none c.args.bytes.now

pub returns-then-is_text : goal.returns-then-is_text
returns-then-is_text c =
    let parts = c.in-Some.parts in
    let is = (bytes_eq-Decides parts.0.now (codes "events")).0 (sym c.is_text.ensures ∙ c.if-is_text.true) in
    parted_here c.args.bytes.now c.loop-rest.rest.now c.loop-rest.lines _ (lines_of parts.1.now) c.loop-rest.invariant refl
    (lines-front c.loop-rest.rest.now (parts.0.now, parts.1.now) c.in-Some.ensures.some ∙ ap (λ l. l ∷ lines_of parts.1.now) is)

pub loop-rest-smaller : goal.loop-rest-smaller
loop-rest-smaller c = cut-shorter c.loop-rest.rest.now (c.in-Some.parts.0.now, c.in-Some.parts.1.now) c.in-Some.ensures.some

pub loop-rest-preserved : goal.loop-rest-preserved
loop-rest-preserved c =
    let parts = c.in-Some.parts in
    let other : parts.0.now ≢ codes "events" = λ e. let hit : bytes_eq parts.0.now (codes "events") ≡ true = (bytes_eq-Decides parts.0.now (codes "events")).1 e in let told = c.is_text.ensures in let miss = c.if-is_text.false in cc in
    passed_more c.args.bytes.now c.loop-rest.rest.now parts.0.now parts.1.now c.loop-rest.lines c.loop-rest.invariant c.in-Some.ensures.some other

pub returns : goal.returns
returns c =
    let empty : length c.loop-rest.rest.now ≡ 0 = search rules in
    parted_end c.args.bytes.now c.loop-rest.rest.now c.loop-rest.lines _ c.loop-rest.invariant refl (empty_of c.loop-rest.rest.now empty)

pub overflow_add-lines : goal.overflow_add-lines
overflow_add-lines c =
    let shorter = cut-shorter c.loop-rest.rest.now (c.in-Some.parts.0.now, c.in-Some.parts.1.now) c.in-Some.ensures.some in
    omega (arith, shorter, passed_few c.args.bytes.now c.loop-rest.rest.now c.loop-rest.lines c.loop-rest.invariant, c.requires)
