use Rattle.std.proofs.Common.{◌≡◌, ◌≢◌, [], true, codes, sym, ◌∙◌, refl, arith}
use Rattle.std.specs.Str.{bytes_eq}
use Rattle.std.proofs.lemmas.Slice.Eq.{bytes_eq-Decides}
use Rattle.nm_journal.proofs.Parts.{parted_here, parted_last, events_last, passed_few}
use Rattle.nm_journal.proofs.parting.last_part.Goals as goal

pub returns-then-is_text : goal.returns-then-is_text
returns-then-is_text c =
    let is = (bytes_eq-Decides c.args.rest.now (codes "events")).0 (sym c.is_text.ensures ∙ c.if-is_text.true) in
    parted_here c.args.bytes.now c.args.rest.now c.args.lines _ [] c.requires.passed refl (events_last c.args.rest.now c.requires.last is)

pub overflow_add-result : goal.overflow_add-result
overflow_add-result c = omega (arith, passed_few c.args.bytes.now c.args.rest.now c.args.lines c.requires.passed, c.requires.few, c.requires.some)

pub returns-else-is_text : goal.returns-else-is_text
returns-else-is_text c =
    let other : c.args.rest.now ≢ codes "events" = λ e. let hit : bytes_eq c.args.rest.now (codes "events") ≡ true = (bytes_eq-Decides c.args.rest.now (codes "events")).1 e in let told = c.is_text.ensures in let miss = c.if-is_text.false in cc in
    parted_last c.args.bytes.now c.args.rest.now c.args.lines _ c.requires.passed c.requires.last c.requires.some other refl
