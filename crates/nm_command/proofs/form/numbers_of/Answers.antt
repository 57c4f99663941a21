-- A field is the spelling of one number, so the numbers are those of the fields.
use Rattle.std.proofs.Common.{rules, arith}
use Rattle.nm_text.specs.Numbers.{IsNumber}
use Rattle.nm_command.proofs.Forms.{numbers_are, no_numbers}
use Rattle.nm_command.proofs.form.numbers_of.Goals as goal

pub returns-then-size-eq0 : goal.returns-then-size-eq0
returns-then-size-eq0 c =
    let read : IsNumber c.args.size.now c.in_ok-size.size = search rules in
    no_numbers c.args.number.now c.args.size.now c.in_ok-size.size read (λ low high. absurd (omega (arith, low, c.if-size-eq0.true)))

pub returns-then-size-gt-MOST_LINES : goal.returns-then-size-gt-MOST_LINES
returns-then-size-gt-MOST_LINES c =
    let read : IsNumber c.args.size.now c.in_ok-size.size = search rules in
    no_numbers c.args.number.now c.args.size.now c.in_ok-size.size read (λ low high. absurd (omega (arith, high, c.if-size-gt-MOST_LINES.true)))

pub returns : goal.returns
returns c = λ n s.
    let first : IsNumber c.args.number.now c.in_ok-number.number = search rules in
    let second : IsNumber c.args.size.now c.in_ok-size.size = search rules in
    numbers_are c.args.number.now c.args.size.now c.in_ok-number.number c.in_ok-size.size n s first second (omega arith) (omega arith)
