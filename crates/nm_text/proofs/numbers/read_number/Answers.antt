use Rattle.std.proofs.Common.{sym, arith}
use Rattle.nm_text.proofs.NumberLemmas.{number_of-apart, number_of-form, number_of-read, number_of-tells}
use Rattle.nm_text.proofs.numbers.read_number.Goals as goal

pub returns-then-is_empty-clause-none : goal.returns-then-is_empty-clause-none
returns-then-is_empty-clause-none c = λ n is.
    let form = number_of-form c.args.field.now n is in
    grind arith

pub returns-then-is_empty-clause-value : goal.returns-then-is_empty-clause-value
returns-then-is_empty-clause-value c = sym (number_of-apart c.args.field.now (returns-then-is_empty-clause-none c))

pub returns-clause-value : goal.returns-clause-value
returns-clause-value c = number_of-read c.digits_number.result c.args.field.now (grind arith) (grind arith) c.digits_number.ensures

pub returns-clause-found : goal.returns-clause-found
returns-clause-found c = (number_of-tells c.digits_number.result c.args.field.now (returns-clause-value c)).0

pub returns-clause-none : goal.returns-clause-none
returns-clause-none c = (number_of-tells c.digits_number.result c.args.field.now (returns-clause-value c)).1
