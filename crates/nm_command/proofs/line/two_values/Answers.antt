-- What the getters read is what the rows have.
use Rattle.nm_command.proofs.Splits.{none_read, some_read}
use Rattle.nm_command.proofs.line.two_values.Goals as goal

pub returns-in_default-clause-none : goal.returns-in_default-clause-none
returns-in_default-clause-none c = λ a b h. none_read c.args.matches.now c.args.first.now c.get_str.result c.get_str.ensures c.in_default.is a h.0

pub returns-in_default-get_str-clause-none : goal.returns-in_default-get_str-clause-none
returns-in_default-get_str-clause-none c = λ a b h. none_read c.args.matches.now c.args.second.now c.get_str-2.result c.get_str-2.ensures c.in_default-get_str.is b h.1

pub returns-clause-some : goal.returns-clause-some
returns-clause-some c = (
  some_read c.args.matches.now c.args.first.now c.get_str.result c.in-Some.a c.get_str.ensures c.in-Some.is,
  some_read c.args.matches.now c.args.second.now c.get_str-2.result c.in-Some-get_str.b c.get_str-2.ensures c.in-Some-get_str.is,
)
