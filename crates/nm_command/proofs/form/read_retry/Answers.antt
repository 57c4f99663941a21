-- A word is the spelling of one retry.
use Rattle.std.proofs.Common.{rules, arith}
use Rattle.nm_command.proofs.Forms.{large_said, never_said, number_said}
use Rattle.nm_command.proofs.form.read_retry.Goals as goal

pub returns-then-eq : goal.returns-then-eq
returns-then-eq c = never_said c.args.word.now (search rules)

pub returns-then-number-gt-MOST_ABORTS : goal.returns-then-number-gt-MOST_ABORTS
returns-then-number-gt-MOST_ABORTS c = large_said c.args.word.now c.in_ok-number.number (search rules) (search rules) (omega arith)

pub returns : goal.returns
returns c = number_said c.args.word.now c.in_ok-number.number (search rules) (omega arith)
