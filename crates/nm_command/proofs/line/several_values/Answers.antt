-- What the getter reads is what the rows have.
use Rattle.std.proofs.Common.{◌≡◌, List, Option, Some, None, sym}
use Rattle.std.specs.Prelude.{IfNone, IfSome, option_map}
use Rattle.std.specs.Borrow.{Bor}
use Rattle.clap.specs.Walk.{Text, texts}
use Rattle.nm_command.proofs.Splits.{several_read}
use Rattle.nm_command.proofs.line.several_values.Goals as goal

some_is : (o : Option (Bor (List (Bor Text)))) (read : Option (List Text)) → option_map (λ s. texts s.now) o ≡ read → IfSome o (λ v. read ≡ Some (texts v.now))
some_is None read e = tt
some_is (Some v) read e = sym e

none_is : (o : Option (Bor (List (Bor Text)))) (read : Option (List Text)) → option_map (λ s. texts s.now) o ≡ read → IfNone o (read ≡ None)
none_is None read e = sym e
none_is (Some v) read e = tt

pub returns-clause-some : goal.returns-clause-some
returns-clause-some c = some_is c.get_strs.result _ (several_read c.args.matches.now c.args.id.now c.get_strs.result c.get_strs.ensures)

pub returns-clause-none : goal.returns-clause-none
returns-clause-none c = none_is c.get_strs.result _ (several_read c.args.matches.now c.args.id.now c.get_strs.result c.get_strs.ensures)
