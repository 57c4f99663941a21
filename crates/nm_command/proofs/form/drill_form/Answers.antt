-- The form has the numbers that the fields say.
use Rattle.std.proofs.Common.{rules}
use Rattle.nm_command.proofs.Forms.{drill_form_is}
use Rattle.nm_command.proofs.form.drill_form.Goals as goal

pub returns : goal.returns
returns c =
    drill_form_is c.args.number.now c.args.size.now c.in_ok-number.number c.in_ok-number.size ((c.numbers_of.ensures _ _).0 (search rules))
