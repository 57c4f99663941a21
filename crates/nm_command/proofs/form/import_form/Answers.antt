-- The form has the sizes that the fields say.
use Rattle.std.proofs.Common.{rules}
use Rattle.nm_command.proofs.Forms.{import_form_is}
use Rattle.nm_command.proofs.form.import_form.Goals as goal

pub returns : goal.returns
returns c =
    import_form_is c.args.fast.now c.args.slow.now c.in_ok-fast.fast c.in_ok-fast.slow ((c.sizes_of.ensures _ _).0 (search rules))
