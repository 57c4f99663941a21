-- The form that was read is that of the words.
use Rattle.std.proofs.Common.{◌≡◌, Some, rules}
use Rattle.nm_top.proofs.call.nomad_main.Goals as goal

pub program_form-requires-after_bounds : goal.program_form-requires-after_bounds
program_form-requires-after_bounds g c κs within =
    let is : c.in-Ok-Some.field-0 ≡ Some c.in-Ok-Some.form = search rules in
    ((c.in-Ok-Some.ensures c.in-Ok-Some.form).0 is).1
