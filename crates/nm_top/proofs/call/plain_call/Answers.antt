-- The form that was read is that of the words.
use Rattle.std.proofs.Common.{◌≡◌, Some, rules}
use Rattle.nm_top.proofs.call.plain_call.Goals as goal

pub plain_form-requires : goal.plain_form-requires
plain_form-requires g c =
    let is : c.in-Ok-Some.field-0 ≡ Some c.in-Ok-Some.form = search rules in
    ((c.in-Ok-Some.ensures c.in-Ok-Some.form).0 is).1
