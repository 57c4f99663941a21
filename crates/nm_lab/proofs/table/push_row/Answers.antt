use Rattle.std.proofs.Common.{append_assoc}
use Rattle.nm_lab.proofs.table.push_row.Goals as goal

pub returns : goal.returns
returns c = rw (c.in_ok-push_settled.ensures, c.in_ok-push_field-4.ensures, c.in_ok-push_field-3.ensures, c.in_ok-push_field-2.ensures, c.in_ok-push_field.ensures, c.in_ok-push_retry.ensures, c.in_ok-extend_from_slice.ensures.items) (simp append_assoc)
