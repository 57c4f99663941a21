use Rattle.std.proofs.Common.{append_assoc}
use Rattle.nm_report.proofs.printing.push_faults.Goals as goal

pub returns : goal.returns
returns c = rw (c.in_ok-push.ensures.items, c.in_ok-push_field-4.ensures, c.in_ok-push_field-3.ensures, c.in_ok-push_field-2.ensures, c.in_ok-push_field.ensures) (simp append_assoc)
