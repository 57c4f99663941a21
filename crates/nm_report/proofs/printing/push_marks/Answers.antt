use Rattle.std.proofs.Common.{append_assoc}
use Rattle.nm_report.proofs.printing.push_marks.Goals as goal

pub returns : goal.returns
returns c = rw (c.in_ok-push.ensures.items, c.in_ok-push_field-8.ensures, c.in_ok-push_field-7.ensures, c.in_ok-push_field-6.ensures, c.in_ok-push_field-5.ensures, c.in_ok-push_field-4.ensures, c.in_ok-push_field-3.ensures, c.in_ok-push_field-2.ensures, c.in_ok-push_field.ensures) (simp append_assoc)
