use Rattle.std.proofs.Common.{arith}
use Rattle.nm_actor_rows.proofs.Fitting.{fits_absent}
use Rattle.nm_actor_rows.proofs.rows.machine.absent_fits.Goals as goal

pub returns : goal.returns
returns c = λ t g vpage. fits_absent g c.args.view.now vpage c.args.word (grind (arith, t)) (c.has_no_op.ensures c.if-not-has_no_op.false)
