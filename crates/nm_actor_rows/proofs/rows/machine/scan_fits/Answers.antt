use Rattle.std.proofs.Common.{arith}
use Rattle.nm_actor_rows.proofs.Fitting.{fits_scan}
use Rattle.nm_actor_rows.proofs.rows.machine.scan_fits.Goals as goal

pub returns : goal.returns
returns c = λ t.
    fits_scan c.args.g.now c.args.view.now c.args.tier c.args.word 8 (grind (arith, t))
    (c.is_large.ensures c.if-not-is_large.false)
    (c.has_no_op.ensures c.if-not-has_no_op.false)
    (c.owns_nothing.ensures c.if-not-owns_nothing.false)
