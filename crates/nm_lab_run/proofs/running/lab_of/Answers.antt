-- There is a row for each retry.
use Rattle.std.proofs.Common.{◌≡◌, length, ap, ◌∙◌, arith}
use Rattle.nm_lab_run.proofs.Labs.{rows_many}
use Rattle.nm_lab_run.proofs.running.lab_of.Goals as goal

pub print_lab-requires-clause-some : goal.print_lab-requires-clause-some
print_lab-requires-clause-some c =
    let many : length c.deref.result.now ≡ length c.args.retries.now = ap length c.deref.ensures.value ∙ rows_many c.args.script.now c.args.retries.now c.in_ok-rows.rows.items c.in_ok-rows.ensures in
    omega (arith, many, c.requires.some)

pub print_lab-requires-clause-few : goal.print_lab-requires-clause-few
print_lab-requires-clause-few c =
    let many : length c.deref.result.now ≡ length c.args.retries.now = ap length c.deref.ensures.value ∙ rows_many c.args.script.now c.args.retries.now c.in_ok-rows.rows.items c.in_ok-rows.ensures in
    omega (arith, many, c.requires.few)
