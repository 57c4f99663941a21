use Rattle.std.proofs.Common.{◌≤◌, length, drop, sym, ap, ◌∙◌, arith}
use Rattle.nm_batch.proofs.Lists.{drop-over}
use Rattle.nm_batch.proofs.task.BatchTask.end_of.Goals as goal

pub unreachable-requires : goal.unreachable-requires
unreachable-requires c =
    let few : length c.args.self.now.ends.value ≤ c.args.i = drop-over c.args.i c.args.self.now.ends.value (ap (drop c.args.i) (sym c.deref.ensures) ∙ c.in-None.ensures.none) in
    omega arith
