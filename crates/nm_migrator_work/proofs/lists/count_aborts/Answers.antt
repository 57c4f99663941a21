use Rattle.std.proofs.Common.{◌<◌, length, ℕ, arith}
use Rattle.nm_view.specs.Lists.{first}
use Rattle.nm_batch.proofs.Lists.{all-drop}
use Rattle.nm_migrator_work.proofs.lists.count_aborts.Goals as goal

pub count_abort-requires : goal.count_abort-requires
count_abort-requires c =
    let P : ℕ × ℕ → Type 0 = λ p. first p < length c.args.aborts.now in
    let within : c.in-Some.page < length c.args.aborts.now = all-drop P c.loop-index.index c.args.pieces.now _ _ c.in-Some.ensures.some c.requires in
    omega (arith, within)
