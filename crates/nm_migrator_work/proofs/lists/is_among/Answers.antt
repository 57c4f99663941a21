use Rattle.std.proofs.Common.{◌∙◌, drop, ◌+◌}
use Rattle.nm_migrator_work.proofs.Counting.{among-next}
use Rattle.nm_migrator_work.proofs.lists.is_among.Goals as goal

pub loop-index-preserved : goal.loop-index-preserved
loop-index-preserved c =
    among-next c.args.page c.in-Some.other (drop c.loop-index.index c.args.pages.now) (drop (c.loop-index.index + 1) c.args.pages.now) c.in-Some.ensures.some c.if-other-page.false ∙ c.loop-index.invariant
