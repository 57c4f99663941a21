-- The words of all tiers are few.
use Rattle.std.proofs.Common.{arith}
use Rattle.nm_shape.proofs.Laws.{kept_geometry}
use Rattle.nm_arena.proofs.Laid.{free_next, free_more}
use Rattle.nm_arena.proofs.layout.free_before.Goals as goal

pub overflow_add-first : goal.overflow_add-first
overflow_add-first c =
    let is = kept_geometry c.g.inside c.args.g.now c.g.view_is c.g.invariant in
    omega (arith, free_next c.args.g.now c.loop-before.before is (omega arith), c.free_words.ensures, c.loop-before.invariant)

pub loop-before-preserved : goal.loop-before-preserved
loop-before-preserved c =
    omega (arith, free_more c.args.g.now c.loop-before.before (omega arith), c.free_words.ensures, c.loop-before.invariant)
