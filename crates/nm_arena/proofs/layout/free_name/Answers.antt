-- The words of the tiers before, and the rest.
use Rattle.std.proofs.Common.{◌≡◌, ◌<◌, length, ap, arith}
use Rattle.nm_base.specs.Geometry.{Geometry}
use Rattle.nm_arena.proofs.Laid.{free_more}
use Rattle.nm_arena.proofs.layout.free_name.Goals as goal

pub loop-tier-preserved : goal.loop-tier-preserved
loop-tier-preserved c =
    let same : length c.g.inside.tiers.items ≡ length c.args.g.now.tiers = ap (λ (m : Geometry). length m.tiers) c.g.view_is in
    let lt : c.loop-tier.tier < length c.args.g.now.tiers = omega (arith, same) in
    omega (arith, free_more c.args.g.now c.loop-tier.tier lt, c.free_words-words.ensures, c.loop-tier.invariant)
