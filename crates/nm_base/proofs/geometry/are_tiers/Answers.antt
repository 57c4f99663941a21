-- Four tiers of fewer than 4,096 frames each have fewer than 2^32 frames.
use Rattle.std.proofs.Common.{arith}
use Rattle.std.proofs.lemmas.List.Sums.{sum_by-le}
use Rattle.nm_base.proofs.geometry.are_tiers.Goals as goal

pub count_frames-requires : goal.count_frames-requires
count_frames-requires c =
    omega (arith, sum_by-le (λ n. n) 4095 c.args.tiers.now (λ k d h. (c.have_frames.ensures.0 c.if-not-have_frames.false k d h).1), c.if-tiers-gt-MOST_TIERS.false)
