use Rattle.std.proofs.Common.{◌≡◌, ◌+◌, drop, sum, ◌<◌}
use Rattle.nm_base.specs.Geometry.{tier_among}
use Rattle.nm_base.proofs.geometry.tier_among.Given as goal

abbrev pub invariant-loop-frames : goal.invariant-loop-frames
invariant-loop-frames l = record {
  count : l.tier ≡ l.frames-index;
  rest : l.rest < sum (drop l.frames-index l.tiers);
  same : l.tier + tier_among (drop l.frames-index l.tiers) l.rest ≡ tier_among l.tiers l.frame;
}
