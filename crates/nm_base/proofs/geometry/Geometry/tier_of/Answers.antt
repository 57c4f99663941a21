-- The frame lies in its tier.
use Rattle.std.proofs.Common.{sym, subst, rules}
use Rattle.nm_base.specs.Geometry.{IsInTier}
use Rattle.nm_base.proofs.Tiers.{IsInTier-tier_of}
use Rattle.nm_base.proofs.geometry.Geometry.tier_of.Goals as goal

pub returns-clause-within : goal.returns-clause-within
returns-clause-within c =
    subst (IsInTier c.args.self.now c.args.frame) (sym (search rules)) (IsInTier-tier_of c.args.self.now c.args.frame c.requires)
