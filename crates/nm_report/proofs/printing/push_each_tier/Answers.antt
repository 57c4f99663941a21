use Rattle.std.proofs.Common.{rules}
use Rattle.nm_report.specs.Texts.{tier_text}
use Rattle.nm_report.proofs.Made.{numbers-pushed}
use Rattle.nm_report.proofs.printing.push_each_tier.Goals as goal

pub loop-t-preserved : goal.loop-t-preserved
loop-t-preserved c =
    numbers-pushed (λ t. tier_text c.args.g.now c.args.roles.now t) c.args.out.now.items c.loop-t.out.items c.push_tier.new.out.items c.loop-t.t c.loop-t.invariant (search rules)
