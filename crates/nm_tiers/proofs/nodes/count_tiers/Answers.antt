-- One quotient more is counted, and one fewer is left.
use Rattle.std.proofs.Common.{sym, ap, length, arith}
use Rattle.nm_tiers.proofs.Quotients.{next-some, next-le}
use Rattle.nm_tiers.proofs.nodes.count_tiers.Goals as goal

pub loop-quotient-preserved : goal.loop-quotient-preserved
loop-quotient-preserved c =
    let next = sym c.in-Some.ensures.next in
    let left = next-some c.args.nodes.now c.loop-quotient.from c.in-Some.quotient next in
    let over = next-le c.args.nodes.now c.loop-quotient.from c.in-Some.quotient next in
    record {
      count = omega (arith, ap length left);
      few = omega arith;
      narrow = omega (arith, c.in-Some.ensures.narrow);
    }
