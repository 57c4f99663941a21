use Rattle.std.proofs.Common.{◌<◌, ℕ, length, Option, sym, subst, arith}
use Rattle.nm_base.proofs.Chains.{left_at, left_at-less, come_to, mapped_below, next-after, start-after}
use Rattle.nm_base.proofs.reverse_map.ReverseMap.next.Goals as goal

pub loop-at-smaller : goal.loop-at-smaller
loop-at-smaller c =
    let vs = c.args.vpages.now in
    let m = c.args.self.now in
    let there = come_to vs c.args.page c.args.from c.in-Some.vpage c.loop-at.at c.loop-at.invariant c.in-Some.is in
    let after = next-after vs m.first.items m.next.items c.args.page c.in-Some.vpage c.index-at.result.now c.requires.map there c.index-at.ensures in
    subst (λ (at : Option ℕ). left_at (length vs) c.index-at.result.now < left_at (length vs) at) (sym c.in-Some.is)
    (left_at-less vs c.args.page c.in-Some.vpage c.index-at.result.now (mapped_below vs c.args.page c.in-Some.vpage there) after)

pub loop-at-preserved : goal.loop-at-preserved
loop-at-preserved c =
    let vs = c.args.vpages.now in
    let m = c.args.self.now in
    let there = come_to vs c.args.page c.args.from c.in-Some.vpage c.loop-at.at c.loop-at.invariant c.in-Some.is in
    start-after vs m.first.items m.next.items c.args.page c.args.from c.in-Some.vpage c.index-at.result.now c.requires.map there (omega (arith, c.if-vpage-from.false)) c.index-at.ensures
