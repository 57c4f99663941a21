use Rattle.std.proofs.Common.{◌+◌, take, length, ap, subst, sym, arith}
use Rattle.nm_base.specs.Geometry.{Geometry, page_count}
use Rattle.nm_view.specs.Opening.{HasCounts}
use Rattle.nm_view.proofs.Aliases.{page_counted, counts_more}
use Rattle.nm_view.proofs.start.alias_counts.Goals as goal

pub count_alias-requires-clause-within : goal.count_alias-requires-clause-within
count_alias-requires-clause-within c = page_counted c.args.g.now c.loop-v.counts.items (take c.loop-v.v c.args.g.now.vpages) c.loop-v.v c.backing.result c.backing.ensures c.loop-v.invariant

pub loop-v-preserved : goal.loop-v-preserved
loop-v-preserved c =
    let P : _ → Type 0 = λ counts. HasCounts counts (take (c.loop-v.v + 1) c.args.g.now.vpages) (page_count c.args.g.now) in
    subst P (sym c.count_alias.ensures) (counts_more c.args.g.now c.loop-v.counts.items c.loop-v.v c.backing.result c.backing.ensures (omega (arith, ap (λ (g : Geometry). length g.vpages) c.g.view_is)) c.loop-v.invariant)
