use Rattle.std.proofs.Common.{◌-◌, arith}
use Rattle.nm_base.proofs.Pages.{mapped_below_pages}
use Rattle.nm_base.proofs.Chains.{chains-linked}
use Rattle.nm_base.proofs.reverse_map.link_all.Goals as goal

pub link-requires-clause-page : goal.link-requires-clause-page
link-requires-clause-page c = omega (arith, mapped_below_pages c.args.vpages.now (c.loop-vpage.vpage - 1) c.in-Some.mapped c.in-Some.is, c.loop-vpage.invariant.chains.pages)

pub loop-vpage-preserved-in-Some : goal.loop-vpage-preserved-in-Some
loop-vpage-preserved-in-Some c =
    let chains = chains-linked c.args.vpages.now (c.loop-vpage.vpage - 1) c.loop-vpage.vpage c.loop-vpage.first c.loop-vpage.next c.link.new.first c.link.new.next c.in-Some.mapped
    (omega (arith, c.loop-vpage-test.true)) c.in-Some.is c.loop-vpage.invariant.chains c.link.ensures.first c.link.ensures.next in
    record { within = omega (arith, c.loop-vpage.invariant.within); chains = chains }
