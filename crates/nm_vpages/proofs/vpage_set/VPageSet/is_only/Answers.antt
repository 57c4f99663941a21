use Rattle.nm_vpages.proofs.Numbers.{none-after}
use Rattle.nm_vpages.proofs.vpage_set.VPageSet.is_only.Goals as goal

pub returns-then-least-vpage : goal.returns-then-least-vpage
returns-then-least-vpage c =
    let next = c.next-then-least-vpage in
    none-after c.args.self.now c.args.vpage c.in-Some.least next.result c.is_none.result c.in-Some.ensures.some c.if-least-vpage.true c.is_none.ensures next.ensures.some next.ensures.none
