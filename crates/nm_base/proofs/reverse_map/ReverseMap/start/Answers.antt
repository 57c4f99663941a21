use Rattle.std.proofs.Common.{◌-◌, arith}
use Rattle.nm_base.proofs.Chains.{start-after}
use Rattle.nm_base.proofs.reverse_map.ReverseMap.start.Goals as goal

pub returns-then-is_there : goal.returns-then-is_there
returns-then-is_there c =
    let m = c.args.self.now in
    start-after c.args.vpages.now m.first.items m.next.items c.args.page c.args.from (c.args.from - 1) c.index.result.now c.requires.map (c.is_there.ensures.0 c.if-is_there.true) (omega (arith, c.if-from-gt0.true)) c.index.ensures
