use Rattle.std.proofs.Common.{None, rules}
use Rattle.nm_script.proofs.Memory.{places-more}
use Rattle.nm_script.proofs.draft.add_page.Goals as goal

pub loop-vpages-preserved : goal.loop-vpages-preserved
loop-vpages-preserved c = record {
  placed = places-more None c.args.vpages.now.items c.loop-vpages.vpages.items c.push.new.self.items c.loop-vpages.invariant.placed c.loop-vpages.invariant.from (search rules);
  within = search rules;
  from = search rules;
}
