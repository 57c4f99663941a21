use Rattle.std.proofs.Common.{None, rules}
use Rattle.nm_script.proofs.Printed.{maps-more}
use Rattle.nm_script.proofs.printing.push_maps.Goals as goal

pub loop-v-preserved : goal.loop-v-preserved
loop-v-preserved c =
    maps-more c.args.cpus c.args.out.now.items c.loop-v.out.items c.push_map.new.out.items c.args.vpages.now c.loop-v.v None (search rules) c.loop-v.invariant (search rules)
