use Rattle.std.proofs.Common.{◌≡◌, ◌++◌, take}
use Rattle.nm_script.specs.Items.{lines_text}
use Rattle.nm_script.specs.Script.{map_items}
use Rattle.nm_script.proofs.printing.push_maps.Given as goal

abbrev pub invariant-loop-v : goal.invariant-loop-v
invariant-loop-v l = l.out.items ≡ l.fn.out.items ++ lines_text l.cpus (map_items 0 (take l.v l.vpages))
