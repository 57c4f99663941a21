use Rattle.std.proofs.Common.{◌≡◌, ◌++◌, map, take}
use Rattle.nm_script.specs.declared.item.Item.TheVariants as items
use Rattle.nm_script.specs.Items.{lines_text}
use Rattle.nm_script.proofs.printing.push_nodes.Given as goal

abbrev pub invariant-loop-node : goal.invariant-loop-node
invariant-loop-node l = l.out.items ≡ l.fn.out.items ++ lines_text l.cpus (map (λ n. items.Node n) (take l.node-index l.nodes))
