use Rattle.std.proofs.Common.{◌≡◌, ◌++◌, map, take}
use Rattle.nm_script.specs.declared.item.Item.TheVariants as items
use Rattle.nm_script.specs.Items.{lines_text}
use Rattle.nm_script.proofs.printing.push_plan.Given as goal

abbrev pub invariant-loop-item : goal.invariant-loop-item
invariant-loop-item l = l.out.items ≡ l.fn.out.items ++ lines_text l.cpus (map (λ g. items.Go g) (take l.item-index l.plan))
