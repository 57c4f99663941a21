use Rattle.std.proofs.Common.{◌≡◌, ◌≤◌, ◌++◌, ◌-◌, ◌+◌, length, replicate, None}
use Rattle.std.specs.Prelude.{max}
use Rattle.nm_script.proofs.draft.add_page.Given as goal

abbrev pub invariant-loop-vpages : goal.invariant-loop-vpages
invariant-loop-vpages l = record {
  placed : l.vpages.items ≡ l.fn.vpages.items ++ replicate (length l.vpages.items - length l.fn.vpages.items) None;
  within : length l.vpages.items ≤ max (length l.fn.vpages.items) (l.v + 1);
  from : length l.fn.vpages.items ≤ length l.vpages.items;
}

abbrev pub decreases-loop-vpages : goal.decreases-loop-vpages
decreases-loop-vpages l = l.v + 1 - length l.vpages.items
