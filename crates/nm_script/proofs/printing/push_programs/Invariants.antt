use Rattle.std.proofs.Common.{◌≡◌, ◌++◌, map, take}
use Rattle.nm_script.specs.Items.{lines_text}
use Rattle.nm_script.specs.Script.{program_items}
use Rattle.nm_script.proofs.printing.push_programs.Given as goal

abbrev pub invariant-loop-p : goal.invariant-loop-p
invariant-loop-p l = l.out.items ≡ l.fn.out.items ++ lines_text l.cpus (program_items 0 (map (λ program. program.items) (take l.p l.programs)))
