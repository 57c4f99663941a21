use Rattle.std.proofs.Common.{◌≡◌, ◌++◌, flat_map}
use Rattle.std.specs.List.{range_with_len}
use Rattle.nm_report.specs.Texts.{page_text}
use Rattle.nm_report.proofs.printing.push_each_page.Given as goal

abbrev pub invariant-loop-b : goal.invariant-loop-b
invariant-loop-b l = l.out.items ≡ l.fn.out.items ++ flat_map (λ b. page_text l.end b) (range_with_len 0 l.b)
