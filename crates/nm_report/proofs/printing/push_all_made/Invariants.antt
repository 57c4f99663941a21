use Rattle.std.proofs.Common.{◌≡◌, ◌++◌, take, flat_map}
use Rattle.std.specs.List.{zip}
use Rattle.nm_report.specs.Texts.{made_text}
use Rattle.nm_report.proofs.printing.push_all_made.Given as goal

abbrev pub invariant-loop-i : goal.invariant-loop-i
invariant-loop-i l =
    l.out.items ≡ l.fn.out.items ++ flat_map (λ pair. made_text pair.0 pair.1) (take l.i (zip l.program l.results))
