use Rattle.std.proofs.Common.{◌≡◌, ◌++◌, flat_map}
use Rattle.std.specs.List.{range_with_len}
use Rattle.nm_report.specs.Texts.{tier_text}
use Rattle.nm_report.proofs.printing.push_each_tier.Given as goal

abbrev pub invariant-loop-t : goal.invariant-loop-t
invariant-loop-t l = l.out.items ≡ l.fn.out.items ++ flat_map (λ t. tier_text l.g l.roles t) (range_with_len 0 l.t)
