use Rattle.std.proofs.Common.{◌≡◌, map}
use Rattle.std.specs.List.{range_with_len}
use Rattle.nm_gen.specs.Generated.{one_to_one}
use Rattle.nm_gen.proofs.random.make_vpages.Given as goal

abbrev pub invariant-loop-page : goal.invariant-loop-page
invariant-loop-page l = l.vpages.items ≡ map one_to_one (range_with_len 0 l.page)
