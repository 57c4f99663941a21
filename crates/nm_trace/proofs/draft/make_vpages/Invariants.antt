use Rattle.std.proofs.Common.{◌≡◌, map}
use Rattle.std.specs.List.{range_with_len}
use Rattle.nm_trace.specs.Imports.{own_page}
use Rattle.nm_trace.proofs.draft.make_vpages.Given as goal

abbrev pub invariant-loop-page : goal.invariant-loop-page
invariant-loop-page l = l.vpages.items ≡ map own_page (range_with_len 0 l.page)
