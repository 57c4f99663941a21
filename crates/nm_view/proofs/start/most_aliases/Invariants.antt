use Rattle.std.proofs.Common.{◌≡◌}
use Rattle.nm_view.specs.Opening.{most_below}
use Rattle.nm_view.proofs.start.most_aliases.Given as goal

abbrev pub invariant-loop-page : goal.invariant-loop-page
invariant-loop-page l = l.most ≡ most_below l.g.vpages l.page
