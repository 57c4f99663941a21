use Rattle.std.proofs.Common.{◌≡◌, drop}
use Rattle.nm_migrator_work.specs.Planned.{is_among}
use Rattle.nm_migrator_work.proofs.lists.is_among.Given as goal

abbrev pub invariant-loop-index : goal.invariant-loop-index
invariant-loop-index l = is_among l.page (drop l.index l.pages) ≡ is_among l.page l.pages
