use Rattle.std.proofs.Common.{◌<◌}
use Rattle.std.specs.Prelude.{All}
use Rattle.nm_base_rows.proofs.rows.flat.accesses_of.Given as goal

abbrev pub invariant-loop-vpage : goal.invariant-loop-vpage
invariant-loop-vpage l = All (λ a. (a.vpage < 3) × (a.word < 4)) l.accesses.items
