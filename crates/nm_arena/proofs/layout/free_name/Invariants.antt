use Rattle.std.proofs.Common.{◌≡◌, ◌+◌}
use Rattle.nm_words.specs.Names.{first_free}
use Rattle.nm_arena.proofs.layout.free_name.Given as goal

abbrev pub invariant-loop-tier : goal.invariant-loop-tier
invariant-loop-tier l = first_free l.g l.tier + l.rest ≡ l.place
