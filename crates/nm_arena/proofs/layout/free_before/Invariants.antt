use Rattle.std.proofs.Common.{◌≡◌}
use Rattle.nm_words.specs.Names.{first_free}
use Rattle.nm_arena.proofs.layout.free_before.Given as goal

abbrev pub invariant-loop-before : goal.invariant-loop-before
invariant-loop-before l = l.first ≡ first_free l.g l.before
