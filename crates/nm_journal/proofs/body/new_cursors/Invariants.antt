use Rattle.std.proofs.Common.{◌≡◌}
use Rattle.std.specs.Prelude.{replicate}
use Rattle.nm_follow.specs.Cursors.{new_cursor}
use Rattle.nm_journal.proofs.body.new_cursors.Given as goal

abbrev pub invariant-loop-cpu : goal.invariant-loop-cpu
invariant-loop-cpu l = l.cursors.items ≡ replicate l._cpu new_cursor
