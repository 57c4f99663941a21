use Rattle.std.proofs.Common.{◌≡◌, ◌≤◌}
use Rattle.nm_arena_rows.proofs.threads.is_merge.Given as goal

abbrev pub invariant-loop-number : goal.invariant-loop-number
invariant-loop-number l = (l.state.geometry ≡ l.fn.state.geometry) × (l.i ≤ 200) × (l.j ≤ 200)
