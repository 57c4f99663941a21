use Rattle.std.proofs.Common.{◌≡◌}
use Rattle.nm_arena.specs.Seats.{IsActorSeat}
use Rattle.nm_arena_rows.proofs.rows.make_all.Given as goal

abbrev pub invariant-loop-row : goal.invariant-loop-row
invariant-loop-row l = IsActorSeat l.arena l.one × IsActorSeat l.arena l.two × (l.state.geometry ≡ l.fn.state.geometry)
