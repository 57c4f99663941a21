use Rattle.nm_arena.specs.Seats.{IsActorSeat}
use Rattle.nm_arena_rows.proofs.threads.draw.Given as goal

abbrev pub invariant-loop-i : goal.invariant-loop-i
invariant-loop-i l = IsActorSeat l.arena l.seat
