-- Seats of the smallest board.
use Rattle.std.proofs.Common.{◌≡◌, ◌≢◌, ℕ, zero, suc, refl, arith}
use Rattle.nm_actor.specs.Boards.{not_sat, sitting, with_entry}
use Rattle.nm_actor_rows.specs.Alone.{lone_seats}

-- no other than actor 1 sits, where it sat first
pub none_sits : (a : ℕ) → a ≢ 1 → with_entry 1 sitting (lone_seats not_sat not_sat) a ≡ sitting → ⊥
none_sits zero n e = cc
none_sits (suc zero) n e = n refl
none_sits (suc (suc a)) n e = grind arith
