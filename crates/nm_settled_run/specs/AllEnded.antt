-- Runs in which every actor has ended, as their order tells it.
use Rattle.std.specs.Prelude.{ℕ, ◌==◌, ◌&&◌, IsTrue, Bool, List}
use Rattle.std.specs.List.{list_any}
use Rattle.nm_base.specs.Geometry.{Geometry}
use Rattle.nm_view.specs.Opening.{IsActor}
use Rattle.nm_schedule.specs.declared.turn.SimTurn.{SimTurn}

-- some turn is the last of an actor
abbrev pub has_ended_in : List SimTurn → ℕ → Bool
has_ended_in order actor = list_any (λ t. (t.actor == actor) && t.ended) order

-- each actor has ended
abbrev pub HaveAllEnded : Geometry → List SimTurn → Type 0
HaveAllEnded g order = (actor : ℕ) → IsActor g actor → IsTrue (has_ended_in order actor)
