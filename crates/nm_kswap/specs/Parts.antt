-- The reclaimer's part of a run, and what the actor says of itself.
use Rattle.std.specs.Prelude.{ℕ, ◌+◌, Bool, Option}
use Rattle.nm_base.specs.Geometry.{Geometry, IsGeometry}
use Rattle.nm_action.specs.declared.tally.Tally.{Tally}
use Rattle.nm_action.specs.declared.turn.Turn.{Turn}
use Rattle.nm_view.specs.Views.{View}
use Rattle.nm_actor.specs.Turns.{Turns, turns_view}
use Rattle.nm_worker.specs.declared.worker.Worker.{Worker}
use Rattle.nm_actor.specs.Actors.{gave_end}
use Rattle.nm_routine_part.specs.Parts.{IsEmptyAtEnd, IsRoutinePart}
use Rattle.nm_kswap.specs.declared.reclaiming.Reclaiming.{Reclaiming}
use Rattle.nm_kswap.specs.declared.actor.ReclaimerActor.{ReclaimerActor}
use Rattle.nm_kswap.specs.declared.work.ReclaimerPiece.{ReclaimerPiece}
use Rattle.nm_kswap.specs.Reclaiming.{IsReclaiming}

-- the reclaimer stands behind the processors and the migrator
abbrev pub reclaimer_number : Geometry → ℕ
reclaimer_number g = g.cpus + 1

-- these are the answered turns of a reclaimer, which has ended or not, and this is its tally
abbrev pub IsReclaimerPart : Geometry → Turns → Bool → Tally → Type 0
IsReclaimerPart g turns has_ended tally = IsRoutinePart (IsReclaiming g) turns has_ended tally

-- In these, what the worker inside says of itself is given.

abbrev pub ReclaimerWorker : Type 0
ReclaimerWorker = Worker Reclaiming ReclaimerPiece

abbrev pub reclaimer_geometry : ReclaimerActor → Geometry
reclaimer_geometry a = a.worker.routine.geometry.now

-- the actor agrees with these answered turns, and awaits the answer to the one given last: they are a reclaimer's part, and the
-- tally is what it has counted
pub record AgreesReclaimer (agrees : ReclaimerWorker → Turns → Option Turn → Type 0) (counted : ReclaimerWorker → Tally) (a : ReclaimerActor) (turns : Turns) (last : Option Turn) : Type 0 where
  pub geometry : IsGeometry (reclaimer_geometry a)
  pub worker : agrees a.worker turns last
  pub part : IsReclaimerPart (reclaimer_geometry a) turns (gave_end last) (counted a.worker)
  pub empty : IsEmptyAtEnd (gave_end last) (turns_view (reclaimer_geometry a) (reclaimer_number (reclaimer_geometry a)) turns)
