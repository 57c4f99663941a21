-- The migrator's part of a run, and what the actor says of itself.
use Rattle.std.specs.Prelude.{◌≡◌, ℕ, zero, suc, Bool, false, [], ◌++◌, Option}
use Rattle.nm_base.specs.Geometry.{Geometry}
use Rattle.nm_action.specs.declared.tally.Tally.{Tally}
use Rattle.nm_action.specs.declared.turn.Turn.{Turn}
use Rattle.nm_view.specs.Views.{View}
use Rattle.nm_actor.specs.Turns.{Turns, turns_view}
use Rattle.nm_part.specs.Patterns.{CanEnd}
use Rattle.nm_worker.specs.declared.worker.Worker.{Worker}
use Rattle.nm_view.specs.Opening.{opening}
use Rattle.nm_action.specs.Tally.{sum_of}
use Rattle.nm_worker.specs.Notes.{Notes, noted_turns}
use Rattle.nm_worker.specs.Routines.{IsNextTask}
use Rattle.nm_worker.specs.Workers.{FollowsRoutine, IsNewWorker}
use Rattle.nm_actor.specs.Actors.{gave_end}
use Rattle.nm_routine_part.specs.Parts.{IsEmptyAtEnd, IsRoutinePart}
use Rattle.nm_migrator_work.specs.declared.piece.MigratorPiece.{MigratorPiece}
use Rattle.nm_migrator_work.specs.Works.{migrator_work_made, IsNewMigratorWork, MayMigratorWork, IsMigratorWork, AwaitsMigratorWork}
use Rattle.nm_migrator_work.specs.Ends.{migrator_counts}
use Rattle.nm_migrator.specs.declared.migrating.Migrating.{Migrating}
use Rattle.nm_migrator.specs.declared.actor.MigratorActor.{MigratorActor}
use Rattle.nm_migrator_work.specs.Planned.{MigratorKept}
use Rattle.nm_migrator.specs.Migrating.{Sequence, IsMigrating, IsMigratingBy}
use Rattle.nm_migrator.specs.Stages.{migrator_kept, migrating_made, migrating_left, IsMigratingAt}

-- the migrator stands behind the processors
abbrev pub migrator_number : Geometry → ℕ
migrator_number g = g.cpus

-- these are the answered turns of a migrator, which has ended or not, and this is its tally
abbrev pub IsMigratorPart : Geometry → Option ℕ → Turns → Bool → Tally → Type 0
IsMigratorPart g retry turns has_ended tally = IsRoutinePart (IsMigrating g retry) turns has_ended tally

-- these turns begin with a whole sequence
pub record HasWhole (whole : Sequence) (turns : Turns) : Type 0 where
  pub before : Notes
  pub kept : MigratorKept
  pub shown : whole before kept
  pub later : Turns
  pub is : turns ≡ noted_turns before ++ later

-- so many whole sequences were made, each begun with what the one before it left; then come the turns of the present one
abbrev pub HasMadeWhole : ℕ → Geometry → Option ℕ → Turns → Type 0
HasMadeWhole zero g retry turns = Unit {0}
HasMadeWhole (suc n) g retry turns = HasWhole (IsMigratingBy n g retry) turns

-- those of a migrator with this data, by how often it was resumed: they begin with so many whole sequences, and go on with one
-- more, which is whole where it has ended
pub record IsMigratorPartBy (made : Geometry × Option ℕ × ℕ) (turns : Turns) (has_ended : Bool) (tally : Tally) : Type 0 where
  pub part : IsRoutinePart (IsMigratingBy made.2 made.0 made.1) turns has_ended tally
  pub past : HasMadeWhole made.2 made.0 made.1 turns

abbrev pub MigratorWorker : Type 0
MigratorWorker = Worker Migrating MigratorPiece

-- the geometry, the retry, and how often it was resumed
abbrev pub migrator_made : MigratorActor → Geometry × Option ℕ × ℕ
migrator_made a = migrating_made a.worker.routine

-- the worker inside agrees with these turns
abbrev pub AgreesWorker : MigratorWorker → Turns → Option Turn → Type 0
AgreesWorker w = FollowsRoutine migrator_work_made IsNewMigratorWork MayMigratorWork IsMigratorWork AwaitsMigratorWork migrator_counts (IsMigratingAt w.routine) (migrating_left w.routine) (migrator_kept w.routine) (IsMigratingBy w.routine.resumed.number w.routine.geometry.now w.routine.retry) w.routine.geometry.now w.routine.geometry.now.cpus w.action w.task w.events w.ends w.spent

-- what it has counted
abbrev pub worker_counted : MigratorWorker → Tally
worker_counted w = sum_of w.events.tally w.ends

-- it has given no turn
abbrev pub IsNewMigratorWorker : MigratorWorker → Type 0
IsNewMigratorWorker w = IsNewWorker (CanEnd (IsMigratingBy w.routine.resumed.number w.routine.geometry.now w.routine.retry)) (IsNextTask migrator_work_made IsNewMigratorWork MayMigratorWork IsMigratorWork migrator_counts (IsMigratingAt w.routine) (migrating_left w.routine) (migrator_kept w.routine) (IsMigratingBy w.routine.resumed.number w.routine.geometry.now w.routine.retry) w.routine.geometry.now (opening w.routine.geometry.now w.routine.geometry.now.cpus) w.task)
    w.routine.geometry.now w.routine.geometry.now.cpus w.events w.ends w.spent

-- the actor agrees with these turns, the last of which awaits its answer: they are a migrator's part, and the tally is what it
-- has counted
pub record AgreesMigrator (a : MigratorActor) (turns : Turns) (last : Option Turn) : Type 0 where
  pub worker : AgreesWorker a.worker turns last
  pub part : IsMigratorPartBy (migrator_made a) turns (gave_end last) (worker_counted a.worker)
  pub empty : IsEmptyAtEnd (gave_end last) (turns_view (migrator_made a).0 (migrator_number (migrator_made a).0) turns)

-- the actor has given no turn
pub record IsNewMigrator (a : MigratorActor) : Type 0 where
  pub worker : IsNewMigratorWorker a.worker
  pub part : IsMigratorPartBy (migrator_made a) [] false (worker_counted a.worker)
