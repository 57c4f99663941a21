-- The parts of the actors of a run that have all ended, by the turns of each actor, whoever called upon them.
use Rattle.std.specs.Prelude.{◌≡◌, ℕ, ◌+◌, ◌<◌, List, Option}
use Rattle.nm_base.specs.Geometry.{Geometry}
use Rattle.nm_action.specs.declared.action.Event.{Event}
use Rattle.nm_action.specs.Own.{own_of}
use Rattle.nm_actor.specs.Turns.{Turns, own_list, turns_view}
use Rattle.nm_worker.specs.Notes.{Notes, noted_turns}
use Rattle.nm_worker.specs.Routines.{IsLeftEmpty}
use Rattle.nm_migrator_work.specs.Planned.{MigratorKept}
use Rattle.nm_migrator.specs.Migrating.{IsMigratingBy}
use Rattle.nm_kswap.specs.Reclaiming.{IsReclaiming}
use Rattle.nm_shadow_fault.specs.declared.fault.FaultEnd.{FaultEnd}
use Rattle.nm_cpu_fault.specs.ProcessorFaults.{processor_faults}
use Rattle.nm_script.specs.declared.script.Line.{Line}
use Rattle.nm_cpu.specs.Programs.{CpuEnd, IsProgramMade}
use Rattle.nm_cpu.specs.Agreeing.{IsEndedCpu}

-- the own list of each actor, as its turns tell it, is its part of the events
abbrev pub IsMergeOf : (ℕ → Turns) → List Event → Type 0
IsMergeOf turns events = (actor : ℕ) → own_of actor events ≡ own_list (turns actor)

-- a processor made its whole program, and left nothing open
pub record IsEndedProcessor (g : Geometry) (program : List Line) (cpu : ℕ) (turns : Turns) : Type 0 where
  pub end : CpuEnd FaultEnd
  pub made : IsProgramMade processor_faults g program turns end
  pub left : IsEndedCpu (turns_view g cpu turns)

-- a migrator, which was resumed some times or never, made whole sequences, and left nothing open
pub record IsEndedMigrator (g : Geometry) (retry : Option ℕ) (turns : Turns) : Type 0 where
  pub resumed : ℕ
  pub notes : Notes
  pub kept : MigratorKept
  pub is : turns ≡ noted_turns notes
  pub made : IsMigratingBy resumed g retry notes kept
  pub left : IsLeftEmpty (turns_view g g.cpus turns)

-- a reclaimer made a whole sequence, and left nothing open
pub record IsEndedReclaimer (g : Geometry) (turns : Turns) : Type 0 where
  pub notes : Notes
  pub is : turns ≡ noted_turns notes
  pub made : IsReclaiming g notes tt
  pub left : IsLeftEmpty (turns_view g (g.cpus + 1) turns)

-- all actors have ended: the processors with these programs, the migrator and the reclaimer
pub record AreEndedParts (g : Geometry) (programs : ℕ → List Line) (retry : Option ℕ) (turns : ℕ → Turns) : Type 0 where
  pub cpus : (cpu : ℕ) → cpu < g.cpus → IsEndedProcessor g (programs cpu) cpu (turns cpu)
  pub migrator : IsEndedMigrator g retry (turns g.cpus)
  pub reclaimer : IsEndedReclaimer g (turns (g.cpus + 1))
