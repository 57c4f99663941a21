-- The parts of the actors of a run of a script, where all of them have ended.
use Rattle.std.proofs.Common.{◌≡◌, ◌≢◌, ℕ, zero, ◌+◌, ◌<◌, Bool, true, List, Option, subst, arith}
use Rattle.nm_base.specs.Geometry.{Geometry}
use Rattle.nm_action.specs.declared.tally.Tally.{Tally}
use Rattle.nm_view.specs.Opening.{IsActor}
use Rattle.nm_actor.specs.Turns.{Turns, turns_view}
use Rattle.nm_worker.specs.Notes.{Notes}
use Rattle.nm_routine_part.specs.Parts.{HasOutcome, IsCarriedOn, IsEmptyAtEnd}
use Rattle.nm_migrator.specs.Migrating.{IsMigrating}
use Rattle.nm_kswap.specs.Reclaiming.{IsReclaiming}
use Rattle.nm_cpu_fault.specs.ProcessorFaults.{processor_faults}
use Rattle.nm_cpu.specs.Parts.{IsSequence}
use Rattle.nm_script.specs.Plain.{Script}
use Rattle.nm_schedule.specs.declared.turn.Played.{Played}
use Rattle.nm_schedule.specs.Played.{turns_by, has_ended}
use Rattle.nm_programs.specs.Cpus.{program_of}
use Rattle.nm_programs.specs.Plain.{SimRun}
use Rattle.nm_programs.specs.Runs.{results_of, IsLeftByCpu, IsCpuRun}
use Rattle.nm_sched.specs.Parts.{IsMigratorRun, IsReclaimerRun}
use Rattle.nm_settled_turns.specs.EndedParts.{IsEndedProcessor, IsEndedMigrator, IsEndedReclaimer, AreEndedParts}

cpu-ended : (script : Script) (run : SimRun) (played : List Played) (cpu : ℕ) (counts : Tally) → IsCpuRun script run played cpu counts → has_ended played cpu ≡ true → IsEndedProcessor script.geometry (program_of script cpu) cpu (turns_by cpu played)
cpu-ended script run played cpu counts h ended =
    let S : Bool → Type 0 = λ b. IsSequence processor_faults script.geometry (program_of script cpu) (turns_by cpu played) b (results_of run cpu) h.part.ends in
    let L : Bool → Type 0 = λ b. IsLeftByCpu b (turns_view script.geometry cpu (turns_by cpu played)) in
    record { end = record { results = results_of run cpu; ends = h.part.ends }; made = subst S ended h.part.sequence; left = subst L ended h.left }

whole-of : {O : Type 0} (whole : Notes → O → Type 0) (notes : Notes) (ended : Bool) → ended ≡ true → IsCarriedOn whole ended notes → HasOutcome whole notes
whole-of whole notes ended is h =
    let C : Bool → Type 0 = λ b. IsCarriedOn whole b notes in
    subst C is h

migrator-ended : (g : Geometry) (retry : Option ℕ) (turns : Turns) (ended : Bool) (counts : Tally) → IsMigratorRun g retry turns ended counts → ended ≡ true → IsEndedMigrator g retry turns
migrator-ended g retry turns ended counts h is =
    let L : Bool → Type 0 = λ b. IsEmptyAtEnd b (turns_view g g.cpus turns) in
    let p = h.part in
    let w = whole-of (IsMigrating g retry) p.notes ended is p.carried in
    record { resumed = zero; notes = p.notes; kept = w.outcome; is = p.is; made = w.shown; left = subst L is h.left }

reclaimer-ended : (g : Geometry) (turns : Turns) (ended : Bool) (counts : Tally) → IsReclaimerRun g turns ended counts → ended ≡ true → IsEndedReclaimer g turns
reclaimer-ended g turns ended counts h is =
    let L : Bool → Type 0 = λ b. IsEmptyAtEnd b (turns_view g (g.cpus + 1) turns) in
    let p = h.part in
    let w = whole-of (IsReclaiming g) p.notes ended is p.carried in
    record { notes = p.notes; is = p.is; made = w.shown; left = subst L is h.left }

-- ---- all actors, where all have ended

pub record AreAllEnded (script : Script) (run : SimRun) (played : List Played) (tally : ℕ → Tally) : Type 0 where
  pub ended : (actor : ℕ) → IsActor script.geometry actor → has_ended played actor ≡ true
  pub cpus : (cpu : ℕ) → cpu < script.geometry.cpus → IsCpuRun script run played cpu (tally cpu)
  pub migrator : IsMigratorRun script.geometry script.retry (turns_by script.geometry.cpus played) (has_ended played script.geometry.cpus) (tally script.geometry.cpus)
  pub reclaimer : IsReclaimerRun script.geometry (turns_by (script.geometry.cpus + 1) played) (has_ended played (script.geometry.cpus + 1)) (tally (script.geometry.cpus + 1))

pub parts-ended : (script : Script) (run : SimRun) (played : List Played) (tally : ℕ → Tally) → AreAllEnded script run played tally → AreEndedParts script.geometry (program_of script) script.retry (λ actor. turns_by actor played)
parts-ended script run played tally h =
    let g = script.geometry in
    let n = g.cpus in
    record {
      cpus = λ cpu there. cpu-ended script run played cpu (tally cpu) (h.cpus cpu there) (h.ended cpu (omega (arith, there)));
      migrator = migrator-ended g script.retry (turns_by n played) (has_ended played n) (tally n) h.migrator (h.ended n (omega (arith)));
      reclaimer = reclaimer-ended g (turns_by (n + 1) played) (has_ended played (n + 1)) (tally (n + 1)) h.reclaimer (h.ended (n + 1) (omega (arith)));
    }
