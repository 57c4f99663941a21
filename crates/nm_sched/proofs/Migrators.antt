-- The migrator of a script.
use Rattle.std.proofs.Common.{◌≡◌, ℕ, Bool, Option, sym, subst, ◌∙◌}
use Rattle.nm_base.specs.Geometry.{Geometry}
use Rattle.nm_action.specs.declared.tally.Tally.{Tally}
use Rattle.nm_actor.specs.Turns.{Turns, turns_view}
use Rattle.nm_routine_part.specs.Parts.{IsEmptyAtEnd}
use Rattle.nm_script.specs.Plain.{Script}
use Rattle.nm_migrator.specs.Parts.{migrator_made, worker_counted, AgreesMigrator, IsMigratorPartBy}
use Rattle.nm_programs.specs.Runs.{HasPart}
use Rattle.nm_sched.specs.Parts.{IsMigratorRun}
use Rattle.nm_sched.proofs.Ending.{routine-agreed}

-- the part of a migrator with this data, which where it has ended leaves nothing open
record IsRunBy (made : Geometry × Option ℕ × ℕ) (turns : Turns) (ended : Bool) (counts : Tally) : Type 0 where
  part : IsMigratorPartBy made turns ended counts
  left : IsEmptyAtEnd ended (turns_view made.0 made.0.cpus turns)

-- its part: it was never resumed
pub migrator-part : (script : Script) (made_with : Geometry × Option ℕ × ℕ) (turns : Turns) (ended : Bool) (counts : Tally)
    → made_with ≡ record { 0 = script.geometry; 1 = script.retry; 2 = 0 } → HasPart migrator_made AgreesMigrator (λ a. worker_counted a.worker) made_with turns ended counts
    → IsMigratorRun script.geometry script.retry turns ended counts
migrator-part script made_with turns ended counts made h =
    let a = h.actor in
    let counted = worker_counted a.worker in
    let Made : Geometry × Option ℕ × ℕ → Type 0 = λ m. IsRunBy m turns ended counted in
    let Counted : Tally → Type 0 = λ t. IsMigratorRun script.geometry script.retry turns ended t in
    let run = subst Made (h.same ∙ made) (routine-agreed (AgreesMigrator a) (λ turns ended. IsRunBy (migrator_made a) turns ended counted) turns ended (λ turns last k. record { part = k.part; left = k.empty }) h.agreed) in
    subst Counted (sym h.counts_so) (record { part = run.part.part; left = run.left })
