-- The migrator is begun again after it has stopped.
use Rattle.std.proofs.Common.{◌≡◌, ℕ, suc, ◌+◌, ◌++◌, Option, refl, sym, subst, arith}
use Rattle.nm_base.specs.Geometry.{Geometry}
use Rattle.nm_action.specs.declared.turn.Lane.TheVariants.{Candidates}
use Rattle.nm_times.specs.declared.times.Times.{Times}
use Rattle.nm_view.specs.Views.{View}
use Rattle.nm_worker.specs.declared.routine.Task.{Task}
use Rattle.nm_worker.specs.declared.routine.Task.TheVariants.{Stop}
use Rattle.nm_worker.specs.Notes.{Notes}
use Rattle.nm_worker.specs.Routines.{task_data, IsNextTask, IsBegunAgain}
use Rattle.nm_migrator_work.specs.declared.piece.MigratorPiece.{MigratorPiece}
use Rattle.nm_migrator_work.specs.Works.{migrator_work_made, MayMigratorWork, IsMigratorWork}
use Rattle.nm_migrator.specs.declared.migrating.Migrating.{Migrating}
use Rattle.nm_migrator.specs.declared.migrating.MigratingStage.{MigratingStage}
use Rattle.nm_migrator.specs.declared.migrating.MigratingStage.TheVariants.{New, TakingCandidate, Judging, Heating, PuttingHot, Cooling, PuttingBack, Spilling, TakingPending, PuttingTwice, Planning, Batching, PuttingAgain, Moving, PuttingMoved, Asking, TakingLast, Unmarking, Over}
use Rattle.nm_migrator_work.specs.Ends.{migrator_counts}
use Rattle.nm_migrator_work.specs.Planned.{MigratorKept}
use Rattle.nm_migrator.specs.Migrating.{MigratorRounds, MigratesFrom, IsMigratingBy}
use Rattle.nm_migrator.specs.Stages.{migrator_kept, stage_task, migrating_left, IsMigratorKept, KnownAt, IsNewTask, IsMigratingAt}
use Rattle.nm_migrator.proofs.Ending.{some-from}
use Rattle.nm_migrator.proofs.Giving.{gives-stage, gives-more}
use Rattle.nm_migrator.proofs.Fitting.{candidates-fit}

-- after a whole sequence comes one more, begun with what that has left
pub migrates-on : (resumed : ℕ) (g : Geometry) (retry : Option ℕ) (notes : Notes) (kept : MigratorKept) → IsMigratingBy resumed g retry notes kept
    → (rest : Notes) (outcome : MigratorKept) → MigratesFrom g retry kept rest outcome → IsMigratingBy (suc resumed) g retry (notes ++ rest) outcome
migrates-on resumed g retry notes kept h rest outcome more = record { end = kept; front = notes; back = rest; shown = h; rest = more; is = refl }

-- where it has stopped, what is kept is there
kept-at-stop : (m : Migrating) (stage : MigratingStage) → Stop ≡ stage_task m stage → KnownAt m stage → IsMigratorKept m
kept-at-stop m New is k = absurd k
kept-at-stop m TakingCandidate is k = cc
kept-at-stop m (Judging page) is k = cc
kept-at-stop m (Heating page) is k = cc
kept-at-stop m (PuttingHot page) is k = cc
kept-at-stop m (Cooling page) is k = cc
kept-at-stop m (PuttingBack page) is k = cc
kept-at-stop m (Spilling page) is k = cc
kept-at-stop m TakingPending is k = cc
kept-at-stop m (PuttingTwice page) is k = cc
kept-at-stop m (Planning index page) is k = cc
kept-at-stop m Batching is k = cc
kept-at-stop m (PuttingAgain index page) is k = cc
kept-at-stop m (Moving index page count) is k = cc
kept-at-stop m (PuttingMoved index page) is k = cc
kept-at-stop m Asking is k = cc
kept-at-stop m TakingLast is k = cc
kept-at-stop m (Unmarking page) is k = cc
kept-at-stop m Over is k = k

-- candidates are taken again
pub begun-again : (is_new : MigratorPiece → Type 0) (old new : Migrating) (times : Times) (task : Task MigratorPiece)
    → times.number ≡ old.resumed.number + 1 → new ≡ record old { resumed = times; stage = TakingCandidate } → task_data migrator_work_made task ≡ stage_task old TakingCandidate → IsNewTask is_new task
    → (notes : Notes) (view : View) → IsMigratingAt old view Stop → IsMigratingBy old.resumed.number old.geometry.now old.retry notes (migrator_kept old)
    → IsBegunAgain
    (IsNextTask migrator_work_made is_new MayMigratorWork IsMigratorWork migrator_counts (IsMigratingAt new) (migrating_left new) (migrator_kept new) (λ rest outcome. IsMigratingBy new.resumed.number new.geometry.now new.retry (notes ++ rest) outcome) old.geometry.now view task)
    (λ rest outcome. IsMigratingBy new.resumed.number new.geometry.now new.retry (notes ++ rest) outcome)
begun-again is_new old new times task counted is plain fresh notes view at whole =
    let g = old.geometry.now in
    let kept = migrator_kept old in
    let one : suc old.resumed.number ≡ times.number = omega (arith, counted) in
    let on : (rest : Notes) (outcome : MigratorKept) → MigratesFrom g old.retry kept rest outcome → IsMigratingBy times.number g old.retry (notes ++ rest) outcome =
    λ rest outcome more. subst (λ (n : ℕ). IsMigratingBy n g old.retry (notes ++ rest) outcome) one (migrates-on old.resumed.number g old.retry notes kept whole rest outcome more) in
    let m : Migrating = record old { resumed = times } in
    let next : Migrating = record old { resumed = times; stage = TakingCandidate } in
    let some = some-from g old.retry kept in
    let N : Migrating → Type 0 = λ x. IsBegunAgain
    (IsNextTask migrator_work_made is_new MayMigratorWork IsMigratorWork migrator_counts (IsMigratingAt x) (migrating_left x) (migrator_kept x) (λ rest outcome. IsMigratingBy x.resumed.number x.geometry.now x.retry (notes ++ rest) outcome) g view task)
    (λ rest outcome. IsMigratingBy x.resumed.number x.geometry.now x.retry (notes ++ rest) outcome) in
    subst N (sym is) (record {
      can = record { rest = some.rest; outcome = some.outcome; shown = on some.rest some.outcome some.shown };
      next = gives-more is_new g next view task (MigratesFrom g old.retry kept) (λ rest outcome. IsMigratingBy times.number g old.retry (notes ++ rest) outcome) on
          (gives-stage is_new m next TakingCandidate task (λ n. MigratorRounds g old.retry n Candidates kept) refl plain fresh (kept-at-stop old old.stage at.is at.known) tt (candidates-fit m) view at.resting);
    })
