-- The task of a stage is given.
use Rattle.nm_migrator_work.specs.Planned.{MigratorKept}
use Rattle.std.proofs.Common.{◌≡◌, ℕ, ◌+◌, ◌≤◌, inl, inr, [], length, refl, sym, ap, subst, arith}
use Rattle.nm_base.specs.Geometry.{Geometry}
use Rattle.nm_action.specs.declared.spent.Spent.{Spent}
use Rattle.nm_view.specs.Views.{View}
use Rattle.nm_part.specs.Patterns.{Sometimes}
use Rattle.nm_worker.specs.declared.routine.Task.{Task}
use Rattle.nm_worker.specs.declared.routine.Task.TheVariants.{Run, Put, Take, Stop}
use Rattle.nm_worker.specs.Notes.{Notes, IsTask}
use Rattle.nm_worker.specs.Routines.{task_data, IsTaskRun, IsNextTask}
use Rattle.nm_migrator_work.specs.declared.piece.MigratorPiece.{MigratorPiece}
use Rattle.nm_migrator_work.specs.Works.{MigratorWorkMade, migrator_work_made, IsMigratorWork, MayMigratorWork}
use Rattle.nm_migrator_work.proofs.Beginning.{may-mark, may-looks, may-cool, may-batch, may-move, may-ask, mapped-is-page}
use Rattle.nm_migrator.specs.declared.migrating.Migrating.{Migrating}
use Rattle.nm_migrator.specs.declared.migrating.MigratingStage.{MigratingStage}
use Rattle.nm_migrator.specs.declared.migrating.MigratingStage.TheVariants.{New, TakingCandidate, Judging, Heating, PuttingHot, Cooling, PuttingBack, Spilling, TakingPending, PuttingTwice, Planning, Batching, PuttingAgain, Moving, PuttingMoved, Asking, TakingLast, Unmarking, Over}
use Rattle.nm_migrator_work.specs.Ends.{migrator_counts}
use Rattle.nm_migrator.specs.Migrating.{Sequence}
use Rattle.nm_migrator.specs.Stages.{migrator_kept, stage_task, comes_at, migrating_left, KnownAt, IsResting, IsMigratingAt, IsNewTask, Gives}
use Rattle.nm_migrator.proofs.Ending.{HasTask, can-left}
use Rattle.nm_migrator.proofs.Coming.{comes}

-- the piece of work of a task may begin
abbrev pub MayTask : Geometry → View → Task MigratorWorkMade → Type 0
MayTask g view (Run work) = MayMigratorWork work g view
MayTask g view Stop = ⊥
MayTask g view task = Unit {0}

few-pieces : (a b c : ℕ) → a + (b + c) ≤ 8 → a ≤ 8
few-pieces a b c h = omega arith

may-task : (m : Migrating) (stage : MigratingStage) (view : View) → KnownAt m stage → HasTask stage → IsResting m.geometry.now m.spent view → MayTask m.geometry.now view (stage_task m stage)
may-task m New view k has r = absurd k
may-task m TakingCandidate view k has r = tt
may-task m (Judging page) view k has r = may-looks m.geometry.now page view
may-task m (Heating page) view k has r = may-mark m.geometry.now page 2 view (mapped-is-page m.geometry.now page k.1) (inr refl)
may-task m (PuttingHot page) view k has r = tt
may-task m (Cooling page) view k has r = may-cool m.geometry.now page view (mapped-is-page m.geometry.now page k.1) k.1 r.empty
may-task m (PuttingBack page) view k has r = tt
may-task m (Spilling page) view k has r = may-mark m.geometry.now page 0 view (mapped-is-page m.geometry.now page k.1) (inl refl)
may-task m TakingPending view k has r = tt
may-task m (PuttingTwice page) view k has r = tt
may-task m (Planning index page) view k has r = may-looks m.geometry.now page view
may-task m Batching view k has r =
    let plan = k.0.1 in
    may-batch m.geometry.now m.pieces m.spent view r.geometry r.empty r.drawn (few-pieces (length m.pieces) (length m.moves) 0 plan.few) plan.pages plan.once
may-task m (PuttingAgain index page) view k has r = tt
may-task m (Moving index page count) view k has r = may-move m.geometry.now page count m.spent view r.geometry r.empty r.drawn k.2.page k.2.some
may-task m (PuttingMoved index page) view k has r = tt
may-task m Asking view k has r = may-ask m.geometry.now view r.geometry r.empty
may-task m TakingLast view k has r = tt
may-task m (Unmarking page) view k has r = may-mark m.geometry.now page 0 view k.1 (inl refl)
may-task m Over view k has r = absurd has

-- what is owed of a task
record Owed (m : Migrating) (view : View) (was : Sequence) (task : Task MigratorWorkMade) : Type 0 where
  pub may : MayTask m.geometry.now view task
  pub run : IsTaskRun (IsMigratingAt m view task) (IsTask IsMigratorWork migrator_counts m.geometry.now task) (migrating_left m) was

given : (is_new : MigratorPiece → Type 0) (m : Migrating) (view : View) (was : Sequence) (task : Task MigratorPiece) (want : Task MigratorWorkMade)
    → task_data migrator_work_made task ≡ want → IsNewTask is_new task → Owed m view was want
    → IsNextTask migrator_work_made is_new MayMigratorWork IsMigratorWork migrator_counts (IsMigratingAt m) (migrating_left m) (migrator_kept m) was m.geometry.now view task
given is_new m view was (Run piece) want plain fresh owed =
    let o : Owed m view was (Run (migrator_work_made piece)) = subst (λ (t : Task MigratorWorkMade). Owed m view was t) (sym plain) owed in
    record { is_new = fresh; may_begin = o.may; run = o.run }
given is_new m view was (Put lane page) want plain fresh owed =
    let o : Owed m view was (Put lane page) = subst (λ (t : Task MigratorWorkMade). Owed m view was t) (sym plain) owed in o.run
given is_new m view was (Take lane) want plain fresh owed =
    let o : Owed m view was (Take lane) = subst (λ (t : Task MigratorWorkMade). Owed m view was t) (sym plain) owed in o.run
given is_new m view was Stop want plain fresh owed =
    let o : Owed m view was Stop = subst (λ (t : Task MigratorWorkMade). Owed m view was t) (sym plain) owed in absurd o.may

-- the task of the stage that was come to is given
pub gives : (is_new : MigratorPiece → Type 0) (m : Migrating) (task : Task MigratorPiece) (was : ℕ → Sequence)
    → task_data migrator_work_made task ≡ stage_task m m.stage → IsNewTask is_new task → KnownAt m m.stage → HasTask m.stage
    → ((notes : Notes) (outcome : MigratorKept) → Sometimes (comes_at m m.stage) notes outcome → Sometimes was notes outcome)
    → Gives is_new m.geometry.now m.spent m task was
gives is_new m task was plain fresh known has fits = λ view rest. given is_new m view (Sometimes was) task (stage_task m m.stage) plain fresh (record {
  may = may-task m m.stage view known has rest;
  run = record {
    known = record { is = refl; known = known; resting = rest };
    can = λ notes end shown. can-left m end has;
    fits = λ notes outcome f. fits notes outcome (comes m m.stage notes outcome f);
  };
})

-- the migrator gives End
ended : (is_new : MigratorPiece → Type 0) (m : Migrating) (view : View) (was : Sequence) (task : Task MigratorPiece)
    → task_data migrator_work_made task ≡ Stop → IsMigratingAt m view Stop → was [] (migrator_kept m)
    → IsNextTask migrator_work_made is_new MayMigratorWork IsMigratorWork migrator_counts (IsMigratingAt m) (migrating_left m) (migrator_kept m) was m.geometry.now view task
ended is_new m view was (Run piece) plain known h = cc
ended is_new m view was (Put lane page) plain known h = cc
ended is_new m view was (Take lane) plain known h = cc
ended is_new m view was Stop plain known h = record { known = known; ended = h }

pub gives-over : (is_new : MigratorPiece → Type 0) (m : Migrating) (task : Task MigratorPiece) (was : ℕ → Sequence)
    → m.stage ≡ Over → task_data migrator_work_made task ≡ stage_task m Over → KnownAt m Over → Sometimes was [] (migrator_kept m)
    → Gives is_new m.geometry.now m.spent m task was
gives-over is_new m task was at plain known h = λ view rest. ended is_new m view (Sometimes was) task plain (record {
  is = ap (stage_task m) (sym at);
  known = subst (λ (s : MigratingStage). KnownAt m s) (sym at) known;
  resting = rest;
}) h

-- The stage that was come to from an old one.
pub gives-stage : (is_new : MigratorPiece → Type 0) (old new : Migrating) (stage : MigratingStage) (task : Task MigratorPiece) (was : ℕ → Sequence)
    → new ≡ record old { stage = stage } → task_data migrator_work_made task ≡ stage_task old stage → IsNewTask is_new task → KnownAt old stage → HasTask stage
    → ((notes : Notes) (outcome : MigratorKept) → Sometimes (comes_at old stage) notes outcome → Sometimes was notes outcome)
    → Gives is_new old.geometry.now old.spent new task was
gives-stage is_new old new stage task was is plain fresh known has fits =
    subst (λ (m : Migrating). Gives is_new old.geometry.now old.spent m task was) (sym is) (gives is_new (record old { stage = stage }) task was plain fresh known has fits)

-- what was left may be more
pub gives-more : (is_new : MigratorPiece → Type 0) (g : Geometry) (m : Migrating) (view : View) (task : Task MigratorPiece) (was wider : Sequence)
    → ((notes : Notes) (outcome : MigratorKept) → was notes outcome → wider notes outcome)
    → IsNextTask migrator_work_made is_new MayMigratorWork IsMigratorWork migrator_counts (IsMigratingAt m) (migrating_left m) (migrator_kept m) was g view task
    → IsNextTask migrator_work_made is_new MayMigratorWork IsMigratorWork migrator_counts (IsMigratingAt m) (migrating_left m) (migrator_kept m) wider g view task
gives-more is_new g m view (Run piece) was wider more h = record { is_new = h.is_new; may_begin = h.may_begin; run = record { known = h.run.known; can = h.run.can; fits = λ notes outcome f. more notes outcome (h.run.fits notes outcome f) } }
gives-more is_new g m view (Put lane page) was wider more h = record { known = h.known; can = h.can; fits = λ notes outcome f. more notes outcome (h.fits notes outcome f) }
gives-more is_new g m view (Take lane) was wider more h = record { known = h.known; can = h.can; fits = λ notes outcome f. more notes outcome (h.fits notes outcome f) }
gives-more is_new g m view Stop was wider more h = record { known = h.known; ended = more [] (migrator_kept m) h.ended }

pub gives-fit : (is_new : MigratorPiece → Type 0) (g : Geometry) (spent : Spent) (m : Migrating) (task : Task MigratorPiece) (now was : ℕ → Sequence)
    → Gives is_new g spent m task now → ((notes : Notes) (outcome : MigratorKept) → Sometimes now notes outcome → Sometimes was notes outcome) → Gives is_new g spent m task was
gives-fit is_new g spent m task now was h fits = λ view rest. gives-more is_new g m view task (Sometimes now) (Sometimes was) fits (h view rest)
