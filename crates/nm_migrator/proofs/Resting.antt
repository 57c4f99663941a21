-- The view after a task.
use Rattle.std.proofs.Common.{◌≡◌, ℕ, List, sym, ap, ◌∙◌, subst}
use Rattle.nm_base.specs.Geometry.{Geometry}
use Rattle.nm_action.specs.declared.spent.Spent.{Spent}
use Rattle.nm_action.specs.declared.turn.Lane.{Lane}
use Rattle.nm_action.specs.declared.turn.Lane.TheVariants.{Candidates, Pending}
use Rattle.nm_action.specs.Own.{Own}
use Rattle.nm_view.specs.Views.{View}
use Rattle.nm_part.specs.Patterns.{Sometimes}
use Rattle.nm_transfer.specs.Stages.{HoldsWords}
use Rattle.nm_worker.specs.declared.routine.Task.{Task}
use Rattle.nm_worker.specs.declared.routine.Task.TheVariants.{Run, Put, Take, Stop}
use Rattle.nm_worker.specs.declared.routine.Ended.{Ended}
use Rattle.nm_worker.specs.declared.routine.Ended.TheVariants as ended
use Rattle.nm_worker.specs.Routines.{task_data, IsNextTask, IsTaskOver}
use Rattle.nm_migrator_work.specs.declared.work.MigratorWork.TheVariants as works
use Rattle.nm_migrator_work.specs.declared.piece.MigratorPiece.{MigratorPiece}
use Rattle.nm_migrator_work.specs.Works.{MigratorWorkMade, MigratorWorkEnd, migrator_work_made, IsMigratorWork, MayMigratorWork, MigratorWorkLeaves, made_mark, made_looks, made_cool, made_batch, made_move, made_ask}
use Rattle.nm_migrator_work.proofs.Resting.{mark-rests, looks-rests, cool-rests, batch-rests, move-rests, ask-rests}
use Rattle.nm_migrator.specs.declared.migrating.Migrating.{Migrating}
use Rattle.nm_migrator.specs.declared.migrating.MigratingStage.{MigratingStage}
use Rattle.nm_migrator.specs.declared.migrating.MigratingStage.TheVariants.{New, TakingCandidate, Judging, Heating, PuttingHot, Cooling, PuttingBack, Spilling, TakingPending, PuttingTwice, Planning, Batching, PuttingAgain, Moving, PuttingMoved, Asking, TakingLast, Unmarking, Over}
use Rattle.nm_migrator_work.specs.Ends.{batch_in, drawn_in, work_in, words_in, migrator_counts}
use Rattle.nm_migrator.specs.Stages.{migrator_kept, stage_task, left_at, migrating_left, KnownAt, IsResting, IsMigratingAt, Gives}

-- the view after a task, by how that ended
abbrev pub IsAfter : Geometry → View → View → Task MigratorWorkMade → Ended MigratorWorkEnd → Type 0
IsAfter g now later (Run work) (ended.Run end) = MigratorWorkLeaves work g now end later
IsAfter g now later (Put lane page) (ended.Put full) = later ≡ now
IsAfter g now later (Take lane) (ended.Take page) = later ≡ now
IsAfter g now later task end = ⊥

over-after : (over : MigratorPiece → Geometry → Own → MigratorWorkEnd → Type 0) (g : Geometry) (now later : View) (task : Task MigratorPiece) (end : Ended MigratorWorkEnd)
    → IsTaskOver migrator_work_made IsMigratorWork MigratorWorkLeaves over g now later task end → IsAfter g now later (task_data migrator_work_made task) end
over-after over g now later (Run piece) (ended.Run end) h = h.left
over-after over g now later (Run piece) (ended.Put full) h = absurd h
over-after over g now later (Run piece) (ended.Take page) h = absurd h
over-after over g now later (Put lane b) (ended.Run end) h = absurd h
over-after over g now later (Put lane b) (ended.Put full) h = h
over-after over g now later (Put lane b) (ended.Take page) h = absurd h
over-after over g now later (Take lane) (ended.Run end) h = absurd h
over-after over g now later (Take lane) (ended.Put full) h = absurd h
over-after over g now later (Take lane) (ended.Take page) h = h
over-after over g now later Stop end h = absurd h

-- what was drawn after the task of a stage
abbrev pub spent_after : Migrating → MigratingStage → Ended MigratorWorkEnd → Spent
spent_after m Batching end = (batch_in (work_in end)).spent
spent_after m (Moving index page count) end = drawn_in (work_in end)
spent_after m stage end = m.spent

-- By kinds of tasks.

module _ (g : Geometry) (spent : Spent) (now later : View) where
  put-rest : (lane : Lane) (page : ℕ) (end : Ended MigratorWorkEnd) → IsResting g spent now → IsAfter g now later (Put lane page) end → IsResting g spent later
  put-rest lane page (ended.Run end) r h = absurd h
  put-rest lane page (ended.Put full) r h = subst (λ (v : View). IsResting g spent v) (sym h) r
  put-rest lane page (ended.Take b) r h = absurd h

  take-rest : (lane : Lane) (end : Ended MigratorWorkEnd) → IsResting g spent now → IsAfter g now later (Take lane) end → IsResting g spent later
  take-rest lane (ended.Run end) r h = absurd h
  take-rest lane (ended.Put full) r h = absurd h
  take-rest lane (ended.Take b) r h = subst (λ (v : View). IsResting g spent v) (sym h) r

  mark-rest : (page from to : ℕ) (end : Ended MigratorWorkEnd) → IsResting g spent now → IsAfter g now later (Run (made_mark page from to)) end → IsResting g spent later
  mark-rest page from to (ended.Run end) r h = let rests = mark-rests g page from to now later end spent r.empty r.drawn h in record { geometry = r.geometry; empty = rests.0; drawn = rests.1 }
  mark-rest page from to (ended.Put full) r h = absurd h
  mark-rest page from to (ended.Take b) r h = absurd h

  looks-rest : (page : ℕ) (end : Ended MigratorWorkEnd) → IsResting g spent now → IsAfter g now later (Run (made_looks g page)) end → IsResting g spent later
  looks-rest page (ended.Run end) r h = let rests = looks-rests g page now later end spent r.empty r.drawn h in record { geometry = r.geometry; empty = rests.0; drawn = rests.1 }
  looks-rest page (ended.Put full) r h = absurd h
  looks-rest page (ended.Take b) r h = absurd h

  cool-rest : (page : ℕ) (end : Ended MigratorWorkEnd) → IsResting g spent now → IsAfter g now later (Run (made_cool g page)) end → IsResting g spent later
  cool-rest page (ended.Run end) r h = let rests = cool-rests g page now later end spent r.empty r.drawn h in record { geometry = r.geometry; empty = rests.0; drawn = rests.1 }
  cool-rest page (ended.Put full) r h = absurd h
  cool-rest page (ended.Take b) r h = absurd h

  ask-rest : (end : Ended MigratorWorkEnd) → IsResting g spent now → IsAfter g now later (Run (made_ask g)) end → IsResting g spent later
  ask-rest (ended.Run end) r h = let rests = ask-rests g now later end spent r.empty r.drawn h in record { geometry = r.geometry; empty = rests.0; drawn = rests.1 }
  ask-rest (ended.Put full) r h = absurd h
  ask-rest (ended.Take b) r h = absurd h

  batch-rest : (pieces : List (ℕ × ℕ)) (end : Ended MigratorWorkEnd) → IsResting g spent now → IsAfter g now later (Run (made_batch g pieces spent)) end → IsResting g (batch_in (work_in end)).spent later
  batch-rest pieces (ended.Run (works.Batch told)) r h = let rests = batch-rests g pieces spent now later told r.empty h in record { geometry = r.geometry; empty = rests.0; drawn = rests.1 }
  batch-rest pieces (ended.Run (works.Mark end)) r h = absurd h
  batch-rest pieces (ended.Run (works.Looks end)) r h = absurd h
  batch-rest pieces (ended.Run (works.Cool end)) r h = absurd h
  batch-rest pieces (ended.Run (works.Move end)) r h = absurd h
  batch-rest pieces (ended.Run (works.Ask end)) r h = absurd h
  batch-rest pieces (ended.Put full) r h = absurd h
  batch-rest pieces (ended.Take b) r h = absurd h

  move-rest : (page count : ℕ) (end : Ended MigratorWorkEnd) → IsResting g spent now → IsAfter g now later (Run (made_move g page count spent)) end → IsResting g (drawn_in (work_in end)) later
  move-rest page count (ended.Run (works.Move told)) r h = let rests = move-rests g page count spent now later told r.empty h in record { geometry = r.geometry; empty = rests.0; drawn = rests.1 }
  move-rest page count (ended.Run (works.Mark end)) r h = absurd h
  move-rest page count (ended.Run (works.Looks end)) r h = absurd h
  move-rest page count (ended.Run (works.Cool end)) r h = absurd h
  move-rest page count (ended.Run (works.Batch end)) r h = absurd h
  move-rest page count (ended.Run (works.Ask end)) r h = absurd h
  move-rest page count (ended.Put full) r h = absurd h
  move-rest page count (ended.Take b) r h = absurd h

  -- a locked move gives the list for taken words back
  move-holds : (page count : ℕ) (end : Ended MigratorWorkEnd) → IsAfter g now later (Run (made_move g page count spent)) end → HoldsWords (words_in (work_in end))
  move-holds page count (ended.Run (works.Move told)) h = tt
  move-holds page count (ended.Run (works.Mark end)) h = absurd h
  move-holds page count (ended.Run (works.Looks end)) h = absurd h
  move-holds page count (ended.Run (works.Cool end)) h = absurd h
  move-holds page count (ended.Run (works.Batch end)) h = absurd h
  move-holds page count (ended.Run (works.Ask end)) h = absurd h
  move-holds page count (ended.Put full) h = absurd h
  move-holds page count (ended.Take b) h = absurd h

rest-at : (m : Migrating) (stage : MigratingStage) (end : Ended MigratorWorkEnd) (now later : View) → KnownAt m stage → IsResting m.geometry.now m.spent now → IsAfter m.geometry.now now later (stage_task m stage) end → IsResting m.geometry.now (spent_after m stage end) later
rest-at m New end now later k r h = absurd k
rest-at m TakingCandidate end now later k r h = take-rest m.geometry.now m.spent now later Candidates end r h
rest-at m (Judging page) end now later k r h = looks-rest m.geometry.now m.spent now later page end r h
rest-at m (Heating page) end now later k r h = mark-rest m.geometry.now m.spent now later page 1 2 end r h
rest-at m (PuttingHot page) end now later k r h = put-rest m.geometry.now m.spent now later Pending page end r h
rest-at m (Cooling page) end now later k r h = cool-rest m.geometry.now m.spent now later page end r h
rest-at m (PuttingBack page) end now later k r h = put-rest m.geometry.now m.spent now later Candidates page end r h
rest-at m (Spilling page) end now later k r h = mark-rest m.geometry.now m.spent now later page 1 0 end r h
rest-at m TakingPending end now later k r h = take-rest m.geometry.now m.spent now later Pending end r h
rest-at m (PuttingTwice page) end now later k r h = put-rest m.geometry.now m.spent now later Pending page end r h
rest-at m (Planning index page) end now later k r h = looks-rest m.geometry.now m.spent now later page end r h
rest-at m Batching end now later k r h = batch-rest m.geometry.now m.spent now later m.pieces end r h
rest-at m (PuttingAgain index page) end now later k r h = put-rest m.geometry.now m.spent now later Pending page end r h
rest-at m (Moving index page count) end now later k r h = move-rest m.geometry.now m.spent now later page count end r h
rest-at m (PuttingMoved index page) end now later k r h = put-rest m.geometry.now m.spent now later Pending page end r h
rest-at m Asking end now later k r h = ask-rest m.geometry.now m.spent now later end r h
rest-at m TakingLast end now later k r h = take-rest m.geometry.now m.spent now later Candidates end r h
rest-at m (Unmarking page) end now later k r h = mark-rest m.geometry.now m.spent now later page 1 0 end r h
rest-at m Over end now later k r h = absurd h

-- Of the task that is over.

abbrev pub IsOver : (MigratorPiece → Geometry → Own → MigratorWorkEnd → Type 0) → Migrating → View → View → Task MigratorPiece → Ended MigratorWorkEnd → Type 0
IsOver over m now later task end = IsMigratingAt m now (task_data migrator_work_made task) × IsTaskOver migrator_work_made IsMigratorWork MigratorWorkLeaves over m.geometry.now now later task end

-- what was known at its stage
pub known-at : (m : Migrating) (stage : MigratingStage) (now : View) (task : Task MigratorWorkMade) → m.stage ≡ stage → IsMigratingAt m now task → KnownAt m stage
known-at m stage now task at k = subst (λ (s : MigratingStage). KnownAt m s) at k.known

pub after-at : (over : MigratorPiece → Geometry → Own → MigratorWorkEnd → Type 0) (m : Migrating) (stage : MigratingStage) (now later : View) (task : Task MigratorPiece) (end : Ended MigratorWorkEnd)
    → m.stage ≡ stage → IsOver over m now later task end → IsAfter m.geometry.now now later (stage_task m stage) end
after-at over m stage now later task end at h =
    subst (λ (t : Task MigratorWorkMade). IsAfter m.geometry.now now later t end) (h.0.is ∙ ap (stage_task m) at) (over-after over m.geometry.now now later task end h.1)

-- the list for taken words is given back
pub words-back : (over : MigratorPiece → Geometry → Own → MigratorWorkEnd → Type 0) (m : Migrating) (index page count : ℕ) (now later : View) (task : Task MigratorPiece) (end : Ended MigratorWorkEnd)
    → m.stage ≡ Moving index page count → IsOver over m now later task end → HoldsWords (words_in (work_in end))
words-back over m index page count now later task end at h = move-holds m.geometry.now m.spent now later page count end (after-at over m (Moving index page count) now later task end at h)

-- the task that comes next is the one that is given from the view after this task
pub goes-on : (is_new : MigratorPiece → Type 0) (over : MigratorPiece → Geometry → Own → MigratorWorkEnd → Type 0) (old new : Migrating) (stage : MigratingStage) (task given : Task MigratorPiece) (end : Ended MigratorWorkEnd) (now later : View)
    → old.stage ≡ stage → IsOver over old now later task end → Gives is_new old.geometry.now (spent_after old stage end) new given (left_at old stage end)
    → IsNextTask migrator_work_made is_new MayMigratorWork IsMigratorWork migrator_counts (IsMigratingAt new) (migrating_left new) (migrator_kept new) (migrating_left old end) old.geometry.now later given
goes-on is_new over old new stage task given end now later at h gives =
    subst (λ (s : MigratingStage). IsNextTask migrator_work_made is_new MayMigratorWork IsMigratorWork migrator_counts (IsMigratingAt new) (migrating_left new) (migrator_kept new) (Sometimes (left_at old s end)) old.geometry.now later given) (sym at)
    (gives later (rest-at old stage end now later (known-at old stage now (task_data migrator_work_made task) at h.0) h.0.resting (after-at over old stage now later task end at h)))
