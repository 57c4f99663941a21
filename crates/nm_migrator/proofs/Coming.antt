-- A list of the task of a stage, and of what is left after it, is a list of what comes with that stage.
use Rattle.nm_migrator_work.specs.Planned.{MigratorKept}
use Rattle.std.proofs.Common.{ℕ, ◌+◌, Option}
use Rattle.nm_base.specs.Geometry.{Geometry}
use Rattle.nm_action.specs.declared.turn.Lane.{Lane}
use Rattle.nm_action.specs.declared.turn.Lane.TheVariants.{Candidates, Pending}
use Rattle.nm_part.specs.Patterns.{Follows, Sometimes}
use Rattle.nm_worker.specs.declared.routine.Task.TheVariants.{Run, Put, Take}
use Rattle.nm_worker.specs.declared.routine.Ended.{Ended}
use Rattle.nm_worker.specs.declared.routine.Ended.TheVariants as ended
use Rattle.nm_worker.specs.Notes.{Notes, IsWorkDone, IsPut, IsTake, IsTask}
use Rattle.nm_worker.proofs.Routing.{run-follows, put-follows, take-follows}
use Rattle.nm_migrator_work.specs.Works.{MigratorWorkMade, MigratorWorkEnd, IsMigratorWork, made_mark, made_looks, made_cool, made_batch, made_move, made_ask}
use Rattle.nm_migrator.specs.declared.migrating.Migrating.{Migrating}
use Rattle.nm_migrator.specs.declared.migrating.MigratingStage.{MigratingStage}
use Rattle.nm_migrator.specs.declared.migrating.MigratingStage.TheVariants.{New, TakingCandidate, Judging, Heating, PuttingHot, Cooling, PuttingBack, Spilling, TakingPending, PuttingTwice, Planning, Batching, PuttingAgain, Moving, PuttingMoved, Asking, TakingLast, Unmarking, Over}
use Rattle.nm_migrator_work.specs.Ends.{full_in, taken_page_in, migrator_counts}
use Rattle.nm_migrator.specs.Migrating.{Sequence, Does, Puts, Taken, TakesMapped, AfterCandidate, AfterLast}
use Rattle.nm_migrator.specs.Stages.{migrator_kept, next_of, stage_task, left_at, comes_at, PutLeft, BackLeft, CandidatesLeft, TakenLeft, AgainLeft, MovesLeft, MoreLeft}
use Rattle.nm_migrator.proofs.Looping.{sometimes-out, puts-once, takes-once}

work-comes : (g : Geometry) (work : MigratorWorkMade) (left : Ended MigratorWorkEnd → ℕ → Sequence) (notes : Notes) (outcome : MigratorKept)
    → Follows (IsTask IsMigratorWork migrator_counts g (Run work)) (λ end. Sometimes (left end)) notes outcome → Sometimes (λ n. Does g work (λ end. left (ended.Run end) n)) notes outcome
work-comes g work left notes outcome f =
    sometimes-out (IsWorkDone IsMigratorWork migrator_counts work g) (λ end. left (ended.Run end)) notes outcome (run-follows IsMigratorWork migrator_counts g work (λ end. Sometimes (left end)) notes outcome f)

put-comes : (g : Geometry) (page : ℕ) (left : ℕ → Sequence) (notes : Notes) (outcome : MigratorKept)
    → Follows (IsTask IsMigratorWork migrator_counts g (Put Pending page)) (λ end. Sometimes (λ n. PutLeft page (full_in end) (left n))) notes outcome → Sometimes (λ n. Puts page (left n)) notes outcome
put-comes g page left notes outcome f =
    let s = sometimes-out (IsPut Pending page) (λ full n. PutLeft page full (left n)) notes outcome (put-follows IsMigratorWork migrator_counts g Pending page (λ end. Sometimes (λ n. PutLeft page (full_in end) (left n))) notes outcome f) in
    record { tries = s.tries; is = puts-once page (left s.tries) notes outcome s.is }

take-comes : (g : Geometry) (lane : Lane) (after : ℕ → Option ℕ → Sequence) (notes : Notes) (outcome : MigratorKept)
    → Follows (IsTask IsMigratorWork migrator_counts g (Take lane)) (λ end. Sometimes (λ n. Taken g (TakesMapped g lane (after n)) (after n) (taken_page_in end))) notes outcome → Sometimes (λ n. TakesMapped g lane (after n)) notes outcome
take-comes g lane after notes outcome f =
    let s = sometimes-out (IsTake lane) (λ page n. Taken g (TakesMapped g lane (after n)) (after n) page) notes outcome (take-follows IsMigratorWork migrator_counts g lane (λ end. Sometimes (λ n. Taken g (TakesMapped g lane (after n)) (after n) (taken_page_in end))) notes outcome f) in
    record { tries = s.tries; is = takes-once g lane (after s.tries) notes outcome s.is }

pub comes : (m : Migrating) (stage : MigratingStage) (notes : Notes) (outcome : MigratorKept)
    → Follows (IsTask IsMigratorWork migrator_counts m.geometry.now (stage_task m stage)) (λ end. Sometimes (left_at m stage end)) notes outcome → Sometimes (comes_at m stage) notes outcome
comes m New notes outcome f = absurd f.shown
comes m TakingCandidate notes outcome f = take-comes m.geometry.now Candidates (λ n. AfterCandidate m.geometry.now (next_of m n) (migrator_kept m)) notes outcome f
comes m (Judging page) notes outcome f = work-comes m.geometry.now (made_looks m.geometry.now page) (left_at m (Judging page)) notes outcome f
comes m (Heating page) notes outcome f = work-comes m.geometry.now (made_mark page 1 2) (left_at m (Heating page)) notes outcome f
comes m (PuttingHot page) notes outcome f = put-comes m.geometry.now page (CandidatesLeft m) notes outcome f
comes m (Cooling page) notes outcome f = work-comes m.geometry.now (made_cool m.geometry.now page) (left_at m (Cooling page)) notes outcome f
comes m (PuttingBack page) notes outcome f =
    sometimes-out (IsPut Candidates page) (λ full n. BackLeft m page full n) notes outcome (put-follows IsMigratorWork migrator_counts m.geometry.now Candidates page (λ end. Sometimes (left_at m (PuttingBack page) end)) notes outcome f)
comes m (Spilling page) notes outcome f = work-comes m.geometry.now (made_mark page 1 0) (left_at m (Spilling page)) notes outcome f
comes m TakingPending notes outcome f = take-comes m.geometry.now Pending (λ n page. MoreLeft m page n) notes outcome f
comes m (PuttingTwice page) notes outcome f = put-comes m.geometry.now page (TakenLeft m m.taken) notes outcome f
comes m (Planning index page) notes outcome f = work-comes m.geometry.now (made_looks m.geometry.now page) (left_at m (Planning index page)) notes outcome f
comes m Batching notes outcome f = work-comes m.geometry.now (made_batch m.geometry.now m.pieces m.spent) (left_at m Batching) notes outcome f
comes m (PuttingAgain index page) notes outcome f = put-comes m.geometry.now page (AgainLeft m (index + 1)) notes outcome f
comes m (Moving index page count) notes outcome f = work-comes m.geometry.now (made_move m.geometry.now page count m.spent) (left_at m (Moving index page count)) notes outcome f
comes m (PuttingMoved index page) notes outcome f = put-comes m.geometry.now page (MovesLeft m (index + 1) (migrator_kept m)) notes outcome f
comes m Asking notes outcome f = work-comes m.geometry.now (made_ask m.geometry.now) (left_at m Asking) notes outcome f
comes m TakingLast notes outcome f = take-comes m.geometry.now Candidates (λ n. AfterLast m.geometry.now (next_of m n) (migrator_kept m)) notes outcome f
comes m (Unmarking page) notes outcome f = work-comes m.geometry.now (made_mark page 1 0) (left_at m (Unmarking page)) notes outcome f
comes m Over notes outcome f = absurd f.shown
