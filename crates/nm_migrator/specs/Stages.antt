-- How far the migrator has come: the task of each stage, what is left after it, and what is known of it.
use Rattle.std.specs.Prelude.{◌≡◌, ◌≢◌, ℕ, ◌+◌, ◌-◌, ◌<◌, ◌≤◌, Bool, List, [], ◌∷◌, length, drop, All, Option, None}
use Rattle.std.specs.List.{range_with_len}
use Rattle.nm_base.specs.Geometry.{Geometry, IsGeometry, page_count}
use Rattle.nm_base.specs.Ranges.{IsPage}
use Rattle.nm_action.specs.declared.spent.Spent.{Spent}
use Rattle.nm_action.specs.declared.action.Reply.{Reply}
use Rattle.nm_action.specs.declared.turn.Lane.{Lane}
use Rattle.nm_action.specs.declared.turn.Lane.TheVariants.{Candidates, Pending}
use Rattle.nm_view.specs.Lists.{find, itself, first, Once}
use Rattle.nm_view.specs.Views.{View}
use Rattle.nm_part.specs.Patterns.{Follows, Either, Sometimes}
use Rattle.nm_vpages.specs.VPages.{vpages_of}
use Rattle.nm_cool.specs.declared.cool.Cooled.{Cooled}
use Rattle.nm_txn.specs.declared.end.TxnEnd.{TxnEnd}
use Rattle.nm_transfer.specs.Stages.{HoldsWords}
use Rattle.nm_drawing.specs.declared.drawing.Drawn.{Drawn}
use Rattle.nm_worker.specs.declared.routine.Task.{Task}
use Rattle.nm_worker.specs.declared.routine.Task.TheVariants.{Run, Put, Take, Stop}
use Rattle.nm_worker.specs.declared.routine.Ended.{Ended}
use Rattle.nm_worker.specs.Notes.{IsPut}
use Rattle.nm_worker.specs.Routines.{IsNextTask, IsDrawn, IsLeftEmpty}
use Rattle.nm_migrator_work.specs.declared.piece.MigratorPiece.{MigratorPiece}
use Rattle.nm_migrator_work.specs.Works.{MigratorWorkMade, MigratorWorkEnd, migrator_work_made, IsMigratorWork, MayMigratorWork, made_mark, made_looks, made_cool, made_batch, made_move, made_ask}
use Rattle.nm_migrator.specs.declared.migrating.Migrating.{Migrating}
use Rattle.nm_migrator.specs.declared.migrating.MigratingStage.{MigratingStage}
use Rattle.nm_migrator.specs.declared.migrating.MigratingStage.TheVariants.{New, TakingCandidate, Judging, Heating, PuttingHot, Cooling, PuttingBack, Spilling, TakingPending, PuttingTwice, Planning, Batching, PuttingAgain, Moving, PuttingMoved, Asking, TakingLast, Unmarking, Over}
use Rattle.nm_migrator_work.specs.Ends.{mark_reply_in, looks_in, cooled_in, batch_in, move_in, drawn_in, all_ended_in, work_in, full_in, taken_page_in, migrator_counts}
use Rattle.nm_migrator_work.specs.Planned.{MigratorKept, nothing_kept, Plan, most_taken, planned, again_of, batched, is_busy_move, kept_drawn}
use Rattle.nm_migrator.specs.Migrating.{Sequence, Does, Puts, Taken, TakesMapped, Spills, AfterCool, Cools, AfterHeat, Heats, Judges, Unmarks, AfterLast, Asks, MovesLocked, AfterBatch, Batches, Plans, AfterTakes, PendingTaken, TakesPending, AfterCandidate, MigratorRounds}

-- What is kept.

abbrev pub migrator_kept : Migrating → MigratorKept
migrator_kept m = record { aborts = m.aborts.items; spent = m.spent }

abbrev pub migrator_plan : Migrating → Plan
migrator_plan m = record { pieces = m.pieces; moves = m.moves }

-- the geometry, the retry, and how often it was resumed
abbrev pub migrating_made : Migrating → Geometry × Option ℕ × ℕ
migrating_made m = record { 0 = m.geometry.now; 1 = m.retry; 2 = m.resumed.number }

-- The task of a stage.

abbrev pub stage_task : Migrating → MigratingStage → Task MigratorWorkMade
stage_task m New = Stop
stage_task m TakingCandidate = Take Candidates
stage_task m (Judging page) = Run (made_looks m.geometry.now page)
stage_task m (Heating page) = Run (made_mark page 1 2)
stage_task m (PuttingHot page) = Put Pending page
stage_task m (Cooling page) = Run (made_cool m.geometry.now page)
stage_task m (PuttingBack page) = Put Candidates page
stage_task m (Spilling page) = Run (made_mark page 1 0)
stage_task m TakingPending = Take Pending
stage_task m (PuttingTwice page) = Put Pending page
stage_task m (Planning index page) = Run (made_looks m.geometry.now page)
stage_task m Batching = Run (made_batch m.geometry.now m.pieces m.spent)
stage_task m (PuttingAgain index page) = Put Pending page
stage_task m (Moving index page count) = Run (made_move m.geometry.now page count m.spent)
stage_task m (PuttingMoved index page) = Put Pending page
stage_task m Asking = Run (made_ask m.geometry.now)
stage_task m TakingLast = Take Candidates
stage_task m (Unmarking page) = Run (made_mark page 1 0)
stage_task m Over = Stop

-- What is left, with so many more rounds at most.

abbrev pub next_of : Migrating → ℕ → Lane → MigratorKept → Sequence
next_of m n = MigratorRounds m.geometry.now m.retry n

-- after a candidate was taken, by what was taken
abbrev pub CandidateLeft : Migrating → Option ℕ → ℕ → Sequence
CandidateLeft m page n = Taken m.geometry.now (TakesMapped m.geometry.now Candidates (AfterCandidate m.geometry.now (next_of m n) (migrator_kept m))) (AfterCandidate m.geometry.now (next_of m n) (migrator_kept m)) page

abbrev pub LastLeft : Migrating → Option ℕ → ℕ → Sequence
LastLeft m page n = Taken m.geometry.now (TakesMapped m.geometry.now Candidates (AfterLast m.geometry.now (next_of m n) (migrator_kept m))) (AfterLast m.geometry.now (next_of m n) (migrator_kept m)) page

-- after a candidate was looked at
abbrev pub JudgedLeft : Migrating → ℕ → Bool → ℕ → Sequence
JudgedLeft m page hot n = Either hot (Heats m.geometry.now (next_of m n) (migrator_kept m) page) (Cools m.geometry.now (next_of m n) (migrator_kept m) page)

-- after it was marked as pending
abbrev pub HeatedLeft : Migrating → ℕ → Reply → ℕ → Sequence
HeatedLeft m page reply n = AfterHeat (next_of m n) (migrator_kept m) page reply

-- after it was cooled
abbrev pub CooledLeft : Migrating → ℕ → Cooled → ℕ → Sequence
CooledLeft m page end n = AfterCool m.geometry.now (next_of m n) (migrator_kept m) page end

-- after it was put back
abbrev pub BackLeft : Migrating → ℕ → Bool → ℕ → Sequence
BackLeft m page full n = Spills m.geometry.now (next_of m n) (migrator_kept m) page full

-- a page is put in the pending ones, by whether these were full; then this comes
abbrev pub PutLeft : ℕ → Bool → Sequence → Sequence
PutLeft page full after = Either full (Puts page after) after

-- from the taking of candidates on
abbrev pub CandidatesLeft : Migrating → ℕ → Sequence
CandidatesLeft m n = next_of m n Candidates (migrator_kept m)

-- from the taking of pending pages on
abbrev pub PendingLeft : Migrating → ℕ → Sequence
PendingLeft m n = next_of m n Pending (migrator_kept m)

-- after the pending pages were taken
abbrev pub TakenLeft : Migrating → List ℕ → ℕ → Sequence
TakenLeft m taken n = AfterTakes m.geometry.now m.retry (next_of m n) (migrator_kept m) taken

-- where some pending pages were taken
abbrev pub TakesLeft : Migrating → ℕ → Sequence
TakesLeft m n = TakesPending m.geometry.now (λ taken. TakenLeft m taken n) (most_taken - length m.taken) m.taken

-- what comes after one page more
abbrev pub MoreLeft : Migrating → Option ℕ → ℕ → Sequence
MoreLeft m page n = PendingTaken (λ taken. TakenLeft m taken n) (TakesPending m.geometry.now (λ taken. TakenLeft m taken n) (most_taken - (length m.taken + 1))) m.taken page

abbrev pub PageLeft : Migrating → Option ℕ → ℕ → Sequence
PageLeft m page n = Taken m.geometry.now (TakesMapped m.geometry.now Pending (λ page. MoreLeft m page n)) (λ page. MoreLeft m page n) page

-- where the pages from this place on are to be looked at
abbrev pub PlansLeft : Migrating → ℕ → Plan → ℕ → Sequence
PlansLeft m index plan n = Plans m.geometry.now m.retry (next_of m n) (migrator_kept m) (drop index m.taken) plan

abbrev pub PlannedLeft : Migrating → ℕ → ℕ → List ℕ → ℕ → Sequence
PlannedLeft m index page mapped n = PlansLeft m (index + 1) (planned m.geometry.now m.retry m.aborts.items page mapped (migrator_plan m)) n

-- where all pages were looked at
abbrev pub BatchesLeft : Migrating → ℕ → Sequence
BatchesLeft m n = Batches m.geometry.now (next_of m n) (migrator_kept m) m.moves m.pieces

-- after the batch
abbrev pub BatchedLeft : Migrating → Drawn (List TxnEnd) → ℕ → Sequence
BatchedLeft m told n = AfterBatch m.geometry.now (next_of m n) m.moves (again_of m.pieces told.end) (batched m.pieces told (migrator_kept m))

-- where pages from this place on are to be put in the pending ones again
abbrev pub AgainLeft : Migrating → ℕ → ℕ → Sequence
AgainLeft m index n = AfterBatch m.geometry.now (next_of m n) m.moves (drop index m.again) (migrator_kept m)

-- where pages from this place on are to be moved while they are locked
abbrev pub MovesLeft : Migrating → ℕ → MigratorKept → ℕ → Sequence
MovesLeft m index kept n = MovesLocked m.geometry.now (next_of m n) (drop index m.moves) kept

abbrev pub MovedLeft : Migrating → ℕ → ℕ → Bool → Spent → ℕ → Sequence
MovedLeft m index page busy spent n = Either busy (Puts page (MovesLeft m (index + 1) (kept_drawn spent (migrator_kept m)) n)) (MovesLeft m (index + 1) (kept_drawn spent (migrator_kept m)) n)

-- after the processors were asked
abbrev pub AskedLeft : Migrating → Bool → ℕ → Sequence
AskedLeft m all n = Either all (TakesMapped m.geometry.now Candidates (AfterLast m.geometry.now (next_of m n) (migrator_kept m))) (next_of m n Candidates (migrator_kept m))

-- where pages from this one on are to be no candidates any more
abbrev pub UnmarksLeft : Migrating → ℕ → ℕ → Sequence
UnmarksLeft m page n = Unmarks m.geometry.now (range_with_len page (page_count m.geometry.now - page)) (migrator_kept m)

abbrev pub NothingLeft : Sequence
NothingLeft notes outcome = ⊥

-- what is left after the task of a stage, by how it ends
abbrev pub left_at : Migrating → MigratingStage → Ended MigratorWorkEnd → ℕ → Sequence
left_at m New end n = NothingLeft
left_at m TakingCandidate end n = CandidateLeft m (taken_page_in end) n
left_at m (Judging page) end n = JudgedLeft m page (looks_in (work_in end)).hot n
left_at m (Heating page) end n = HeatedLeft m page (mark_reply_in (work_in end)) n
left_at m (PuttingHot page) end n = PutLeft page (full_in end) (CandidatesLeft m n)
left_at m (Cooling page) end n = CooledLeft m page (cooled_in (work_in end)) n
left_at m (PuttingBack page) end n = BackLeft m page (full_in end) n
left_at m (Spilling page) end n = PendingLeft m n
left_at m TakingPending end n = PageLeft m (taken_page_in end) n
left_at m (PuttingTwice page) end n = PutLeft page (full_in end) (TakenLeft m m.taken n)
left_at m (Planning index page) end n = PlannedLeft m index page (looks_in (work_in end)).mapped n
left_at m Batching end n = BatchedLeft m (batch_in (work_in end)) n
left_at m (PuttingAgain index page) end n = PutLeft page (full_in end) (AgainLeft m (index + 1) n)
left_at m (Moving index page count) end n = MovedLeft m index page (is_busy_move (move_in (work_in end))) (drawn_in (work_in end)) n
left_at m (PuttingMoved index page) end n = PutLeft page (full_in end) (MovesLeft m (index + 1) (migrator_kept m) n)
left_at m Asking end n = AskedLeft m (all_ended_in (work_in end)) n
left_at m TakingLast end n = LastLeft m (taken_page_in end) n
left_at m (Unmarking page) end n = UnmarksLeft m (page + 1) n
left_at m Over end n = NothingLeft

abbrev pub migrating_left : Migrating → Ended MigratorWorkEnd → Sequence
migrating_left m end = Sometimes (left_at m m.stage end)

-- what comes with the task of a stage
abbrev pub comes_at : Migrating → MigratingStage → ℕ → Sequence
comes_at m New n = NothingLeft
comes_at m TakingCandidate n = TakesMapped m.geometry.now Candidates (AfterCandidate m.geometry.now (next_of m n) (migrator_kept m))
comes_at m (Judging page) n = Judges m.geometry.now (next_of m n) (migrator_kept m) page
comes_at m (Heating page) n = Does m.geometry.now (made_mark page 1 2) (λ end. HeatedLeft m page (mark_reply_in end) n)
comes_at m (PuttingHot page) n = Puts page (CandidatesLeft m n)
comes_at m (Cooling page) n = Cools m.geometry.now (next_of m n) (migrator_kept m) page
comes_at m (PuttingBack page) n = Follows (IsPut Candidates page) (λ full. BackLeft m page full n)
comes_at m (Spilling page) n = Does m.geometry.now (made_mark page 1 0) (λ end. PendingLeft m n)
comes_at m TakingPending n = TakesMapped m.geometry.now Pending (λ page. MoreLeft m page n)
comes_at m (PuttingTwice page) n = Puts page (TakenLeft m m.taken n)
comes_at m (Planning index page) n = Does m.geometry.now (made_looks m.geometry.now page) (λ end. PlannedLeft m index page (looks_in end).mapped n)
comes_at m Batching n = Does m.geometry.now (made_batch m.geometry.now m.pieces m.spent) (λ end. BatchedLeft m (batch_in end) n)
comes_at m (PuttingAgain index page) n = Puts page (AgainLeft m (index + 1) n)
comes_at m (Moving index page count) n = Does m.geometry.now (made_move m.geometry.now page count m.spent) (λ end. MovedLeft m index page (is_busy_move (move_in end)) (drawn_in end) n)
comes_at m (PuttingMoved index page) n = Puts page (MovesLeft m (index + 1) (migrator_kept m) n)
comes_at m Asking n = Asks m.geometry.now (next_of m n) (migrator_kept m)
comes_at m TakingLast n = TakesMapped m.geometry.now Candidates (AfterLast m.geometry.now (next_of m n) (migrator_kept m))
comes_at m (Unmarking page) n = Does m.geometry.now (made_mark page 1 0) (λ end. UnmarksLeft m (page + 1) n)
comes_at m Over n = NothingLeft

-- What is known.

-- the geometry is one, and there is a count of aborts for each page
pub record HasAborts (g : Geometry) (aborts : List ℕ) : Type 0 where
  pub geometry : IsGeometry g
  pub counts : length aborts ≡ page_count g

-- and the list for taken words is here
pub record IsMigratorKeptIn (g : Geometry) (aborts : List ℕ) (room : Option (List (ℕ × ℕ))) : Type 0 where
  pub has : HasAborts g aborts
  pub words : HoldsWords room

abbrev pub IsMigratorKept : Migrating → Type 0
IsMigratorKept m = IsMigratorKeptIn m.geometry.now m.aborts.items m.words

-- a virtual page is mapped to it
abbrev pub IsMappedPage : Geometry → ℕ → Type 0
IsMappedPage g page = vpages_of g page ≢ []

abbrev pub IsCandidate : Migrating → ℕ → Type 0
IsCandidate m page = IsMigratorKept m × IsMappedPage m.geometry.now page

-- these pages were taken: no more than eight, virtual pages are mapped to them, and none stands twice
pub record AreTaken (g : Geometry) (pages : List ℕ) : Type 0 where
  pub few : length pages ≤ most_taken
  pub mapped : All (IsMappedPage g) pages
  pub once : Once itself pages

abbrev pub HasTakenPages : Migrating → Type 0
HasTakenPages m = IsMigratorKept m × AreTaken m.geometry.now m.taken

-- and there is room for one more
abbrev pub IsTakingPages : Migrating → Type 0
IsTakingPages m = HasTakenPages m × (length m.taken < most_taken)

-- a page that is to be moved while it is locked
pub record IsMove (g : Geometry) (move : ℕ × ℕ) : Type 0 where
  pub page : IsPage g move.0
  pub some : 1 ≤ move.1

-- these pages are still to be looked at: none of them is in the plan, and with them it has no more than eight pages
pub record IsPlanWith (g : Geometry) (plan : Plan) (rest : List ℕ) : Type 0 where
  pub few : length plan.pieces + (length plan.moves + length rest) ≤ most_taken
  pub pages : All (λ p. IsPage g (first p)) plan.pieces
  pub once : Once first plan.pieces
  pub moves : All (IsMove g) plan.moves
  pub mapped : All (IsMappedPage g) rest
  pub apart : All (λ page. find first page plan.pieces ≡ None) rest
  pub single : Once itself rest

abbrev pub HasPlan : Migrating → ℕ → Type 0
HasPlan m index = IsMigratorKept m × IsPlanWith m.geometry.now (migrator_plan m) (drop index m.taken) × (length m.taken ≤ most_taken)

abbrev pub IsPlanning : Migrating → ℕ → ℕ → Type 0
IsPlanning m index page = HasPlan m index × (drop index m.taken ≡ page ∷ drop (index + 1) m.taken)

-- all pages were looked at
abbrev pub HasPlanned : Migrating → Type 0
HasPlanned m = IsMigratorKept m × IsPlanWith m.geometry.now (migrator_plan m) []

-- and there is a piece
abbrev pub IsBatching : Migrating → Type 0
IsBatching m = HasPlanned m × (m.pieces ≢ [])

-- pages are to be moved while they are locked
abbrev pub HasMoves : Migrating → Type 0
HasMoves m = IsMigratorKept m × All (IsMove m.geometry.now) m.moves × (length m.moves ≤ most_taken)

-- and pages are to be put in the pending ones again
abbrev pub HasAgain : Migrating → Type 0
HasAgain m = HasMoves m × (length m.again ≤ most_taken)

-- the page at this place is put in the pending ones
abbrev pub IsPuttingAgain : Migrating → ℕ → Type 0
IsPuttingAgain m index = HasAgain m × (index < most_taken)

abbrev pub IsPuttingMoved : Migrating → ℕ → Type 0
IsPuttingMoved m index = HasMoves m × (index < most_taken)

-- a page is moved: its move has the list for taken words
abbrev pub IsMovingPage : Migrating → ℕ → ℕ → ℕ → Type 0
IsMovingPage m index page count = HasAborts m.geometry.now m.aborts.items × All (IsMove m.geometry.now) m.moves × IsMove m.geometry.now (page, count) × (length m.moves ≤ most_taken) × (index < most_taken)

abbrev pub IsUnmarking : Migrating → ℕ → Type 0
IsUnmarking m page = IsMigratorKept m × IsPage m.geometry.now page

-- what is known at a stage, of what is kept
abbrev pub KnownAt : Migrating → MigratingStage → Type 0
KnownAt m New = ⊥
KnownAt m TakingCandidate = IsMigratorKept m
KnownAt m (Judging page) = IsCandidate m page
KnownAt m (Heating page) = IsCandidate m page
KnownAt m (PuttingHot page) = IsCandidate m page
KnownAt m (Cooling page) = IsCandidate m page
KnownAt m (PuttingBack page) = IsCandidate m page
KnownAt m (Spilling page) = IsCandidate m page
KnownAt m TakingPending = IsTakingPages m
KnownAt m (PuttingTwice page) = HasTakenPages m
KnownAt m (Planning index page) = IsPlanning m index page
KnownAt m Batching = IsBatching m
KnownAt m (PuttingAgain index page) = IsPuttingAgain m index
KnownAt m (Moving index page count) = IsMovingPage m index page count
KnownAt m (PuttingMoved index page) = IsPuttingMoved m index
KnownAt m Asking = IsMigratorKept m
KnownAt m TakingLast = IsMigratorKept m
KnownAt m (Unmarking page) = IsUnmarking m page
KnownAt m Over = IsMigratorKept m

-- a view between two tasks: no operation is open, no frame is owned, no turn is held, and so much was drawn
pub record IsResting (g : Geometry) (spent : Spent) (view : View) : Type 0 where
  pub geometry : IsGeometry g
  pub empty : IsLeftEmpty view
  pub drawn : IsDrawn spent view

-- what is known of a task and of the view in which it began
pub record IsMigratingAt (m : Migrating) (now : View) (task : Task MigratorWorkMade) : Type 0 where
  pub is : task ≡ stage_task m m.stage
  pub known : KnownAt m m.stage
  pub resting : IsResting m.geometry.now m.spent now

-- What a step gives.

-- the task's piece of work, if it is one, has given no action
abbrev pub IsNewTask : {P : Type 0} → (P → Type 0) → Task P → Type 0
IsNewTask is_new (Run piece) = is_new piece
IsNewTask is_new task = Unit {0}

-- from a view between two tasks the migrator gives this task, where this is left, with some number of rounds
abbrev pub Gives : (MigratorPiece → Type 0) → Geometry → Spent → Migrating → Task MigratorPiece → (ℕ → Sequence) → Type 0
Gives is_new g spent new task was = (view : View) → IsResting g spent view
    → IsNextTask migrator_work_made is_new MayMigratorWork IsMigratorWork migrator_counts (IsMigratingAt new) (migrating_left new) (migrator_kept new) (Sometimes was) g view task

-- there is a piece for the task of a stage
abbrev pub MayComeTo : Migrating → MigratingStage → Type 0
MayComeTo m (Judging page) = IsMappedPage m.geometry.now page
MayComeTo m (Planning index page) = IsMappedPage m.geometry.now page
MayComeTo m Batching = m.pieces ≢ []
MayComeTo m (Moving index page count) = ⊥
MayComeTo m stage = Unit {0}

-- the migrator has given no task yet
pub record IsNewMigrating (m : Migrating) : Type 0 where
  pub start : m.stage ≡ New
  pub first : m.resumed.number ≡ 0
  pub kept : IsMigratorKept m
  pub aborts : migrator_kept m ≡ nothing_kept m.geometry.now
