-- The pieces of the migrator's work: what they are made with, when they may begin, their finished lists, and what they leave.
use Rattle.std.specs.Prelude.{◌≡◌, ℕ, Bool, List}
use Rattle.nm_base.specs.Geometry.{Geometry}
use Rattle.nm_action.specs.declared.action.Action.{Action}
use Rattle.nm_action.specs.declared.action.Action.TheVariants as action
use Rattle.nm_action.specs.declared.action.Reply.{Reply}
use Rattle.nm_action.specs.declared.spent.Spent.{Spent}
use Rattle.nm_action.specs.Own.{Own}
use Rattle.nm_view.specs.Views.{View}
use Rattle.nm_part.specs.Parts.{NothingTold}
use Rattle.nm_compose.specs.Acts.{MayAct, IsAct, IsActed}
use Rattle.nm_compose.specs.declared.act.Act.{Act}
use Rattle.nm_looks.specs.declared.seen.Seen.{Seen}
use Rattle.nm_looks.specs.Seeing.{LooksData, IsLooks, MayLooks, HasLooked}
use Rattle.nm_compose.specs.Acts.{AwaitsAct}
use Rattle.nm_looks.specs.Parts.{looks_run_made, IsNewLooksRun, AwaitsLooksRun, page_looks}
use Rattle.nm_txn.specs.declared.end.TxnEnd.{TxnEnd}
use Rattle.nm_cool.specs.declared.cool.Cooled.{Cooled}
use Rattle.nm_cool.specs.Cooling.{CoolData, IsCooling, MayCool, IsCooledLeft}
use Rattle.nm_cool.specs.Runs.{cool_run_made, IsNewCoolRun, AwaitsCoolRun}
use Rattle.nm_locked.specs.declared.locked.LockedOver.{LockedOver}
use Rattle.nm_ended.specs.Asking.{IsAsking}
use Rattle.nm_ended.specs.Runs.{ask_run_made, MayAskRun, IsNewAskRun, AwaitsAskRun}
use Rattle.nm_migrator_parts.specs.Wrapped.{BatchData, MoveData, batch_work_made, IsNewBatchWork, MayBatchWork, IsBatchWork, BatchWorkLeaves, move_work_made, IsNewMoveWork, MayMoveWork, IsMoveWork, MoveWorkLeaves, AwaitsBatchWork, AwaitsMoveWork}
use Rattle.nm_drawing.specs.declared.drawing.Drawn.{Drawn}
use Rattle.nm_migrator_work.specs.declared.piece.MigratorPiece.{MigratorPiece}
use Rattle.nm_migrator_work.specs.declared.work.MigratorWork.{MigratorWork}
use Rattle.nm_migrator_work.specs.declared.work.MigratorWork.TheVariants as works
use Rattle.nm_migrator_work.specs.Kinds.{made_by, IsNewBy, MayBy, IsListBy, LeavesBy, AwaitsBy, EndedBy}

-- What they are made with; those that draw, also with what was drawn before.

abbrev pub MigratorWorkMade : Type 0
MigratorWorkMade = MigratorWork Action LooksData CoolData BatchData MoveData ℕ

abbrev pub migrator_work_made : MigratorPiece → MigratorWorkMade
migrator_work_made p = made_by (λ (a : Act). a.action) looks_run_made cool_run_made batch_work_made move_work_made ask_run_made p.work

-- they have given no action
abbrev pub IsNewMigratorWork : MigratorPiece → Type 0
IsNewMigratorWork p = IsNewBy (λ a. Unit {0}) IsNewLooksRun IsNewCoolRun IsNewBatchWork IsNewMoveWork IsNewAskRun p.work

-- the Mark of a page
abbrev pub made_mark : ℕ → ℕ → ℕ → MigratorWorkMade
made_mark page from to = works.Mark (action.Mark page from to)

-- the Looks at the virtual pages of a page, which ask for tier 0
abbrev pub made_looks : Geometry → ℕ → MigratorWorkMade
made_looks g page = works.Looks (page_looks g page 0)

-- the cooling of a page
abbrev pub made_cool : Geometry → ℕ → MigratorWorkMade
made_cool g page = works.Cool (record { 0 = g; 1 = page })

-- the batch of these pieces, where so much was drawn
abbrev pub made_batch : Geometry → List (ℕ × ℕ) → Spent → MigratorWorkMade
made_batch g pieces spent = works.Batch (record { 0 = record { 0 = g; 1 = record { pieces = pieces; spent = spent } }; 1 = spent })

-- the locked move of a page of which so many virtual pages are to have words, where so much was drawn
abbrev pub made_move : Geometry → ℕ → ℕ → Spent → MigratorWorkMade
made_move g page count spent = works.Move (record { 0 = record { 0 = g; 1 = record { page = page; count = count; spent = spent } }; 1 = spent })

-- the question to all processors
abbrev pub made_ask : Geometry → MigratorWorkMade
made_ask g = works.Ask g.cpus

-- How they end.

abbrev pub MigratorWorkEnd : Type 0
MigratorWorkEnd = MigratorWork Reply Seen Cooled (Drawn (List TxnEnd)) (Drawn LockedOver) Bool

-- a work may begin
abbrev pub MayMigratorWork : MigratorWorkMade → Geometry → View → Type 0
MayMigratorWork = MayBy (λ action g view. MayAct g view action) MayLooks MayCool MayBatchWork MayMoveWork MayAskRun

-- a finished list of a work, and the end that this shows
abbrev pub IsMigratorWork : MigratorWorkMade → Geometry → Own → MigratorWorkEnd → Type 0
IsMigratorWork = IsListBy IsAct IsLooks IsCooling IsBatchWork IsMoveWork IsAsking

-- what a work leaves
abbrev pub MigratorWorkLeaves : MigratorWorkMade → Geometry → View → MigratorWorkEnd → View → Type 0
MigratorWorkLeaves = LeavesBy (λ action g view reply left. IsActed g view action reply left) (λ made g view seen left. HasLooked made view seen left) (λ made g view end left. IsCooledLeft made view end left)
    BatchWorkLeaves MoveWorkLeaves (λ cpus g view all left. left ≡ view)

-- it awaits the answer to an action
abbrev pub AwaitsMigratorWork : MigratorPiece → Geometry → View → Own → Action → Type 0
AwaitsMigratorWork p = AwaitsBy AwaitsAct AwaitsLooksRun AwaitsCoolRun AwaitsBatchWork AwaitsMoveWork AwaitsAskRun p.work

-- it is over: there is nothing more that it can be asked for
abbrev pub MigratorWorkEnded : MigratorPiece → Geometry → Own → MigratorWorkEnd → Type 0
MigratorWorkEnded p = EndedBy (λ a g own reply. NothingTold g own reply) (λ r g own seen. Unit {0}) (λ r g own end. Unit {0}) (λ w g own end. Unit {0}) (λ w g own end. Unit {0}) (λ r g own all. Unit {0}) p.work
