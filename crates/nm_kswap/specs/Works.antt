-- The pieces of the reclaimer's work: what they are made with, when they may begin, their finished lists, and what they leave.
use Rattle.std.specs.Prelude.{◌≡◌, ℕ, Bool}
use Rattle.nm_base.specs.Geometry.{Geometry}
use Rattle.nm_action.specs.declared.action.Action.{Action}
use Rattle.nm_action.specs.declared.spent.Spent.{Spent}
use Rattle.nm_action.specs.Own.{Own}
use Rattle.nm_view.specs.Views.{View}
use Rattle.nm_part.specs.Parts.{NothingTold}
use Rattle.nm_compose.specs.Choices.{or_made, IsNewOr, MayBeginOr, IsOr, LeavesOr, AwaitsOr, EndedOr}
use Rattle.nm_compose.specs.declared.or.Or.{Or}
use Rattle.nm_compose.specs.declared.or.Or.TheVariants.{This, Other}
use Rattle.nm_ended.specs.Asking.{IsAsking}
use Rattle.nm_ended.specs.Runs.{ask_run_made, MayAskRun, IsNewAskRun, AwaitsAskRun}
use Rattle.nm_pool.specs.Pool.{IsPool}
use Rattle.nm_pool.specs.Given.{pool_made, MayBegin, Leaves}
use Rattle.nm_pool.specs.Stages.{made_of, IsNewPool, AwaitsPool}
use Rattle.nm_pool.specs.declared.job.PoolJob.TheVariants.{Level}
use Rattle.nm_pool.specs.declared.job.PoolMade.{PoolMade}
use Rattle.nm_pool.specs.declared.job.PoolEnd.{PoolEnd}
use Rattle.nm_inspect.specs.declared.inspect.Inspected.{Inspected}
use Rattle.nm_inspect.specs.Inspecting.{InspectData, IsInspection, MayInspect}
use Rattle.nm_inspect.specs.Runs.{inspect_run_made, IsNewInspectRun, AwaitsInspectRun}
use Rattle.nm_demote.specs.declared.select.DemoteMade.{DemoteMade}
use Rattle.nm_demote.specs.declared.demote.DemoteOver.{DemoteOver}
use Rattle.nm_demote.specs.Selections.{MayDemote}
use Rattle.nm_demote.specs.Demotions.{IsDemotion}
use Rattle.nm_demote.specs.Leaving.{IsDemoteLeft}
use Rattle.nm_demote_run.specs.declared.run.DemoteRun.{DemoteRun}
use Rattle.nm_demote_run.specs.Runs.{demote_run_made, IsNewDemoteRun}
use Rattle.nm_drawing.specs.declared.drawing.Drawing.{Drawing}
use Rattle.nm_drawing.specs.declared.drawing.Drawn.{Drawn}
use Rattle.nm_kswap.specs.declared.work.ReclaimerPiece.{ReclaimerPiece}
use Rattle.nm_drawing.specs.Draws.{IsNewDrawing, MayDraw, IsDrawingList, IsDrawnLeft, AwaitsDrawing}

-- The pieces.

-- the demotion of a page, which tells what was drawn at its end
abbrev pub DemotePart : Type 0
DemotePart = Drawing DemoteRun

-- What they are made with; a demotion also with what was drawn before it.

abbrev pub DemoteWorkData : Type 0
DemoteWorkData = (Geometry × DemoteMade) × Spent

abbrev pub ReclaimerWorkMade : Type 0
ReclaimerWorkMade = Or ℕ (Or PoolMade (Or InspectData DemoteWorkData))

abbrev pub demote_part_made : DemotePart → DemoteWorkData
demote_part_made d = record { 0 = demote_run_made d.piece; 1 = d.begun }

abbrev pub reclaimer_work_made : ReclaimerPiece → ReclaimerWorkMade
reclaimer_work_made p = or_made ask_run_made (or_made made_of (or_made inspect_run_made demote_part_made)) p.work

-- they have given no action

abbrev pub IsNewDemotePart : DemotePart → Type 0
IsNewDemotePart d = IsNewDrawing (IsNewDemoteRun d.piece) d.begun d.spent

abbrev pub IsNewReclaimerWork : ReclaimerPiece → Type 0
IsNewReclaimerWork p = IsNewOr IsNewAskRun (IsNewOr IsNewPool (IsNewOr IsNewInspectRun IsNewDemotePart)) p.work

-- all processors are asked, up to the first that has not ended
abbrev pub made_asking : Geometry → ReclaimerWorkMade
made_asking g = This g.cpus

-- the free frames of a tier are counted
abbrev pub made_level : Geometry → ℕ → ReclaimerWorkMade
made_level g tier = Other (This (pool_made g (Level tier)))

-- a page is inspected by the demotion of a tier
abbrev pub made_inspect : Geometry → ℕ → ℕ → ReclaimerWorkMade
made_inspect g page tier = Other (Other (This (record { 0 = g; 1 = record { page = page; tier = tier } })))

-- a page is demoted, where so much was drawn
abbrev pub made_demote : Geometry → ℕ → Spent → ReclaimerWorkMade
made_demote g page spent = Other (Other (Other (record { 0 = record { 0 = g; 1 = record { page = page; spent = spent } }; 1 = spent })))

-- How they end.

abbrev pub ReclaimerWorkEnd : Type 0
ReclaimerWorkEnd = Or Bool (Or PoolEnd (Or Inspected (Drawn DemoteOver)))

-- a piece may begin
abbrev pub MayReclaimerWork : ReclaimerWorkMade → Geometry → View → Type 0
MayReclaimerWork = MayBeginOr MayAskRun (MayBeginOr MayBegin (MayBeginOr MayInspect
    (λ made g view. MayDraw (MayDemote made.0.0 made.0.1 g view) made.1 view)))

-- a finished list of a piece, and the end that this shows
abbrev pub IsReclaimerWork : ReclaimerWorkMade → Geometry → Own → ReclaimerWorkEnd → Type 0
IsReclaimerWork = IsOr IsAsking (IsOr (λ made g own end. IsPool g made.job own end) (IsOr IsInspection
    (λ made g own told. IsDrawingList (λ over. IsDemotion made.0.1 g own over.end) made.1 own told)))

-- what a piece leaves
abbrev pub ReclaimerWorkLeaves : ReclaimerWorkMade → Geometry → View → ReclaimerWorkEnd → View → Type 0
ReclaimerWorkLeaves = LeavesOr (λ cpus g view all left. left ≡ view) (LeavesOr (λ made g view end left. Leaves g made.job view end left) (LeavesOr (λ made g view outcome left. left ≡ view)
    (λ made g view told left. IsDrawnLeft (λ over. IsDemoteLeft made.0.1 view over.end left) left told)))

-- it awaits the answer to an action; what the demotion awaits is given
abbrev pub AwaitsReclaimerWork : (DemoteRun → Geometry → View → Own → Action → Type 0) → ReclaimerPiece → Geometry → View → Own → Action → Type 0
AwaitsReclaimerWork demotes p = AwaitsOr AwaitsAskRun (AwaitsOr AwaitsPool (AwaitsOr AwaitsInspectRun
    (λ d g view own action. AwaitsDrawing (demotes d.piece g view own action) d.action d.begun d.spent g view own action))) p.work

-- it is over: there is nothing more that it can be asked for
abbrev pub ReclaimerWorkEnded : ReclaimerPiece → Geometry → Own → ReclaimerWorkEnd → Type 0
ReclaimerWorkEnded p = EndedOr (λ r g own all. Unit {0}) (EndedOr (λ task g own end. NothingTold g own end) (EndedOr (λ r g own found. Unit {0}) (λ d g own told. Unit {0}))) p.work
