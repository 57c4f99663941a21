-- How far an inspection has come.
use Rattle.std.specs.Prelude.{◌≡◌, ◌≢◌, ℕ, List, []}
use Rattle.nm_base.specs.Geometry.{Geometry}
use Rattle.nm_action.specs.Own.{Own}
use Rattle.nm_view.specs.Views.{View}
use Rattle.nm_part.specs.Patterns.{Ends}
use Rattle.nm_compose.specs.Choices.{or_made, IsNewOr, MayBeginOr, IsOr, LeavesOr}
use Rattle.nm_compose.specs.Stages.{Stages}
use Rattle.nm_compose.specs.declared.or.Or.{Or}
use Rattle.nm_compose.specs.declared.or.Or.TheVariants.{This, Other}
use Rattle.nm_vpages.specs.VPages.{vpages_of}
use Rattle.nm_looks.specs.declared.seen.Seen.{Seen}
use Rattle.nm_looks.specs.Seeing.{LooksData, nothing_seen, IsLooks, MayLooks, HasLooked}
use Rattle.nm_looks.specs.Softening.{IsSoftens, MaySoften}
use Rattle.nm_looks.specs.declared.run.LooksRun.{LooksRun}
use Rattle.nm_looks.specs.declared.run.SoftensRun.{SoftensRun}
use Rattle.nm_looks.specs.Parts.{page_looks, looks_run_made, IsNewLooksRun, softens_run_made, IsNewSoftensRun}
use Rattle.nm_inspect.specs.declared.inspect.Inspect.{Inspect}
use Rattle.nm_inspect.specs.declared.inspect.InspectStage.{InspectStage}
use Rattle.nm_inspect.specs.declared.inspect.InspectStage.TheVariants.{New, Looking, Softening}
use Rattle.nm_inspect.specs.declared.inspect.Inspected.{Inspected}
use Rattle.nm_inspect.specs.declared.inspect.Inspected.TheVariants.{InUse}
use Rattle.nm_inspect.specs.Inspecting.{InspectData, AfterInspectLooks, MayInspect}

abbrev pub inspect_data : Inspect → InspectData
inspect_data plan = record { 0 = plan.geometry.now; 1 = plan.made }

-- it has not begun, and the page has a virtual page
pub record IsNewInspect (plan : Inspect) : Type 0 where
  pub start : plan.stage ≡ New
  pub some : vpages_of plan.geometry.now plan.made.page ≡ [] → ⊥

-- The pieces.

abbrev pub InspectPieceMade : Type 0
InspectPieceMade = Or LooksData (List ℕ)

abbrev pub InspectPieceEnd : Type 0
InspectPieceEnd = Or Seen (Unit {0})

abbrev pub MayInspectPiece : InspectPieceMade → Geometry → View → Type 0
MayInspectPiece = MayBeginOr MayLooks MaySoften

abbrev pub IsInspectPiece : InspectPieceMade → Geometry → Own → InspectPieceEnd → Type 0
IsInspectPiece = IsOr IsLooks IsSoftens

abbrev pub InspectPieceLeaves : InspectPieceMade → Geometry → View → InspectPieceEnd → View → Type 0
InspectPieceLeaves = LeavesOr (λ made g view seen left. HasLooked made view seen left) (λ pages g view end left. left ≡ view)

abbrev pub InspectPiece : Type 0
InspectPiece = Or LooksRun SoftensRun

abbrev pub inspect_piece_made : InspectPiece → InspectPieceMade
inspect_piece_made = or_made looks_run_made softens_run_made

abbrev pub IsNewInspectPiece : InspectPiece → Type 0
IsNewInspectPiece = IsNewOr IsNewLooksRun IsNewSoftensRun

-- what Looks saw (of Softens nothing is claimed by this)
abbrev pub seen_in : InspectPieceEnd → Seen
seen_in (This seen) = seen
seen_in (Other end) = nothing_seen

-- the piece of a stage
abbrev pub inspect_piece : InspectData → InspectStage → InspectPieceMade
inspect_piece made New = This (page_looks made.0 made.1.page made.1.tier)
inspect_piece made Looking = This (page_looks made.0 made.1.page made.1.tier)
inspect_piece made (Softening pages) = Other pages

-- there is something to look at, or to soften
abbrev pub MayGoInspect : InspectData → InspectStage → Type 0
MayGoInspect made New = vpages_of made.0 made.1.page ≢ []
MayGoInspect made Looking = vpages_of made.0 made.1.page ≢ []
MayGoInspect made (Softening pages) = pages ≢ []

-- what is left after the piece of a stage, by how it ends
abbrev pub inspect_left : InspectData → InspectStage → Geometry → InspectPieceEnd → Own → Inspected → Type 0
inspect_left made New g end own outcome = ⊥
inspect_left made Looking g end own outcome = AfterInspectLooks g (seen_in end) own outcome
inspect_left made (Softening pages) g end own outcome = Ends InUse own outcome

-- what is known: the view is the first one
pub record IsInspecting (made : InspectData) (g : Geometry) (view now : View) : Type 0 where
  pub may : MayInspect made g view
  pub is : now ≡ view

abbrev pub KnownInInspect : InspectData → InspectStage → Geometry → View → View → Type 0
KnownInInspect made New g view now = ⊥
KnownInInspect made Looking g view now = IsInspecting made g view now
KnownInInspect made (Softening pages) g view now = IsInspecting made g view now

abbrev pub inspect_stages : Stages InspectData InspectStage InspectPieceMade InspectPieceEnd Inspected
inspect_stages = record { piece = inspect_piece; left = inspect_left; known = KnownInInspect }
