-- How far the decision of a transaction has come.
use Rattle.std.specs.Prelude.{◌≡◌, ℕ, if◌then◌else◌, true, false, List, Some}
use Rattle.nm_base.specs.Geometry.{Geometry}
use Rattle.nm_base.specs.Ranges.{IsFrame}
use Rattle.nm_base.specs.PageWord.{is_dirty}
use Rattle.nm_action.specs.declared.action.Action.{Action}
use Rattle.nm_action.specs.declared.action.Action.TheVariants.{Unlock, Map, SetHome, SetShadow, Mark, Read}
use Rattle.nm_action.specs.declared.action.Cell.TheVariants as cells
use Rattle.nm_action.specs.declared.action.Reply.{Reply}
use Rattle.nm_action.specs.Own.{Own}
use Rattle.nm_view.specs.declared.view.Fill.TheVariants.{Equal}
use Rattle.nm_view.specs.declared.view.Owned.{Owned}
use Rattle.nm_view.specs.Lists.{edit, erase}
use Rattle.nm_view.specs.Views.{Op, View}
use Rattle.nm_view.specs.Operations.{page_of, owned_frame}
use Rattle.nm_event.specs.After.{homed_at, shaded, mapped_at, owning, spoiled}
use Rattle.nm_part.specs.Patterns.{Ends}
use Rattle.nm_compose.specs.Acts.{MayAct, IsAct, IsActed}
use Rattle.nm_compose.specs.Choices.{or_made, IsNewOr, MayBeginOr, IsOr, LeavesOr}
use Rattle.nm_compose.specs.declared.act.Act.{Act}
use Rattle.nm_compose.specs.declared.or.Or.{Or}
use Rattle.nm_compose.specs.declared.or.Or.TheVariants.{This, Other}
use Rattle.nm_pool.specs.Pool.{IsPool}
use Rattle.nm_pool.specs.Given.{pool_made, MayBegin, Leaves}
use Rattle.nm_pool.specs.Stages.{made_of, IsNewPool}
use Rattle.nm_pool.specs.declared.job.PoolJob.TheVariants.{Back}
use Rattle.nm_pool.specs.declared.job.PoolMade.{PoolMade}
use Rattle.nm_pool.specs.declared.job.PoolEnd.{PoolEnd}
use Rattle.nm_pool.specs.declared.task.PoolTask.{PoolTask}
use Rattle.nm_commit.specs.declared.decide.DecideMade.{DecideMade}
use Rattle.nm_commit.specs.declared.decide.Decided.{Decided}
use Rattle.nm_commit.specs.declared.decide.Decided.TheVariants.{Committed, Aborted}
use Rattle.nm_commit.specs.declared.decide.DecideStage.{DecideStage}
use Rattle.nm_commit.specs.declared.decide.DecideStage.TheVariants.{Start, MappingBack, UnlockingOld, PuttingBack, SettingHome, Reading, Shading, Mapping, Marking, Unlocking}
use Rattle.nm_commit.specs.Deciding.{moved_word, UnlocksPage, Marks, Maps, Shades, ReadsShadowWord, GivesBack, UnlocksOld, MayDecide}

-- The pieces: an action, or a task on the free frames.

abbrev pub DecideParts : Type 0
DecideParts = Or Action PoolMade

abbrev pub DecideEnd : Type 0
DecideEnd = Or Reply PoolEnd

abbrev pub MayDecidePiece : DecideParts → Geometry → View → Type 0
MayDecidePiece = MayBeginOr (λ action g view. MayAct g view action) MayBegin

abbrev pub IsDecidePiece : DecideParts → Geometry → Own → DecideEnd → Type 0
IsDecidePiece = IsOr IsAct (λ made g own end. IsPool g made.job own end)

abbrev pub DecideLeaves : DecideParts → Geometry → View → DecideEnd → View → Type 0
DecideLeaves = LeavesOr (λ action g view reply left. IsActed g view action reply left) (λ made g view end left. Leaves g made.job view end left)

-- the data of a piece, and that it has given no action
abbrev pub decide_made : Or Act PoolTask → DecideParts
decide_made = or_made (λ a. a.action) made_of

abbrev pub IsNewDecidePiece : Or Act PoolTask → Type 0
IsNewDecidePiece = IsNewOr (λ a. Unit {0}) IsNewPool

-- the piece of a stage
abbrev pub decide_piece : Geometry → DecideMade → DecideStage → DecideParts
decide_piece g made Start = This (Map made.vpage made.word)
decide_piece g made MappingBack = This (Map made.vpage made.word)
decide_piece g made UnlockingOld = This (Unlock made.page)
decide_piece g made PuttingBack = Other (pool_made g (Back made.frame))
decide_piece g made SettingHome = This (SetHome made.page made.frame)
decide_piece g made Reading = This (Read made.page (cells.Shadow made.frame))
decide_piece g made Shading = This (SetShadow made.page made.frame (Some made.home))
decide_piece g made Mapping = This (Map made.vpage (moved_word g made.frame made.word))
decide_piece g made Marking = This (Mark made.page 2 0)
decide_piece g made Unlocking = This (Unlock made.page)

-- the numbers of a stage's piece are in range
abbrev pub MayDecideAt : Geometry → DecideMade → DecideStage → Type 0
MayDecideAt g made PuttingBack = IsFrame g made.frame
MayDecideAt g made Mapping = IsFrame g made.frame
MayDecideAt g made _ = Unit {0}

-- the first stage
abbrev pub first_stage : DecideMade → DecideStage
first_stage made = if is_dirty made.word then MappingBack else SettingHome

-- What is left after the piece of a stage.

abbrev pub NothingDecided : Own → Decided → Type 0
NothingDecided own outcome = ⊥

abbrev pub after_action : (Own → Decided → Type 0) → DecideEnd → Own → Decided → Type 0
after_action after (This reply) = after
after_action after (Other end) = NothingDecided

abbrev pub after_task : (Own → Decided → Type 0) → DecideEnd → Own → Decided → Type 0
after_task after (This reply) = NothingDecided
after_task after (Other end) = after

abbrev pub decide_left : DecideMade → DecideStage → Geometry → DecideEnd → Own → Decided → Type 0
decide_left made Start g = after_action NothingDecided
decide_left made MappingBack g = after_action (UnlocksOld g made)
decide_left made UnlockingOld g = after_action (GivesBack g made)
decide_left made PuttingBack g = after_task (Ends (Aborted made.word))
decide_left made SettingHome g = after_action (ReadsShadowWord g made)
decide_left made Reading g = after_action (Shades g made)
decide_left made Shading g = after_action (Maps g made)
decide_left made Mapping g = after_action (Marks g made)
decide_left made Marking g = after_action (UnlocksPage g made)
decide_left made Unlocking g = after_action (Ends Committed)

-- What is known of the views.

-- the view with the operation on the page page_changed, and these frames owned
abbrev pub page_changed : ℕ → (Op → Op) → List Owned → View → View
page_changed page change owned view = record view { ops = edit page_of page change view.ops; owned = owned }

-- the operation, and the owned frames, while it commits
abbrev pub homed : DecideMade → Op → Op
homed made o = homed_at made.frame o

abbrev pub shadowed : DecideMade → Op → Op
shadowed made o = shaded made.page (Some made.home) (homed_at made.frame o)

abbrev pub remapped : Geometry → DecideMade → Op → Op
remapped g made o = mapped_at made.vpage (moved_word g made.frame made.word) (shaded made.page (Some made.home) (homed_at made.frame o))

abbrev pub frames_left : DecideMade → View → List Owned
frames_left made view = erase owned_frame made.frame view.owned

-- it may go on from the first view, which has changed so
pub record IsAt (made : DecideMade) (g : Geometry) (view now is : View) : Type 0 where
  pub may : MayDecide g made g view
  pub same : now ≡ is

-- what is known at a stage
abbrev pub DecideKnown : DecideMade → DecideStage → Geometry → View → View → Type 0
DecideKnown made Start g view now = ⊥
DecideKnown made MappingBack g view now = IsAt made g view now view × (is_dirty made.word ≡ true)
DecideKnown made UnlockingOld g view now = IsAt made g view now (page_changed made.page (mapped_at made.vpage made.word) (spoiled made.page view.owned) view)
DecideKnown made PuttingBack g view now = IsAt made g view now (record view { ops = erase page_of made.page view.ops; owned = spoiled made.page view.owned })
DecideKnown made SettingHome g view now = IsAt made g view now view × (is_dirty made.word ≡ false)
DecideKnown made Reading g view now = IsAt made g view now (page_changed made.page (homed made) (owning made.home (Equal made.page) (frames_left made view)) view)
DecideKnown made Shading g view now = IsAt made g view now (page_changed made.page (homed made) (owning made.home (Equal made.page) (frames_left made view)) view)
DecideKnown made Mapping g view now = IsAt made g view now (page_changed made.page (shadowed made) (frames_left made view) view)
DecideKnown made Marking g view now = IsAt made g view now (page_changed made.page (remapped g made) (spoiled made.page (frames_left made view)) view)
DecideKnown made Unlocking g view now = IsAt made g view now (page_changed made.page (remapped g made) (spoiled made.page (frames_left made view)) view)
