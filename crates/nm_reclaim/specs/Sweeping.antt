-- How far a sweep has come.
use Rattle.std.specs.Prelude.{◌≡◌, ◌≢◌, ℕ, ◌+◌, ◌≤◌, ◌&&◌, nat_lt, if◌then◌else◌, true, false, List, [], ◌∷◌, ◌++◌, Option, Some, None}
use Rattle.nm_base.specs.Geometry.{Geometry, page_count}
use Rattle.nm_base.specs.Ranges.{IsPage, IsFrame}
use Rattle.nm_base.specs.HomeWord.{home_word}
use Rattle.nm_base.specs.ShadowWord.{shadow_frame}
use Rattle.nm_action.specs.declared.action.Action.{Action}
use Rattle.nm_action.specs.declared.action.Action.TheVariants.{Lock, Unlock, Read, SetShadow}
use Rattle.nm_action.specs.declared.action.Cell.TheVariants.{Home, Shadow}
use Rattle.nm_action.specs.declared.action.Reply.{Reply}
use Rattle.nm_action.specs.declared.action.Reply.TheVariants as replies
use Rattle.nm_action.specs.Own.{Own}
use Rattle.nm_view.specs.declared.view.Phase.TheVariants.{Held}
use Rattle.nm_view.specs.declared.view.Fill.{Fill}
use Rattle.nm_view.specs.declared.view.Owned.{Owned}
use Rattle.nm_view.specs.Lists.{find}
use Rattle.nm_view.specs.Views.{Op, View}
use Rattle.nm_view.specs.Operations.{owned_frame}
use Rattle.nm_compose.specs.declared.act.Act.{Act}
use Rattle.nm_compose.specs.declared.or.Or.{Or}
use Rattle.nm_compose.specs.declared.or.Or.TheVariants.{This, Other}
use Rattle.nm_compose.specs.declared.plan.Next.{Next}
use Rattle.nm_compose.specs.declared.plan.Next.TheVariants.{Run, Over}
use Rattle.nm_compose.specs.Acts.{MayAct, IsAct, IsActed}
use Rattle.nm_compose.specs.Choices.{or_made, IsNewOr, MayBeginOr, IsOr, LeavesOr}
use Rattle.nm_compose.specs.Stages.{Stages}
use Rattle.nm_pool.specs.declared.job.PoolEnd.{PoolEnd}
use Rattle.nm_pool.specs.declared.job.PoolJob.TheVariants.{Back}
use Rattle.nm_pool.specs.declared.job.PoolMade.{PoolMade}
use Rattle.nm_pool.specs.declared.task.PoolTask.{PoolTask}
use Rattle.nm_pool.specs.Pool.{IsPool}
use Rattle.nm_pool.specs.Given.{pool_made}
use Rattle.nm_pool.specs.Given as given
use Rattle.nm_pool.specs.Stages.{made_of, IsNewPool}
use Rattle.nm_reclaim.specs.declared.sweep.Place.{Place}
use Rattle.nm_reclaim.specs.declared.sweep.ReclaimMade.{ReclaimMade}
use Rattle.nm_reclaim.specs.declared.sweep.Stage.{Stage}
use Rattle.nm_reclaim.specs.declared.sweep.Stage.TheVariants.{New, Locking, ReadingHome, ReadingShadow, Discarding, Freeing, PuttingBack, Unlocking}
use Rattle.nm_reclaim.specs.declared.sweep.Sweep.{Sweep}
use Rattle.nm_reclaim.specs.declared.sweep.SweepMade.{SweepMade}
use Rattle.nm_reclaim.specs.Reclaims.{is_skipped, pages_from, most_freed, word_in, PutsBack, LeavesPage, VisitAfterShadow, VisitAfterHome, VisitAfterLock, VisitsAll}
use Rattle.nm_reclaim.specs.Swept.{MayReclaim, IsForgotten, IsSwept}

-- Pieces: a single action, or a frame put back.

abbrev pub SweepPieceMade : Type 0
SweepPieceMade = Or Action PoolMade

abbrev pub SweepPieceEnd : Type 0
SweepPieceEnd = Or Reply PoolEnd

abbrev pub act_made : Act → Action
act_made a = a.action

abbrev pub sweep_piece_made : Or Act PoolTask → SweepPieceMade
sweep_piece_made piece = or_made act_made made_of piece

abbrev pub IsNewSweepPiece : Or Act PoolTask → Type 0
IsNewSweepPiece piece = IsNewOr (λ (a : Act). Unit {0}) IsNewPool piece

abbrev pub MaySweepPiece : SweepPieceMade → Geometry → View → Type 0
MaySweepPiece = MayBeginOr (λ action g view. MayAct g view action) given.MayBegin

abbrev pub IsSweepPiece : SweepPieceMade → Geometry → Own → SweepPieceEnd → Type 0
IsSweepPiece = IsOr IsAct (λ (made : PoolMade) g own end. IsPool g made.job own end)

abbrev pub LeavesSweepPiece : SweepPieceMade → Geometry → View → SweepPieceEnd → View → Type 0
LeavesSweepPiece = LeavesOr (λ action g view reply left. IsActed g view action reply left) (λ (made : PoolMade) g view end left. given.Leaves g made.job view end left)

-- What a sweep is made with.

abbrev pub SweptMade : Type 0
SweptMade = Geometry × SweepMade

abbrev pub sweep_made : Geometry → SweepMade → SweptMade
sweep_made g made = (g, made)

-- a page is visited: it is there, and not skipped; and not enough are freed before
pub record IsPageVisited (g : Geometry) (asked : ReclaimMade) (page freed : ℕ) : Type 0 where
  pub exists : IsPage g page
  pub other : is_skipped asked.skip page ≡ false
  pub few : nat_lt freed (most_freed asked) ≡ true

-- it may begin: as Reclaim may, and its first page is visited
pub record MaySweep (made : SweptMade) (g : Geometry) (view : View) : Type 0 where
  pub same : made.0 ≡ g
  pub may : MayReclaim made.1.asked g view
  pub visits : IsPageVisited g made.1.asked made.1.first 0

abbrev pub IsSweep : SweptMade → Geometry → Own → ℕ → Type 0
IsSweep made g = VisitsAll g made.1.asked (pages_from g made.1.asked.skip made.1.first) 0

abbrev pub SweepLeaves : SweptMade → Geometry → View → ℕ → View → Type 0
SweepLeaves made g view freed left = IsSwept made.1.asked.skip view left

-- Stages.

abbrev pub new_place : SweepMade → Place
new_place made = record { page = made.first; freed = 0; stage = New }

-- the frame that a stage puts back is there
abbrev pub HasFrame : Geometry → Stage → Type 0
HasFrame g (PuttingBack shadow) = IsFrame g shadow
HasFrame g _ = Unit {0}

-- the action of a stage
abbrev pub sweep_action : ℕ → Stage → Action
sweep_action page New = Lock page
sweep_action page Locking = Lock page
sweep_action page ReadingHome = Read page (Home page)
sweep_action page (ReadingShadow master) = Read page (Shadow master)
sweep_action page (Discarding master shadow) = SetShadow page master None
sweep_action page (Freeing shadow) = Unlock page
sweep_action page (PuttingBack shadow) = Unlock page
sweep_action page Unlocking = Unlock page

abbrev pub sweep_piece_of : Geometry → ℕ → Stage → SweepPieceMade
sweep_piece_of g page (PuttingBack shadow) = Other (pool_made g (Back shadow))
sweep_piece_of g page stage = This (sweep_action page stage)

abbrev pub sweep_piece_at : Geometry → Place → SweepPieceMade
sweep_piece_at g place = sweep_piece_of g place.page place.stage

-- the reply that an action ended with
abbrev pub reply_of_piece : SweepPieceEnd → Reply
reply_of_piece (This reply) = reply
reply_of_piece (Other end) = replies.Done

-- the visits from this page on
abbrev pub VisitsFrom : Geometry → ReclaimMade → ℕ → ℕ → Own → ℕ → Type 0
VisitsFrom g asked page freed = VisitsAll g asked (pages_from g asked.skip page) freed

-- what is left after the piece of a stage, by how that ends
abbrev pub sweep_left_by : ReclaimMade → ℕ → ℕ → Stage → Geometry → SweepPieceEnd → Own → ℕ → Type 0
sweep_left_by asked page freed New g end = VisitsFrom g asked page freed
sweep_left_by asked page freed Locking g end = VisitAfterLock g asked page (reply_of_piece end) freed (λ next. VisitsFrom g asked (page + 1) next)
sweep_left_by asked page freed ReadingHome g end = VisitAfterHome g asked page (word_in (reply_of_piece end)) freed (λ next. VisitsFrom g asked (page + 1) next)
sweep_left_by asked page freed (ReadingShadow master) g end = VisitAfterShadow g asked page master (word_in (reply_of_piece end)) freed (λ next. VisitsFrom g asked (page + 1) next)
sweep_left_by asked page freed (Discarding master shadow) g end = LeavesPage g page freed (λ next. PutsBack g shadow next (λ all. VisitsFrom g asked (page + 1) all))
sweep_left_by asked page freed (Freeing shadow) g end = PutsBack g shadow freed (λ next. VisitsFrom g asked (page + 1) next)
sweep_left_by asked page freed (PuttingBack shadow) g end = VisitsFrom g asked (page + 1) (freed + 1)
sweep_left_by asked page freed Unlocking g end = VisitsFrom g asked (page + 1) freed

abbrev pub sweep_left : SweptMade → Place → Geometry → SweepPieceEnd → Own → ℕ → Type 0
sweep_left made place g end = sweep_left_by made.1.asked place.page place.freed place.stage g end

-- What is known at a stage.

-- a page is visited, in a sweep that began in the view `first`, and all of the view but what is named is as it was
pub record IsAtPage (made : SweptMade) (page freed : ℕ) (g : Geometry) (first : View) : Type 0 where
  pub may : MaySweep made g first
  pub exists : IsPage g page
  pub other : is_skipped made.1.asked.skip page ≡ false
  pub count : freed ≤ page

-- the page is not locked
pub record IsBetween (made : SweptMade) (page freed : ℕ) (g : Geometry) (first now : View) : Type 0 where
  pub at : IsAtPage made page freed g first
  pub few : nat_lt freed (most_freed made.1.asked) ≡ true
  pub swept : IsSwept made.1.asked.skip first now

-- the page is locked, by this operation: nothing is taken out of the table, and no flush is owed
pub record HasPageLocked (made : SweptMade) (page freed : ℕ) (g : Geometry) (first now : View) (o : Op) : Type 0 where
  pub at : IsAtPage made page freed g first
  pub of : o.page ≡ page
  pub held : o.phase ≡ Held
  pub taken : o.taken ≡ []
  pub due : o.due ≡ false
  pub flush : o.flush ≡ None
  pub ops : now.ops ≡ first.ops ++ o ∷ []
  pub rest : now ≡ record first { ops = now.ops; owned = now.owned; scan = now.scan }

-- the page is locked, and the frames are those that were owned at first
pub record IsLocked (made : SweptMade) (page freed : ℕ) (g : Geometry) (first now : View) : Type 0 where
  pub op : Op
  pub locked : HasPageLocked made page freed g first now op
  pub owned : IsForgotten made.1.asked.skip first.owned now.owned

-- nothing is known of the page
pub record IsSweepReadingHome (made : SweptMade) (page freed : ℕ) (g : Geometry) (first now : View) : Type 0 where
  pub op : Op
  pub locked : HasPageLocked made page freed g first now op
  pub owned : IsForgotten made.1.asked.skip first.owned now.owned
  pub home : op.home ≡ None
  pub shadow : op.shadow ≡ None

-- its home is known
pub record IsReadingShadow (made : SweptMade) (page freed master : ℕ) (g : Geometry) (first now : View) : Type 0 where
  pub op : Op
  pub locked : HasPageLocked made page freed g first now op
  pub owned : IsForgotten made.1.asked.skip first.owned now.owned
  pub frame : IsFrame g master
  pub home : op.home ≡ Some (home_word master)
  pub shadow : op.shadow ≡ None

-- so is its shadow, which is not owned yet
pub record IsDiscarding (made : SweptMade) (page freed master shadow : ℕ) (g : Geometry) (first now : View) : Type 0 where
  pub op : Op
  pub locked : HasPageLocked made page freed g first now op
  pub owned : IsForgotten made.1.asked.skip first.owned now.owned
  pub word : ℕ
  pub frame : IsFrame g master
  pub home : op.home ≡ Some (home_word master)
  pub known : op.shadow ≡ Some word
  pub some : word ≢ 0
  pub is : shadow_frame word ≡ shadow
  pub exists : IsFrame g shadow
  pub fresh : find owned_frame shadow now.owned ≡ None

-- the shadow is owned beside the frames that were owned at first
pub record HasShadow (skip : Option ℕ) (shadow : ℕ) (g : Geometry) (first now : List Owned) : Type 0 where
  pub before : List Owned
  pub fill : Fill
  pub owned : IsForgotten skip first before
  pub exists : IsFrame g shadow
  pub fresh : find owned_frame shadow before ≡ None
  pub is : now ≡ before ++ record { frame = shadow; fill = fill } ∷ []

pub record IsFreeing (made : SweptMade) (page freed shadow : ℕ) (g : Geometry) (first now : View) : Type 0 where
  pub op : Op
  pub locked : HasPageLocked made page freed g first now op
  pub owned : HasShadow made.1.asked.skip shadow g first.owned now.owned

pub record IsSweepPuttingBack (made : SweptMade) (page freed shadow : ℕ) (g : Geometry) (first now : View) : Type 0 where
  pub at : IsAtPage made page freed g first
  pub owned : HasShadow made.1.asked.skip shadow g first.owned now.owned
  pub rest : now ≡ record first { owned = now.owned; scan = now.scan }

abbrev pub KnownBy : SweptMade → ℕ → ℕ → Stage → Geometry → View → View → Type 0
KnownBy made page freed New g first now = ⊥
KnownBy made page freed Locking g first now = IsBetween made page freed g first now
KnownBy made page freed ReadingHome g first now = IsSweepReadingHome made page freed g first now
KnownBy made page freed (ReadingShadow master) g first now = IsReadingShadow made page freed master g first now
KnownBy made page freed (Discarding master shadow) g first now = IsDiscarding made page freed master shadow g first now
KnownBy made page freed (Freeing shadow) g first now = IsFreeing made page freed shadow g first now
KnownBy made page freed (PuttingBack shadow) g first now = IsSweepPuttingBack made page freed shadow g first now
KnownBy made page freed Unlocking g first now = IsLocked made page freed g first now

abbrev pub sweep_stages : Stages SweptMade Place SweepPieceMade SweepPieceEnd ℕ
sweep_stages = record {
  piece = λ made place. sweep_piece_at made.0 place;
  left = sweep_left;
  known = λ made place. KnownBy made place.page place.freed place.stage;
}

-- Steps.

-- the page that is visited next, from this one on
abbrev pub after_skip : Option ℕ → ℕ → ℕ
after_skip skip page = if is_skipped skip page then page + 1 else page

abbrev pub next_visited : Geometry → ReclaimMade → ℕ → ℕ → Option ℕ
next_visited g asked page freed = if nat_lt freed (most_freed asked) && nat_lt (after_skip asked.skip page) (page_count g) then Some (after_skip asked.skip page) else None

-- the next page is visited
pub record IsNextVisited (page freed : ℕ) (old new : Sweep) (piece : Or Act PoolTask) : Type 0 where
  pub next : ℕ
  pub some : next_visited old.geometry.now old.made.asked page freed ≡ Some next
  pub new_is : new ≡ record old { place = record { page = next; freed = freed; stage = Locking } }
  pub made : sweep_piece_made piece ≡ This (Lock next)
  pub fresh : IsNewSweepPiece piece

-- no page is visited any more
pub record IsSweepDone (page freed : ℕ) (old new : Sweep) (outcome : ℕ) : Type 0 where
  pub none : next_visited old.geometry.now old.made.asked page freed ≡ None
  pub new_is : new ≡ record old { place = record old.place { freed = freed } }
  pub is : outcome ≡ freed

abbrev pub IsNextVisit : ℕ → ℕ → Sweep → Sweep → Next (Or Act PoolTask) ℕ → Type 0
IsNextVisit page freed old new (Run piece) = IsNextVisited page freed old new piece
IsNextVisit page freed old new (Over outcome) = IsSweepDone page freed old new outcome
