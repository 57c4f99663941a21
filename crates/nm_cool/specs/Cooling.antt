-- A candidate is cooled, as a pattern over finished lists, the last step first; when that may begin, and what it leaves.
use Rattle.std.specs.Prelude.{◌≡◌, ◌≢◌, ℕ, List, []}
use Rattle.nm_base.specs.Geometry.{Geometry}
use Rattle.nm_base.specs.Ranges.{IsPage}
use Rattle.nm_action.specs.declared.action.Action.TheVariants.{Lock, Unlock, Mark}
use Rattle.nm_action.specs.declared.action.Reply.{Reply}
use Rattle.nm_action.specs.declared.action.Reply.TheVariants.{Done}
use Rattle.nm_action.specs.Own.{Own}
use Rattle.nm_view.specs.Views.{View}
use Rattle.nm_permit.specs.Permitted.{MayLock}
use Rattle.nm_event.specs.After.{spoiled}
use Rattle.nm_part.specs.Patterns.{Ends, Follows}
use Rattle.nm_compose.specs.Acts.{IsAct}
use Rattle.nm_vpages.specs.VPages.{vpages_of}
use Rattle.nm_mappings.specs.Visits.{IsVisits, arms_made}
use Rattle.nm_looks.specs.Seeing.{IsLooks}
use Rattle.nm_looks.specs.Parts.{page_looks}
use Rattle.nm_cool.specs.declared.cool.Cooled.{Cooled}
use Rattle.nm_cool.specs.declared.cool.Cooled.TheVariants.{Busy, Cold}

-- a geometry and a page
abbrev pub CoolData : Type 0
CoolData = Geometry × ℕ

-- 5. The page is unlocked.
abbrev pub UnlocksCold : CoolData → Geometry → Own → Cooled → Type 0
UnlocksCold made g = Follows (IsAct (Unlock made.1) g) (λ unlocked. Ends Cold)

-- 4. It is no candidate any more.
abbrev pub MarksCold : CoolData → Geometry → Own → Cooled → Type 0
MarksCold made g = Follows (IsAct (Mark made.1 1 0) g) (λ marked. UnlocksCold made g)

-- 3. Each virtual page whose word maps a frame outside tier 0 is armed.
abbrev pub ArmsCold : CoolData → Geometry → List ℕ → Own → Cooled → Type 0
ArmsCold made g outside = Follows (IsVisits (arms_made made.1 outside) g) (λ armed. MarksCold made g)

-- 2. Each virtual page of the page is looked at.
abbrev pub LooksCold : CoolData → Geometry → Own → Cooled → Type 0
LooksCold made g = Follows (IsLooks (page_looks made.0 made.1 0) g) (λ seen. ArmsCold made g seen.outside)

-- 1. The page is locked; where that is Busy, this is the end.
abbrev pub AfterColdLock : CoolData → Geometry → Reply → Own → Cooled → Type 0
AfterColdLock made g Done = LooksCold made g
AfterColdLock made g _ = Ends Busy

abbrev pub IsCooling : CoolData → Geometry → Own → Cooled → Type 0
IsCooling made g = Follows (IsAct (Lock made.1) g) (AfterColdLock made g)

-- it may begin: the geometry is its own, the page is there, has a virtual page, and may be locked
pub record MayCool (made : CoolData) (g : Geometry) (view : View) : Type 0 where
  pub same : made.0 ≡ g
  pub page : IsPage g made.1
  pub some : vpages_of made.0 made.1 ≢ []
  pub lock : MayLock view made.1

-- it leaves no operation, and of the view nothing has changed but that frames that held a copy of the page are known to hold
-- it no more
abbrev pub IsCooledLeft : CoolData → View → Cooled → View → Type 0
IsCooledLeft made view Busy left = left ≡ view
IsCooledLeft made view Cold left = left ≡ record view { owned = spoiled made.1 view.owned }
