-- The task of both faults.
use Rattle.std.specs.Prelude.{◌≡◌, ℕ, Option, Some, None, []}
use Rattle.nm_base.specs.Geometry.{Geometry, backing_page}
use Rattle.nm_action.specs.declared.action.Action.{Action}
use Rattle.nm_action.specs.Own.{Own}
use Rattle.nm_view.specs.Views.{View}
use Rattle.nm_compose.specs.declared.or.Or.{Or}
use Rattle.nm_compose.specs.declared.or.Or.TheVariants.{This, Other}
use Rattle.nm_obtain.specs.FreedCounts.{HasCounted}
use Rattle.nm_shadow_fault.specs.declared.fault.FaultEnd.{FaultEnd}
use Rattle.nm_shadow_fault.specs.declared.fault.FaultMade.{FaultMade}
use Rattle.nm_shadow_fault.specs.ShadowFault.{IsShadowFault}
use Rattle.nm_shadow_fault.specs.Granting.{FaultsMade}
use Rattle.nm_missing_fault.specs.MissingFault.{IsMissingFault}
use Rattle.nm_fault.specs.declared.task.FaultTask.{FaultTask}
use Rattle.nm_fault.specs.Waits.{last_event}

-- the page of a virtual page; 0 where it is not mapped, and no fault may begin
abbrev pub page_or : Option ℕ → ℕ
page_or None = 0
page_or (Some page) = page

-- what a fault on a virtual page is made with
abbrev pub fault_at : Geometry → ℕ → FaultMade
fault_at g v = record { vpage = v; page = page_or (backing_page g v) }

-- what a task was begun with: a missing fault, or one on a page that is read-only for its shadow
abbrev pub FaultBegun : Type 0
FaultBegun = Or FaultsMade FaultsMade

abbrev pub fault_in : FaultBegun → FaultsMade
fault_in (This made) = made
fault_in (Other made) = made

-- a finished list of the fault, and the end that it shows
abbrev pub IsFault : FaultBegun → Geometry → Own → FaultEnd → Type 0
IsFault (This made) = IsMissingFault made.1
IsFault (Other made) = IsShadowFault made.1

abbrev pub either_end : Or FaultEnd FaultEnd → FaultEnd
either_end (This end) = end
either_end (Other end) = end

-- What the fault inside tells of itself stands in for `is_new` and `awaits`; `page` is that of the fault.

-- it has given no action
pub record IsNewFault (is_new : Type 0) (page : ℕ) (t : FaultTask) : Type 0 where
  pub new : is_new
  pub before : t.before ≡ None
  pub page_is : t.freed.page ≡ page
  pub counted : HasCounted t.freed []

-- it awaits the answer to this action
pub record IsFaultAwaited (awaits : Geometry → View → Own → Action → Type 0) (page : ℕ) (t : FaultTask) (g : Geometry) (view : View) (own : Own) (action : Action) : Type 0 where
  pub awaited : awaits g view own action
  pub given : t.given ≡ action
  pub before : t.before ≡ last_event own
  pub page_is : t.freed.page ≡ page
  pub counted : HasCounted t.freed own

-- it is over
pub record IsFaultEnded (page : ℕ) (t : FaultTask) (own : Own) : Type 0 where
  pub page_is : t.freed.page ≡ page
  pub counted : HasCounted t.freed own
