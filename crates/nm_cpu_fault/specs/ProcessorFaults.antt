-- The faults of a processor, as its accesses see them.
use Rattle.std.specs.Prelude.{◌≡◌, []}
use Rattle.nm_base.specs.Geometry.{Geometry}
use Rattle.nm_action.specs.declared.action.Action.{Action}
use Rattle.nm_action.specs.declared.tally.Tally.{Tally}
use Rattle.nm_action.specs.Own.{Own}
use Rattle.nm_view.specs.Views.{View}
use Rattle.nm_compose.specs.declared.or.Or.TheVariants.{This, Other}
use Rattle.nm_shadow_fault.specs.declared.fault.FaultEnd.{FaultEnd}
use Rattle.nm_shadow_fault.specs.declared.fault.FaultEnd.TheVariants.{Demand, Alias, Ready, Granted}
use Rattle.nm_shadow_fault.specs.Granting.{FaultsMade, fault_made, MayFault, IsFaulted}
use Rattle.nm_fault.specs.Tasks.{FaultBegun, fault_at, IsFault}
use Rattle.nm_fault.specs.Waits.{is_waiting}
use Rattle.nm_access.specs.Faults.{FaultKinds, HasNothingOpen, zero_fault_counts}

-- what the end of a fault counts: a page that was given its first frame, or one that was mapped to the frame that it had
abbrev pub fault_counts : FaultEnd → Tally
fault_counts Demand = record zero_fault_counts { demand = 1 }
fault_counts Alias = record zero_fault_counts { alias = 1 }
fault_counts Ready = zero_fault_counts
fault_counts (Granted shadow) = zero_fault_counts

-- a fault may begin, and no frame is owned
pub record MayFaultFree (made : FaultsMade) (g : Geometry) (view : View) : Type 0 where
  pub may : MayFault made g view
  pub owned : view.owned ≡ []

-- a fault leaves all of the view as it was, but what is known of owned frames, and the scan; nothing is open in it
pub record IsLeftFree (view left : View) : Type 0 where
  pub faulted : IsFaulted view left
  pub free : HasNothingOpen left

-- a fault that awaits an answer began where nothing was open; `awaits` is what the task awaits
pub record AwaitsFree (awaits : Geometry → View → Own → Action → Type 0) (g : Geometry) (view : View) (own : Own) (action : Action) : Type 0 where
  pub awaited : awaits g view own action
  pub free : HasNothingOpen view

-- the faults of a processor: on a virtual page that is not mapped in the table, and on one that is read-only for its shadow
abbrev pub processor_faults : FaultKinds FaultBegun FaultEnd
processor_faults = record {
  shape = IsFault;
  leaves = λ made g view end left. IsLeftFree view left;
  waits = is_waiting;
  missing = λ g v. This (fault_made g (fault_at g v));
  shadowed = λ g v. Other (fault_made g (fault_at g v));
  counts = fault_counts;
}
