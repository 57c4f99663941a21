-- The steps of a fault, by those of its task.
use Rattle.std.proofs.Common.{◌≡◌, ℕ, List, [], map, Some, refl, sym, ap, ◌∙◌, subst}
use Rattle.std.specs.Prelude.{Option}
use Rattle.nm_base.specs.Geometry.{Geometry, backing_page}
use Rattle.nm_base.specs.Ranges.{IsPage}
use Rattle.nm_action.specs.declared.action.Action.{Action}
use Rattle.nm_action.specs.declared.action.Reply.{Reply}
use Rattle.nm_action.specs.declared.turn.Step.{Step}
use Rattle.nm_action.specs.declared.turn.Step.TheVariants.{Do, Over}
use Rattle.nm_action.specs.Own.{Own}
use Rattle.nm_view.specs.declared.view.Owned.{Owned}
use Rattle.nm_view.specs.Views.{View}
use Rattle.nm_event.specs.After.{filled}
use Rattle.nm_part.specs.Parts.{HasBegin, IsHeard, IsAsked, IsPartStep}
use Rattle.nm_shadow_fault.specs.Granting.{FaultsMade, fault_made, MayFault, IsFaulted}
use Rattle.nm_fault.specs.Tasks.{page_or, fault_at}
use Rattle.nm_access.specs.Faults.{HasNothingOpen, MayFaultOn}
use Rattle.nm_cpu_fault.specs.ProcessorFaults.{MayFaultFree, IsLeftFree, AwaitsFree}

-- the page of a virtual page that is mapped
mapped-page : (page : ℕ) (found : Option ℕ) → found ≡ Some page → page_or found ≡ page
mapped-page page found is = ap page_or is

-- a fault on a virtual page may begin
pub may-fault : (g : Geometry) (v : ℕ) (view : View) → MayFaultOn g v view → MayFaultFree (fault_made g (fault_at g v)) g view
may-fault g v view may =
    let same : page_or (backing_page g v) ≡ may.page = mapped-page may.page (backing_page g v) may.mapped in
    record {
      may = record {
        same = refl;
        geometry = may.geometry;
        vpage = may.vpage;
        mapped = may.mapped ∙ ap Some (sym same);
        page = subst (λ p. IsPage g p) (sym same) may.exists;
        ops = may.free.ops;
        turn = may.free.turn;
      };
      owned = may.free.owned;
    }

-- what a fault leaves has nothing open, where the view that it began in had
pub left-free : (view left : View) → IsFaulted view left → HasNothingOpen view → IsLeftFree view left
left-free view left faulted free = record {
  faulted = faulted;
  free = record { ops = ap (λ (v : View). v.ops) faulted.is ∙ free.ops; owned = faulted.owned.is ∙ ap (λ (l : List Owned). map (λ w. filled (faulted.owned.change w.fill) w) l) free.owned; turn = ap (λ (v : View). v.turn) faulted.is ∙ free.turn };
}

-- the task may begin
pub begin-task : (made : FaultsMade) → HasBegin (λ g view. MayFaultFree made g view) → HasBegin (λ g view. MayFault made g view)
begin-task made h = record { geometry = h.geometry; view = h.view; allowed = h.allowed.may }

-- the first action
pub first-free : {O : Type 0} (awaits : Geometry → View → Own → Action → Type 0) (shape : Geometry → Own → O → Type 0) (made : FaultsMade) (g : Geometry) (view : View) (action : Action)
    → MayFaultFree made g view → IsAsked awaits shape g view [] action → IsAsked (AwaitsFree awaits) shape g view [] action
first-free awaits shape made g view action may h = record {
  quiet = h.quiet;
  permitted = h.permitted;
  awaited = record { awaited = h.awaited; free = record { ops = may.may.ops; owned = may.owned; turn = may.may.turn } };
  begun = h.begun;
}

-- what is heard answers the task
pub heard-task : (awaits : Geometry → View → Own → Action → Type 0) (reply : Reply) → IsHeard (AwaitsFree awaits) reply → IsHeard awaits reply
heard-task awaits reply h = record { geometry = h.geometry; view = h.view; own = h.own; action = h.action; awaited = h.awaited.awaited; fits = h.fits }

-- the next step
pub step-free : {O : Type 0} (awaits : Geometry → View → Own → Action → Type 0) (shape : Geometry → Own → O → Type 0) (ended : Geometry → Own → O → Type 0) (g : Geometry) (view : View) (own : Own) (step : Step O)
    → HasNothingOpen view → IsPartStep awaits shape (λ g view (end : O) left. IsFaulted view left) ended g view own step
    → IsPartStep (AwaitsFree awaits) shape (λ g view (end : O) left. IsLeftFree view left) ended g view own step
step-free awaits shape ended g view own (Do action) free h = record {
  quiet = h.quiet;
  permitted = h.permitted;
  awaited = record { awaited = h.awaited; free = free };
  begun = h.begun;
}
step-free awaits shape ended g view own (Over end) free h = record { shown = h.shown; left = left-free view _ h.left free; over = h.over }
