-- The steps of the task, by those of the fault that runs.
use Rattle.std.proofs.Common.{◌≡◌, ℕ, [], ◌∷◌, ◌++◌, Some, refl, sym, ap, ◌∙◌, subst}
use Rattle.nm_base.specs.Geometry.{Geometry}
use Rattle.nm_action.specs.declared.action.Action.{Action}
use Rattle.nm_action.specs.declared.action.Reply.{Reply}
use Rattle.nm_action.specs.declared.turn.Step.{Step}
use Rattle.nm_action.specs.declared.turn.Step.TheVariants.{Do, Over}
use Rattle.nm_action.specs.Own.{Own}
use Rattle.nm_view.specs.Views.{View}
use Rattle.nm_event.specs.After.{view_after}
use Rattle.nm_part.specs.Parts.{HasBegin, IsHeard, IsAsked, IsEnded, IsPartStep}
use Rattle.nm_compose.specs.declared.or.Or.{Or}
use Rattle.nm_compose.specs.declared.or.Or.TheVariants.{This, Other}
use Rattle.nm_compose.specs.Choices.{MayBeginOr, IsOr, LeavesOr}
use Rattle.nm_obtain.specs.declared.freed.FreedCount.{FreedCount}
use Rattle.nm_obtain.specs.FreedCounts.{HasCounted}
use Rattle.nm_shadow_fault.specs.declared.fault.FaultEnd.{FaultEnd}
use Rattle.nm_shadow_fault.specs.ShadowFault.{IsShadowFault}
use Rattle.nm_shadow_fault.specs.Granting.{FaultsMade, MayFault, IsFaulted}
use Rattle.nm_missing_fault.specs.MissingFault.{IsMissingFault}
use Rattle.nm_fault.specs.declared.task.FaultTask.{FaultTask}
use Rattle.nm_fault.specs.Waits.{last_event}
use Rattle.nm_fault.specs.Tasks.{FaultBegun, fault_in, IsFault, either_end, IsNewFault, IsFaultAwaited, IsFaultEnded}

-- the last event of a list with one more
pub last-push : (own : Own) (event : Action × Reply) → last_event (own ++ event ∷ []) ≡ Some event
last-push [] event = refl
last-push (first ∷ []) event = refl
last-push (first ∷ (next ∷ own)) event = last-push (next ∷ own) event

-- What the choice of a fault says, said of the fault.

abbrev MissingShape : FaultsMade → Geometry → Own → FaultEnd → Type 0
MissingShape made = IsMissingFault made.1

abbrev ShadowShape : FaultsMade → Geometry → Own → FaultEnd → Type 0
ShadowShape made = IsShadowFault made.1

abbrev EitherShape : FaultBegun → Geometry → Own → Or FaultEnd FaultEnd → Type 0
EitherShape = IsOr MissingShape ShadowShape

abbrev FaultLeaves : FaultsMade → Geometry → View → FaultEnd → View → Type 0
FaultLeaves made g view end left = IsFaulted view left

abbrev EitherLeaves : FaultBegun → Geometry → View → Or FaultEnd FaultEnd → View → Type 0
EitherLeaves = LeavesOr FaultLeaves FaultLeaves

pub either-may : (made : FaultBegun) (g : Geometry) (view : View) → MayFault (fault_in made) g view → MayBeginOr MayFault MayFault made g view
either-may (This made) g view may = may
either-may (Other made) g view may = may

either-shown : (made : FaultBegun) (g : Geometry) (own : Own) (end : Or FaultEnd FaultEnd) → EitherShape made g own end → IsFault made g own (either_end end)
either-shown (This made) g own (This end) h = h
either-shown (This made) g own (Other end) h = absurd h
either-shown (Other made) g own (This end) h = absurd h
either-shown (Other made) g own (Other end) h = h

either-left : (made : FaultBegun) (g : Geometry) (view left : View) (end : Or FaultEnd FaultEnd) → EitherLeaves made g view end left → IsFaulted view left
either-left (This made) g view left (This end) h = h
either-left (This made) g view left (Other end) h = absurd h
either-left (Other made) g view left (This end) h = absurd h
either-left (Other made) g view left (Other end) h = h

-- The task.

-- what the task keeps beside the fault that runs
pub record IsKeeping (page : ℕ) (t : FaultTask) (own : Own) : Type 0 where
  pub before : t.before ≡ last_event own
  pub page_is : t.freed.page ≡ page
  pub counted : HasCounted t.freed own

-- the action of the fault is the task's
pub task-asked : (awaits : Geometry → View → Own → Action → Type 0) (made : FaultBegun) (page : ℕ) (t : FaultTask) (g : Geometry) (view : View) (own : Own) (action : Action)
    → t.given ≡ action → IsKeeping page t own → IsAsked awaits (EitherShape made) g view own action → IsAsked (IsFaultAwaited awaits page t) (IsFault made) g view own action
task-asked awaits made page t g view own action given keeps h = record {
  quiet = h.quiet;
  permitted = h.permitted;
  awaited = record { awaited = h.awaited; given = given; before = keeps.before; page_is = keeps.page_is; counted = keeps.counted };
  begun = record {
    reply = h.begun.reply;
    begun = record { rest = h.begun.begun.rest; outcome = either_end h.begun.begun.outcome; whole = either-shown made g _ h.begun.begun.outcome h.begun.begun.whole };
  };
}

-- after one event more
pub keeps-more : (awaits : Geometry → View → Own → Action → Type 0) (page now : ℕ) (old new : FaultTask) (g : Geometry) (view : View) (own : Own) (action : Action) (reply : Reply)
    → IsFaultAwaited awaits page old g view own action → page ≡ now → new.before ≡ Some (old.given, reply) → new.freed.page ≡ old.freed.page
    → ((own : Own) (reply : Reply) → HasCounted old.freed own → HasCounted new.freed (own ++ (old.given, reply) ∷ []))
    → IsKeeping now new (own ++ (action, reply) ∷ [])
keeps-more awaits page now old new g view own action reply h same before kept noted =
    let A : Action → Type 0 = λ a. HasCounted new.freed (own ++ (a, reply) ∷ []) in
    record {
      before = before ∙ (ap (λ (a : Action). Some (a, reply)) h.given ∙ sym (last-push own (action, reply)));
      page_is = kept ∙ (h.page_is ∙ same);
      counted = subst A h.given (noted own reply h.counted);
    }

-- the fault may begin, and hears the reply

pub begin-inside : (made : FaultBegun) → HasBegin (λ g view. MayFault (fault_in made) g view) → HasBegin (MayBeginOr MayFault MayFault made)
begin-inside made h = record { geometry = h.geometry; view = h.view; allowed = either-may made h.geometry h.view h.allowed }

pub heard-inside : (awaits : Geometry → View → Own → Action → Type 0) (page : ℕ) (t : FaultTask) (reply : Reply) → IsHeard (IsFaultAwaited awaits page t) reply → IsHeard awaits reply
heard-inside awaits page t reply h = record { geometry = h.geometry; view = h.view; own = h.own; action = h.action; awaited = h.awaited.awaited; fits = h.fits }

-- at first; `is_new` is what the fault inside tells
pub keeps-first : (is_new : Type 0) (page : ℕ) (old new : FaultTask) → IsNewFault is_new page old → {now : ℕ} → now ≡ page → new.before ≡ old.before → new.freed ≡ old.freed → IsKeeping now new []
keeps-first is_new page old new h {now} same before freed =
    let C : FreedCount → Type 0 = λ c. HasCounted c [] in
    record {
      before = before ∙ h.before;
      page_is = ap (λ (c : FreedCount). c.page) freed ∙ (h.page_is ∙ sym same);
      counted = subst C (sym freed) h.counted;
    }

-- the first action
pub task-first : (awaits : Geometry → View → Own → Action → Type 0) (made : FaultBegun) (page : ℕ) (t : FaultTask) (g : Geometry) (view : View) (action : Action)
    → t.given ≡ action → IsKeeping page t [] → MayFault (fault_in made) g view → ((g : Geometry) (view : View) → MayBeginOr MayFault MayFault made g view → IsAsked awaits (EitherShape made) g view [] action)
    → IsAsked (IsFaultAwaited awaits page t) (IsFault made) g view [] action
task-first awaits made page t g view action given keeps may step = task-asked awaits made page t g view [] action given keeps (step g view (either-may made g view may))

-- the next action
pub task-next : (awaits : Geometry → View → Own → Action → Type 0) (ended : Geometry → Own → Or FaultEnd FaultEnd → Type 0) (made : FaultBegun) (page : ℕ) (t : FaultTask) (g : Geometry) (view : View) (own : Own) (action : Action) (step : Step (Or FaultEnd FaultEnd))
    → step ≡ Do action → t.given ≡ action → IsKeeping page t own → IsPartStep awaits (EitherShape made) (EitherLeaves made) ended g view own step → IsAsked (IsFaultAwaited awaits page t) (IsFault made) g view own action
task-next awaits ended made page t g view own action step is given keeps h =
    let S : Step (Or FaultEnd FaultEnd) → Type 0 = λ s. IsPartStep awaits (EitherShape made) (EitherLeaves made) ended g view own s in
    task-asked awaits made page t g view own action given keeps (subst S is h)

-- the end
pub task-over : (awaits : Geometry → View → Own → Action → Type 0) (ended : Geometry → Own → Or FaultEnd FaultEnd → Type 0) (made : FaultBegun) (page : ℕ) (t : FaultTask) (g : Geometry) (view : View) (own : Own) (end : Or FaultEnd FaultEnd) (outcome : FaultEnd) (step : Step (Or FaultEnd FaultEnd))
    → step ≡ Over end → outcome ≡ either_end end → IsKeeping page t own → IsPartStep awaits (EitherShape made) (EitherLeaves made) ended g view own step
    → IsEnded (IsFault made) (λ g view (end : FaultEnd) left. IsFaulted view left) (λ g own (end : FaultEnd). IsFaultEnded page t own) g view own outcome
task-over awaits ended made page t g view own end outcome step is shows keeps h =
    let S : Step (Or FaultEnd FaultEnd) → Type 0 = λ s. IsPartStep awaits (EitherShape made) (EitherLeaves made) ended g view own s in
    let e : IsEnded (EitherShape made) (EitherLeaves made) ended g view own end = subst S is h in
    let F : FaultEnd → Type 0 = λ x. IsFault made g own x in
    record {
      shown = subst F (sym shows) (either-shown made g own end e.shown);
      left = either-left made g view (view_after g view own) end e.left;
      over = record { page_is = keeps.page_is; counted = keeps.counted };
    }
