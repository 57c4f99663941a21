-- Reclaim as a task: the sweep inside it, from its first page on, is the whole work.
use Rattle.std.proofs.Common.{◌≡◌, ℕ, ◌==◌, if◌then◌else◌, Bool, true, false, List, [], Some, None, refl, sym, ap, ◌∙◌, subst}
use Rattle.nm_base.specs.Geometry.{Geometry}
use Rattle.nm_action.specs.declared.action.Action.{Action}
use Rattle.nm_action.specs.declared.turn.Step.{Step}
use Rattle.nm_action.specs.declared.turn.Step.TheVariants.{Do, Over}
use Rattle.nm_action.specs.Own.{Own}
use Rattle.nm_view.specs.Views.{View}
use Rattle.nm_part.specs.Parts.{IsBegunWith, IsAsked, IsPartStep}
use Rattle.nm_event.specs.After.{view_after}
use Rattle.nm_part.proofs.Patterns.{ends-now}
use Rattle.nm_reclaim.specs.declared.sweep.ReclaimMade.{ReclaimMade}
use Rattle.nm_reclaim.specs.Reclaims.{pages_from, pages_visited, VisitsAll, IsReclaim}
use Rattle.nm_reclaim.specs.Swept.{MayReclaim, IsSwept}
use Rattle.nm_reclaim.specs.Sweeping.{SweptMade, IsPageVisited, MaySweep, IsSweep, SweepLeaves, next_visited}
use Rattle.nm_reclaim.specs.declared.run.SweepRun.{SweepRun}
use Rattle.nm_reclaim.specs.declared.task.Work.{Work}
use Rattle.nm_reclaim.specs.declared.task.Work.TheVariants.{Nothing, Visits}
use Rattle.nm_reclaim.specs.Runs.{sweep_run_made, IsNewSweepRun, AwaitsSweepRun}
use Rattle.nm_reclaim.specs.Tasks.{first_visited, TaskMade, MayTask, IsSweepFor, IsNewSweep, IsNewWork, IsAwaitedSweep, AwaitsWork, freed_by}
use Rattle.nm_reclaim.proofs.Pages.{IsNextPage, next-page, pages-next}
use Rattle.nm_reclaim.proofs.Sweeping.{over-left}

first-test : (g : Geometry) (made : ReclaimMade) (first : ℕ) (fastest : Bool) → (made.tier == 0) ≡ fastest → (if fastest then None else next_visited g made 0 0) ≡ Some first → next_visited g made 0 0 ≡ Some first
first-test g made first true is some = cc some
first-test g made first false is some = some

-- the first page that is visited is the next one from 0 on
pub first-next : (g : Geometry) (made : ReclaimMade) (first : ℕ) → first_visited g made ≡ Some first → next_visited g made 0 0 ≡ Some first
first-next g made first some = first-test g made first (made.tier == 0) refl some

slow-test : (g : Geometry) (made : ReclaimMade) (first : ℕ) (fastest : Bool) → (made.tier == 0) ≡ fastest → (if fastest then None else next_visited g made 0 0) ≡ Some first → (made.tier == 0) ≡ false
slow-test g made first true is some = cc some
slow-test g made first false is some = is

-- from the first page on, all pages are left
pages-first : (g : Geometry) (made : ReclaimMade) (first : ℕ) → first_visited g made ≡ Some first → pages_from g made.skip first ≡ pages_visited g made
pages-first g made first some =
    let n : IsNextPage g made 0 0 first = next-page g made 0 0 first (first-next g made first some) in
    let slow : (made.tier == 0) ≡ false = slow-test g made first (made.tier == 0) refl some in
    rw slow (pages-next g made.skip first n.within n.other ∙ sym n.left)

-- a sweep from the first page on is the whole of Reclaim
pub sweep-is : (g : Geometry) (made : TaskMade) (sweep : SweptMade) → made.0 ≡ g → IsSweepFor made sweep → IsSweep sweep g ≡ IsReclaim g made.1
sweep-is g made sweep same for =
    let F : Geometry → Type 0 = λ k. first_visited k made.1 ≡ Some sweep.1.first in
    ap (λ (a : ReclaimMade). VisitsAll g a (pages_from g a.skip sweep.1.first) 0) for.asked
    ∙ ap (λ (pages : List ℕ). VisitsAll g made.1 pages 0) (pages-first g made.1 sweep.1.first (subst F same for.first))

none-test : (g : Geometry) (made : ReclaimMade) (fastest : Bool) → (made.tier == 0) ≡ fastest → (if fastest then None else next_visited g made 0 0) ≡ None → IsReclaim g made [] 0
none-test g made true is none = rw is (ends-now 0)
none-test g made false is none = rw is (over-left g made 0 0 none)

-- where there is no page to visit, nothing is done
pub nothing-done : (g : Geometry) (made : ReclaimMade) → first_visited g made ≡ None → IsReclaim g made [] 0
nothing-done g made none = none-test g made (made.tier == 0) refl none

-- a sweep may begin as the task may
pub may-sweep : (g : Geometry) (made : TaskMade) (sweep : SweptMade) (view : View) → IsSweepFor made sweep → MayTask made g view → MaySweep sweep g view
may-sweep g made sweep view for may =
    let F : Geometry → Type 0 = λ k. first_visited k made.1 ≡ Some sweep.1.first in
    let n : IsNextPage g made.1 0 0 sweep.1.first = next-page g made.1 0 0 sweep.1.first (first-next g made.1 sweep.1.first (subst F may.same for.first)) in
    let A : ReclaimMade → Type 0 = λ a. IsPageVisited g a sweep.1.first 0 in
    let M : ReclaimMade → Type 0 = λ a. MayReclaim a g view in
    record {
      same = for.same ∙ may.same;
      may = subst M (sym for.asked) may.may;
      visits = subst A (sym for.asked) (record { exists = n.within; other = n.other; few = n.few });
    }

-- the sweep's action is the task's
pub task-asked : (made : TaskMade) (sweep now : SweptMade) (awaits : Geometry → View → Own → Action → Type 0) (g : Geometry) (view : View) (own : Own) (action : Action)
    → made.0 ≡ g → IsSweepFor made sweep → now ≡ sweep → IsAsked awaits (IsSweep sweep) g view own action
    → IsAsked (λ g view own action. IsAwaitedSweep (awaits g view own action) made now g) (λ g. IsReclaim g made.1) g view own action
task-asked made sweep now awaits g view own action same for kept h =
    let S : (Own → ℕ → Type 0) → Type 0 = λ shape. IsBegunWith shape own action in
    let F : SweptMade → Type 0 = λ s. IsSweepFor made s in
    record {
      quiet = h.quiet;
      permitted = h.permitted;
      awaited = record { same = same; awaited = h.awaited; for = subst F (sym kept) for };
      begun = subst S (sweep-is g made sweep same for) h.begun;
    }

-- the first step of a sweep that was made for this work
pub task-first : (made : TaskMade) (sweep now : SweptMade) (awaits : Geometry → View → Own → Action → Type 0) (g : Geometry) (view : View) (action : Action)
    → MayTask made g view → IsSweepFor made sweep → now ≡ sweep → ((g : Geometry) (view : View) → MaySweep sweep g view → IsAsked awaits (IsSweep sweep) g view [] action)
    → IsAsked (λ g view own action. IsAwaitedSweep (awaits g view own action) made now g) (λ g. IsReclaim g made.1) g view [] action
task-first made sweep now awaits g view action may for kept step = task-asked made sweep now awaits g view [] action may.same for kept (step g view (may-sweep g made sweep view for may))

-- a step of the sweep is one of the task
pub task-step : (made : TaskMade) (sweep now : SweptMade) (awaits : Geometry → View → Own → Action → Type 0) (ended : Geometry → Own → ℕ → Type 0) (g : Geometry) (view : View) (own : Own) (step : Step ℕ)
    → made.0 ≡ g → IsSweepFor made sweep → now ≡ sweep → IsPartStep awaits (IsSweep sweep) (SweepLeaves sweep) ended g view own step
    → IsPartStep (λ g view own action. IsAwaitedSweep (awaits g view own action) made now g) (λ g. IsReclaim g made.1) (λ g view freed left. IsSwept made.1.skip view left) ended g view own step
task-step made sweep now awaits ended g view own (Do action) same for kept h = task-asked made sweep now awaits g view own action same for kept h
task-step made sweep now awaits ended g view own (Over freed) same for kept h =
    let S : (Own → ℕ → Type 0) → Type 0 = λ shape. shape own freed in
    let K : ReclaimMade → Type 0 = λ a. IsSwept a.skip view (view_after g view own) in
    record {
      shown = subst S (sweep-is g made sweep same for) h.shown;
      left = subst K for.asked h.left;
      over = h.over;
    }

-- What is told of the work.

pub nothing-left : (made : TaskMade) (work : Work) (g : Geometry) (view : View)
    → work ≡ Nothing → IsNewWork made work → MayTask made g view → first_visited g made.1 ≡ None
nothing-left made work g view is new may =
    let W : Work → Type 0 = λ w. IsNewWork made w in
    let F : Geometry → Type 0 = λ k. first_visited k made.1 ≡ None in
    subst F may.same (subst W is new)

pub nothing-freed : (work : Work) → work ≡ Nothing → freed_by work ≡ 0
nothing-freed work is = let W : Work → Type 0 = λ w. freed_by w ≡ 0 in subst W (sym is) refl

-- the sweep of new work is for that work
pub new-sweep : (made : TaskMade) (work : Work) (sweep : SweepRun)
    → work ≡ Visits sweep → IsNewWork made work → IsSweepFor made (sweep_run_made sweep)
new-sweep made work sweep is new =
    let W : Work → Type 0 = λ w. IsNewWork made w in
    let n : IsNewSweep (IsNewSweepRun sweep) made (sweep_run_made sweep) = subst W is new in
    n.for

-- what is awaited, the sweep awaits
pub awaited-sweep : (made : TaskMade) (work : Work) (sweep : SweepRun) (g : Geometry) (view : View) (own : Own) (action : Action)
    → work ≡ Visits sweep → AwaitsWork made work g view own action → IsAwaitedSweep (AwaitsSweepRun sweep g view own action) made (sweep_run_made sweep) g
awaited-sweep made work sweep g view own action is h =
    let W : Work → Type 0 = λ w. AwaitsWork made w g view own action in subst W is h
