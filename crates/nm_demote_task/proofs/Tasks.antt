-- The demotion as a task: the demotion inside it is the whole work.
use Rattle.std.proofs.Common.{◌≡◌, [], ◌∷◌, ◌++◌, Option, Some, sym, ap, ◌∙◌, subst}
use Rattle.nm_base.specs.Geometry.{Geometry}
use Rattle.nm_action.specs.declared.action.Action.{Action}
use Rattle.nm_action.specs.declared.action.Reply.{Reply}
use Rattle.nm_action.specs.Own.{Own}
use Rattle.nm_view.specs.Views.{View}
use Rattle.nm_event.specs.After.{view_after}
use Rattle.nm_part.specs.Parts.{IsBegunWith, IsAsked, IsEnded}
use Rattle.nm_obtain.specs.declared.freed.FreedCount.{FreedCount}
use Rattle.nm_obtain.specs.FreedCounts.{HasCounted}
use Rattle.nm_demote.specs.declared.demote.DemoteEnd.{DemoteEnd}
use Rattle.nm_demote.specs.declared.demote.DemoteOver.{DemoteOver}
use Rattle.nm_demote_task.specs.declared.task.DemoteTask.{DemoteTask}
use Rattle.nm_demote.specs.Selections.{MayDemote}
use Rattle.nm_demote.specs.Demotions.{IsDemotion}
use Rattle.nm_demote.specs.Leaving.{IsDemoteLeft}
use Rattle.nm_demote_run.specs.declared.run.DemoteRun.{DemoteRun}
use Rattle.nm_demote_run.specs.Runs.{DemoteData}
use Rattle.nm_demote_task.specs.Tasks.{demote_task_made, IsDemotionFor, HasNewDemotion, AwaitsDemoteRun, CountsFreed, IsDemotionAwaited, IsDemotionEnded}

-- the finished lists of the demotion inside, and of the task
abbrev pub RunShape : DemoteData → Geometry → Own → DemoteOver → Type 0
RunShape made g own over = IsDemotion made.1 g own over.end

abbrev pub TaskShape : DemoteData → Geometry → Own → DemoteEnd → Type 0
TaskShape made g own end = IsDemotion made.1 g own end

-- the demotion of new work is for that work
pub new-run : (is_new : DemoteRun → Type 0) (made_by : DemoteRun → DemoteData) (made : DemoteData) (work : Option DemoteRun) (run : DemoteRun)
    → work ≡ Some run → HasNewDemotion is_new made_by made work → IsDemotionFor (is_new run) made (made_by run)
new-run is_new made_by made work run is new = let W : Option DemoteRun → Type 0 = λ w. HasNewDemotion is_new made_by made w in subst W is new

-- what is awaited, the demotion awaits
pub awaited-run : (awaits : DemoteRun → Geometry → View → Own → Action → Type 0) (made_by : DemoteRun → DemoteData) (made : DemoteData) (work : Option DemoteRun) (run : DemoteRun) (g : Geometry) (view : View) (own : Own) (action : Action)
    → work ≡ Some run → AwaitsDemoteRun awaits made_by made work g view own action → IsDemotionFor (awaits run g view own action) made (made_by run)
awaited-run awaits made_by made work run g view own action is h =
    let W : Option DemoteRun → Type 0 = λ w. AwaitsDemoteRun awaits made_by made w g view own action in subst W is h

-- a demotion may begin as the task may
pub may-run : (made run : DemoteData) (g : Geometry) (view : View) → run ≡ made → MayDemote made.0 made.1 g view → MayDemote run.0 run.1 g view
may-run made run g view for may = let P : DemoteData → Type 0 = λ m. MayDemote m.0 m.1 g view in subst P (sym for) may

begun : (made run : DemoteData) (g : Geometry) (own : Own) (action : Action) → run ≡ made → IsBegunWith (RunShape run g) own action → IsBegunWith (TaskShape made g) own action
begun made run g own action for h =
    let P : DemoteData → Type 0 = λ m. IsDemotion m.1 g ((own ++ (action, h.reply) ∷ []) ++ h.begun.rest) h.begun.outcome.end in
    record { reply = h.reply; begun = record { rest = h.begun.rest; outcome = h.begun.outcome.end; whole = subst P for h.begun.whole } }

-- the action of the demotion is the task's
pub run-asked : (awaits : DemoteRun → Geometry → View → Own → Action → Type 0) (made_by : DemoteRun → DemoteData) (made run : DemoteData) (now : DemoteRun) (t : DemoteTask) (g : Geometry) (view : View) (own : Own) (action : Action)
    → t.run ≡ Some now → demote_task_made t ≡ made → run ≡ made → made_by now ≡ run → action ≡ t.given → CountsFreed t own
    → IsAsked (awaits now) (RunShape run) g view own action → IsAsked (IsDemotionAwaited awaits made_by t) (TaskShape made) g view own action
run-asked awaits made_by made run now t g view own action is same for kept given counts h =
    let W : Option DemoteRun → Type 0 = λ w. AwaitsDemoteRun awaits made_by (demote_task_made t) w g view own action in
    record {
      quiet = h.quiet;
      permitted = h.permitted;
      awaited = record { run = subst W (sym is) (record { held = h.awaited; for = kept ∙ (for ∙ sym same) }); given = given; counts = counts };
      begun = begun made run g own action for h.begun;
    }

-- the end of the demotion is the task's
pub run-ended : (ended : Geometry → Own → DemoteOver → Type 0) (made run : DemoteData) (t : DemoteTask) (g : Geometry) (view : View) (own : Own) (over : DemoteOver) (end : DemoteEnd)
    → run ≡ made → end ≡ over.end → IsDemotionEnded t own → IsEnded (RunShape run) (λ g view over left. IsDemoteLeft run.1 view over.end left) ended g view own over
    → IsEnded (TaskShape made) (λ g view end left. IsDemoteLeft made.1 view end left) (λ g own end. IsDemotionEnded t own) g view own end
run-ended ended made run t g view own over end for is over_now h =
    let S : DemoteData → Type 0 = λ m. IsDemotion m.1 g own over.end in
    let L : DemoteData → Type 0 = λ m. IsDemoteLeft m.1 view over.end (view_after g view own) in
    let E : DemoteEnd → Type 0 = λ e. IsDemotion made.1 g own e in
    let F : DemoteEnd → Type 0 = λ e. IsDemoteLeft made.1 view e (view_after g view own) in
    record { shown = subst E (sym is) (subst S for h.shown); left = subst F (sym is) (subst L for h.left); over = over_now }

-- one action more is counted
pub counts-more : (old new : DemoteTask) (own : Own) (action : Action) (reply : Reply) (freed : FreedCount) → new.freed ≡ freed → new.made ≡ old.made → action ≡ old.given
    → freed.page ≡ old.freed.page → ((own : Own) (reply : Reply) → HasCounted old.freed own → HasCounted freed (own ++ (old.given, reply) ∷ [])) → CountsFreed old own → CountsFreed new (own ++ (action, reply) ∷ [])
counts-more old new own action reply freed is made given page push h =
    let A : Action → Type 0 = λ a. HasCounted freed (own ++ (a, reply) ∷ []) in
    let F : FreedCount → Type 0 = λ f. HasCounted f (own ++ (action, reply) ∷ []) in
    record {
      page = ap (λ (f : FreedCount). f.page) is ∙ (page ∙ (h.page ∙ sym (ap (λ m. m.page) made)));
      counted = subst F (sym is) (subst A (sym given) (push own reply h.counted));
    }

-- the count as it was
pub counts-kept : (old new : DemoteTask) (own : Own) → new.freed ≡ old.freed → new.made ≡ old.made → CountsFreed old own → CountsFreed new own
counts-kept old new own freed made h =
    let F : FreedCount → Type 0 = λ f. HasCounted f own in
    record { page = ap (λ (f : FreedCount). f.page) freed ∙ (h.page ∙ sym (ap (λ m. m.page) made)); counted = subst F (sym freed) h.counted }
