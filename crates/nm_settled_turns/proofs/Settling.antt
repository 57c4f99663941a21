-- Parts of actors that have ended settle the machine.
use Rattle.std.proofs.Common.{◌≡◌, ℕ, ◌+◌, ◌<◌, List, [], Option, sym, ap, subst, ◌∙◌}
use Rattle.nm_base.specs.Geometry.{Geometry, IsGeometry}
use Rattle.nm_action.specs.Own.{Own}
use Rattle.nm_action.specs.declared.action.Event.{Event}
use Rattle.nm_action.specs.declared.turn.Lane.TheVariants.{Pending}
use Rattle.nm_view.specs.Views.{View}
use Rattle.nm_view.specs.Opening.{opening, IsActor}
use Rattle.nm_event.specs.After.{view_after}
use Rattle.nm_core.specs.State.{State, view_of}
use Rattle.nm_core.specs.Roles.{IsSettled}
use Rattle.nm_core.specs.Runs.{IsRun, state_after}
use Rattle.nm_core.proofs.Owns.{view_after-run}
use Rattle.nm_actor.specs.Turns.{Turns}
use Rattle.nm_actor.specs.Alone.{FitsLane}
use Rattle.nm_script.specs.declared.script.Line.{Line}
use Rattle.nm_marks.specs.Marks.{HasOnlyMarks, IsNoMark}
use Rattle.nm_runs.proofs.EachRun.{lawful_run}
use Rattle.nm_settled.specs.Ended.{IsEndedView, HaveEndedViews}
use Rattle.nm_settled.proofs.Settling.{settled-run}
use Rattle.nm_unmarked.specs.Unmarking.{IsProcessorUnmarking, IsMigratorUnmarking, TakeMarksBack}
use Rattle.nm_unmarked.proofs.EachRun.{unmarked-run}
use Rattle.nm_settled_turns.specs.EndedParts.{IsMergeOf, AreEndedParts}
use Rattle.nm_settled_turns.proofs.Parts.{cpu-marks, migrator-marks, reclaimer-marks, views}

ended-views : (g : Geometry) (events : List Event) (programs : ℕ → List Line) (retry : Option ℕ) (turns : ℕ → Turns) → IsGeometry g → IsRun g events → IsMergeOf turns events → AreEndedParts g programs retry turns → HaveEndedViews (state_after g events)
ended-views g events programs retry turns is run merge h =
    let s : State = state_after g events in
    let H : Geometry → Type 0 = λ n. (actor : ℕ) → IsActor n actor → IsEndedView n actor (view_of s actor) in
    subst H (sym (lawful_run g events is run).machine) (λ actor there.
    let V : View → Type 0 = λ v. IsEndedView g actor v in
    subst V (sym (view_after-run g events actor there run ∙ ap (λ (own : Own). view_after g (opening g actor) own) (merge actor))) (views g programs retry turns h actor there))

marks-back : (g : Geometry) (events : List Event) (programs : ℕ → List Line) (retry : Option ℕ) (turns : ℕ → Turns) → IsMergeOf turns events → AreEndedParts g programs retry turns → FitsLane Pending [] (turns g.cpus) [] → TakeMarksBack g events
marks-back g events programs retry turns merge h fits =
    let M : Own → Type 0 = λ l. IsMigratorUnmarking g l in
    let N : Own → Type 0 = λ l. HasOnlyMarks IsNoMark l in
    record {
      processors = λ cpu there. subst IsProcessorUnmarking (sym (merge cpu)) (cpu-marks g (programs cpu) cpu (turns cpu) (h.cpus cpu there));
      migrator = subst M (sym (merge g.cpus)) (migrator-marks g retry (turns g.cpus) h.migrator fits);
      reclaimer = subst N (sym (merge (g.cpus + 1))) (reclaimer-marks g (turns (g.cpus + 1)) h.reclaimer);
    }

pub parts-settle : (g : Geometry) (events : List Event) (programs : ℕ → List Line) (retry : Option ℕ) (turns : ℕ → Turns) → IsGeometry g → IsRun g events → IsMergeOf turns events → AreEndedParts g programs retry turns → FitsLane Pending [] (turns g.cpus) [] → IsSettled (state_after g events)
parts-settle g events programs retry turns is run merge h fits =
    settled-run g events is run (ended-views g events programs retry turns is run merge h) (unmarked-run g events is run (marks-back g events programs retry turns merge h fits))
