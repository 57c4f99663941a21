-- Each step leads from a state that a run reaches to another, and its reply fits.
use Rattle.std.proofs.Common.{◌≡◌, ◌<◌, ℕ, [], ◌∷◌, ◌++◌, length, sym, ap, subst, ◌∙◌}
use Rattle.nm_base.specs.Geometry.{Geometry, IsGeometry}
use Rattle.nm_action.specs.declared.action.Action.{Action}
use Rattle.nm_action.specs.declared.action.Reply.{Reply}
use Rattle.nm_action.specs.declared.action.Event.{Event}
use Rattle.nm_view.specs.Opening.{IsActor}
use Rattle.nm_permit.specs.Permitted.{Allowed}
use Rattle.nm_event.specs.After.{after_of}
use Rattle.nm_event.specs.Fitting.{Fits}
use Rattle.nm_core.specs.State.{State, start, view_of, reply_to, step, actor_count}
use Rattle.nm_core.specs.Runs.{IsStep, state_after}
use Rattle.nm_runs.proofs.EachRun.{fits_in_run}
use Rattle.nm_runs.proofs.Longer.{state_from-more, run_from-more}
use Rattle.nm_actor_rows.proofs.Following.{view-stepped, view-other}
use Rattle.nm_work_rows.specs.Reached.{IsReached, HasActed}

-- nothing was done
pub reached-start : (g : Geometry) (s : State) → IsGeometry g → s ≡ start g → IsReached g s
reached-start g s limits is = record { limits = limits; same = ap (λ (s : State). s.geometry) is; events = []; run = tt; is = is }

-- a step
pub acted : (g : Geometry) (old new : State) (actor : ℕ) (action : Action) (reply : Reply)
    → IsReached g old → length old.views ≡ actor_count old.geometry → IsActor g actor → Allowed g (view_of old actor) action → new ≡ step old actor action → reply ≡ reply_to old actor action
    → HasActed g old new actor action reply
acted g old new actor action reply h size there allowed is told =
    let e : Event = record { actor = actor; action = action; reply = reply } in
    let A : Geometry → Type 0 = λ k. IsActor k actor in
    let P : Geometry → Type 0 = λ k. Allowed k (view_of old actor) action in
    let here : IsStep old e = record { actor = subst A (sym h.same) there; allowed = subst P (sym h.same) allowed; reply = told } in
    let made : IsStep (state_after g h.events) e = (let S : State → Type 0 = λ s. IsStep s e in subst S h.is here) in
    let F : State → Type 0 = λ s. Fits g (view_of s actor) action reply in
    let lt : actor < length old.views = (let L : ℕ → Type 0 = λ n. actor < n in subst L (sym size) here.actor) in
    record {
      reached = record {
        limits = h.limits;
        same = ap (λ (s : State). s.geometry) is ∙ h.same;
        events = h.events ++ e ∷ [];
        run = run_from-more (start g) h.events e h.run made;
        is = is ∙ ap (λ (s : State). step s actor action) h.is ∙ sym (state_from-more (start g) h.events e);
      };
      made = record {
        fits = subst F (sym h.is) (fits_in_run g h.events e h.limits h.run made);
        view = ap (λ (s : State). view_of s actor) is ∙ view-stepped old actor action lt ∙ ap (λ (k : Geometry). after_of k (view_of old actor) action (reply_to old actor action)) h.same ∙ ap (λ (r : Reply). after_of g (view_of old actor) action r) (sym told);
      };
      others = λ other n. ap (λ (s : State). view_of s other) is ∙ view-other old other actor action (λ e. n (sym e));
    }
