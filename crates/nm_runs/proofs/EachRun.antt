-- That all the groups hold in each state of a run, and that each reply of a run fits.
use Rattle.std.proofs.Common.{◌≡◌, ℕ, ◌<◌, List, [], ◌∷◌, length, refl, sym, ap, subst, ◌∙◌, arith}
use Rattle.nm_base.specs.Geometry.{Geometry, IsGeometry}
use Rattle.nm_action.specs.declared.action.Action.{Action}
use Rattle.nm_action.specs.declared.action.Event.{Event}
use Rattle.nm_action.specs.declared.action.Reply.{Reply}
use Rattle.nm_view.specs.Opening.{IsActor}
use Rattle.nm_permit.specs.Permitted.{Allowed}
use Rattle.nm_words.specs.Names.{IsPlace}
use Rattle.nm_step.specs.Table.{reply_of}
use Rattle.nm_event.specs.Fitting.{Fits}
use Rattle.nm_shape.proofs.Laws.{keyed_after}
use Rattle.nm_core.specs.Kept.{IsKept}
use Rattle.nm_core.specs.Runs.{IsStep, IsRun, IsRunFrom, after_event, state_from, state_after}
use Rattle.nm_core.specs.State.{State, view_of, place_found, change_made, reply_to, step, start}
use Rattle.nm_core.proofs.Starts.{IsKept-start}
use Rattle.nm_core.proofs.Steps.{place_there, step_range, IsKept-step}
use Rattle.nm_world.specs.Worlds.{moved, reply_in}
use Rattle.nm_world.specs.Bounds.{HasBounds}
use Rattle.nm_world.specs.Laws.{AreAll}
use Rattle.nm_world.specs.Seen.{world_of}
use Rattle.nm_world.proofs.Bounds.{HasBounds-world_of}
use Rattle.nm_world.proofs.Bridge.{seen_word-place, world_of-step}
use Rattle.nm_world.proofs.Opening.{AreAll-start}
use Rattle.nm_fits.proofs.EachReply.{Fits-reply_in}
use Rattle.nm_runs.proofs.Joined.{all_moved}

-- a number of an actor is one of a view
within : (s : State) (a : ℕ) → IsKept s → IsActor s.geometry a → a < length s.views
within s a k there = omega (arith, there, k.actors)

-- a permitted step keeps what a state keeps by itself
pub kept_after : (s : State) (a : ℕ) (action : Action) → IsKept s → IsActor s.geometry a → Allowed s.geometry (view_of s a) action → IsKept (step s a action)
kept_after s a action k there may =
    let lt : a < length s.views = within s a k there in
    let range = step_range s a action (view_of s a) refl k lt may in
    IsKept-step s a action k lt may (keyed_after s.geometry (view_of s a) action (reply_to s a action) k.geometry (k.views a lt).keyed may range)

-- a permitted step keeps all the groups
pub all_after : (s : State) (a : ℕ) (action : Action) → IsKept s → IsActor s.geometry a → Allowed s.geometry (view_of s a) action → AreAll s.geometry (world_of s) → AreAll s.geometry (world_of (step s a action))
all_after s a action k there may all =
    let g : Geometry = s.geometry in
    let same : world_of (step s a action) ≡ moved g (world_of s) a action = world_of-step s a action k there may in
    let bounds : HasBounds g (moved g (world_of s) a action) = subst (HasBounds g) same (HasBounds-world_of (step s a action) (kept_after s a action k there may)) in
    subst (AreAll g) (sym same) (all_moved g (world_of s) a action k.geometry all there may bounds)

pub all_left : (s new : State) (a : ℕ) (action : Action) → IsKept s → IsActor s.geometry a → Allowed s.geometry (view_of s a) action → new ≡ step s a action → AreAll s.geometry (world_of s) → AreAll new.geometry (world_of new)
all_left s new a action k there may made all =
    let At : State → Type 0 = λ t. AreAll t.geometry (world_of t) in
    subst At (sym made) (all_after s a action k there may all)

-- a state of a machine that keeps what it keeps by itself, and in which all the groups hold
pub record IsLawful (g : Geometry) (s : State) : Type 0 where
  pub machine : s.geometry ≡ g
  pub kept : IsKept s
  pub all : AreAll g (world_of s)

pub lawful_after : (g : Geometry) (s : State) (e : Event) → IsLawful g s → IsStep s e → IsLawful g (after_event s e)
lawful_after g s e h made =
    let All : Geometry → Type 0 = λ n. AreAll n (world_of s) in
    let After : Geometry → Type 0 = λ n. AreAll n (world_of (after_event s e)) in
    record {
      machine = h.machine;
      kept = kept_after s e.actor e.action h.kept made.actor made.allowed;
      all = subst After h.machine (all_after s e.actor e.action h.kept made.actor made.allowed (subst All (sym h.machine) h.all));
    }

lawful_from : (g : Geometry) (s : State) (events : List Event) → IsLawful g s → IsRunFrom s events → IsLawful g (state_from s events)
lawful_from g s [] h run = h
lawful_from g s (e ∷ events) h run = lawful_from g (after_event s e) events (lawful_after g s e h run.0) run.1

pub lawful_start : (g : Geometry) → IsGeometry g → IsLawful g (start g)
lawful_start g is = record { machine = refl; kept = IsKept-start g is; all = AreAll-start g is }

pub lawful_run : (g : Geometry) (events : List Event) → IsGeometry g → IsRun g events → IsLawful g (state_after g events)
lawful_run g events is run = lawful_from g (start g) events (lawful_start g is) run

-- all the groups hold in the state after a run
pub all_in_run : (g : Geometry) (events : List Event) → IsGeometry g → IsRun g events → AreAll g (world_of (state_after g events))
all_in_run g events is run = (lawful_run g events is run).all

-- the reply of a step of a state is that of its world
pub reply_same : (s : State) (a : ℕ) (action : Action) → IsKept s → IsActor s.geometry a → Allowed s.geometry (view_of s a) action → reply_in s.geometry (world_of s) a action ≡ reply_to s a action
reply_same s a action k there may =
    let place : IsPlace s.geometry (place_found s a action) = place_there s a action k (within s a k there) may in
    ap (λ n. reply_of (change_made s a action) n) (seen_word-place s.geometry s.words (place_found s a action) place)

fits_at : (g : Geometry) (s : State) (e : Event) → IsLawful g s → IsStep s e → Fits g (view_of s e.actor) e.action e.reply
fits_at g s e h made =
    let All : Geometry → Type 0 = λ n. AreAll n (world_of s) in
    let Reply_fits : Reply → Type 0 = λ r. Fits s.geometry (view_of s e.actor) e.action r in
    let Fits_in : Geometry → Type 0 = λ n. Fits n (view_of s e.actor) e.action e.reply in
    let found = Fits-reply_in s.geometry (world_of s) e.actor e.action h.kept.geometry (subst All (sym h.machine) h.all) made.actor made.allowed in
    let given : reply_in s.geometry (world_of s) e.actor e.action ≡ e.reply = reply_same s e.actor e.action h.kept made.actor made.allowed ∙ sym made.reply in
    subst Fits_in h.machine (subst Reply_fits given found)

-- the reply of each step after a run fits
pub fits_in_run : (g : Geometry) (events : List Event) (e : Event) → IsGeometry g → IsRun g events → IsStep (state_after g events) e → Fits g (view_of (state_after g events) e.actor) e.action e.reply
fits_in_run g events e is run made = fits_at g (state_after g events) e (lawful_run g events is run) made
