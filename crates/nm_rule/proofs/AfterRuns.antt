-- An action that is made after a run: the event, the words and the views after it.
use Rattle.std.proofs.Common.{◌≡◌, ◌≢◌, ℕ, ◌<◌, List, [], ◌∷◌, ◌++◌, length, get_or, set, sym, ap, subst, ◌∙◌, arith}
use Rattle.nm_base.specs.Geometry.{Geometry, IsGeometry}
use Rattle.nm_action.specs.Own.{own_of}
use Rattle.nm_action.specs.declared.action.Action.{Action}
use Rattle.nm_action.specs.declared.action.Event.{Event}
use Rattle.nm_view.specs.Views.{View}
use Rattle.nm_view.specs.Opening.{opening, IsActor}
use Rattle.nm_permit.specs.Permitted.{Allowed}
use Rattle.nm_part.proofs.OwnLemmas.{view-push}
use Rattle.nm_words.specs.Exchanges.{changed}
use Rattle.nm_words.specs.Flat.{flat, at}
use Rattle.nm_words.proofs.Flat.{flat-at, flat-with}
use Rattle.nm_words.proofs.Groups.{exchanged-with_word}
use Rattle.nm_step.specs.Table.{where_of, change_of, reply_of}
use Rattle.nm_event.specs.After.{after_of, view_after}
use Rattle.nm_core.specs.Kept.{IsKept}
use Rattle.nm_core.specs.State.{State, view_of, place_found, word_found, change_made, step, start, actor_count}
use Rattle.nm_core.specs.Runs.{IsStep, IsRun, state_after, after_event}
use Rattle.nm_core.proofs.Owns.{view_after-run}
use Rattle.nm_core.proofs.Steps.{place_there}
use Rattle.nm_runs.proofs.EachRun.{IsLawful, lawful_run}
use Rattle.nm_runs.proofs.Longer.{state_from-more, run_from-more}
use Rattle.nm_rule.specs.Knows.{event_made}
use Rattle.nm_rule.proofs.Parts.{own_of-same, own_of-other}

within : (s : State) (actor : ℕ) → IsKept s → IsActor s.geometry actor → actor < length s.views
within s actor k there = omega (arith, there, k.actors)

word_same : (s : State) (actor : ℕ) (a : Action) → IsKept s → IsActor s.geometry actor → Allowed s.geometry (view_of s actor) a → get_or (flat s.words) (at s.geometry (place_found s actor a)) 0 ≡ word_found s actor a
word_same s actor a k there may = flat-at s.geometry s.words (place_found s actor a) k.sizes (place_there s actor a k (within s actor k there) may)

step_here : (s : State) (actor : ℕ) (a : Action) (n : ℕ) → IsKept s → IsActor s.geometry actor → Allowed s.geometry (view_of s actor) a → n ≡ get_or (flat s.words) (at s.geometry (place_found s actor a)) 0 → IsStep s (event_made actor a (reply_of (change_made s actor a) n))
step_here s actor a n k there may is = record {
  actor = there;
  allowed = may;
  reply = ap (reply_of (change_made s actor a)) (is ∙ word_same s actor a k there may);
}

words_here : (s : State) (actor : ℕ) (a : Action) → IsKept s → IsActor s.geometry actor → Allowed s.geometry (view_of s actor) a → set (flat s.words) (at s.geometry (place_found s actor a)) (changed (change_made s actor a) (get_or (flat s.words) (at s.geometry (place_found s actor a)) 0)) ≡ flat (step s actor a).words
words_here s actor a k there may =
    let here = place_there s actor a k (within s actor k there) may in
    ap (λ n. set (flat s.words) (at s.geometry (place_found s actor a)) (changed (change_made s actor a) n)) (word_same s actor a k there may) ∙ sym (flat-with s.geometry s.words (place_found s actor a) (changed (change_made s actor a) (word_found s actor a)) k.sizes here) ∙ ap flat (sym (exchanged-with_word s.geometry s.words (place_found s actor a) (change_made s actor a)))

-- The same, of a geometry and a view that are known to be those of the state.

pub step_made : (g : Geometry) (s : State) (actor : ℕ) (v : View) (a : Action) (n : ℕ) → s.geometry ≡ g → view_of s actor ≡ v → IsKept s → IsActor g actor → Allowed g v a → n ≡ get_or (flat s.words) (at g (where_of g v a)) 0 → IsStep s (event_made actor a (reply_of (change_of g v a) n))
step_made g s actor v a n machine seen k =
    let Made : Geometry → View → Type 0 = λ g v. IsActor g actor → Allowed g v a → n ≡ get_or (flat s.words) (at g (where_of g v a)) 0 → IsStep s (event_made actor a (reply_of (change_of g v a) n)) in
    let Seen : View → Type 0 = λ v. Made s.geometry v in
    let Machine : Geometry → Type 0 = λ g. Made g v in
    subst Machine machine (subst Seen seen (λ there may is. step_here s actor a n k there may is))

pub words_made : (g : Geometry) (s : State) (actor : ℕ) (v : View) (a : Action) → s.geometry ≡ g → view_of s actor ≡ v → IsKept s → IsActor g actor → Allowed g v a → set (flat s.words) (at g (where_of g v a)) (changed (change_of g v a) (get_or (flat s.words) (at g (where_of g v a)) 0)) ≡ flat (step s actor a).words
words_made g s actor v a machine seen k =
    let Made : Geometry → View → Type 0 = λ g v. IsActor g actor → Allowed g v a → set (flat s.words) (at g (where_of g v a)) (changed (change_of g v a) (get_or (flat s.words) (at g (where_of g v a)) 0)) ≡ flat (step s actor a).words in
    let Seen : View → Type 0 = λ v. Made s.geometry v in
    let Machine : Geometry → Type 0 = λ g. Made g v in
    subst Machine machine (subst Seen seen (λ there may. words_here s actor a k there may))

-- The run with the event at its end.

pub run_more : (g : Geometry) (run : List Event) (e : Event) → IsRun g run → IsStep (state_after g run) e → IsRun g (run ++ e ∷ [])
run_more g run e is made = run_from-more (start g) run e is made

pub state_more : (g : Geometry) (run : List Event) (e : Event) → state_after g (run ++ e ∷ []) ≡ after_event (state_after g run) e
state_more g run e = state_from-more (start g) run e

-- the view of the actor changes by the event
pub view-same : (g : Geometry) (run : List Event) (e : Event) (actor : ℕ) → IsActor g actor → IsRun g run → IsRun g (run ++ e ∷ []) → e.actor ≡ actor → view_of (state_after g (run ++ e ∷ [])) actor ≡ after_of g (view_of (state_after g run) actor) e.action e.reply
view-same g run e actor there before after same =
    view_after-run g (run ++ e ∷ []) actor there after ∙ ap (view_after g (opening g actor)) (own_of-same actor run e same) ∙ view-push g (opening g actor) (own_of actor run) e.action e.reply ∙ ap (λ v. after_of g v e.action e.reply) (sym (view_after-run g run actor there before))

-- that of another stays
pub view-other : (g : Geometry) (run : List Event) (e : Event) (actor : ℕ) → IsActor g actor → IsRun g run → IsRun g (run ++ e ∷ []) → actor ≢ e.actor → view_of (state_after g (run ++ e ∷ [])) actor ≡ view_of (state_after g run) actor
view-other g run e actor there before after away =
    view_after-run g (run ++ e ∷ []) actor there after ∙ ap (view_after g (opening g actor)) (own_of-other actor run e away) ∙ sym (view_after-run g run actor there before)

-- the view of an actor has its number
pub number-run : (g : Geometry) (run : List Event) (actor : ℕ) → IsGeometry g → IsRun g run → IsActor g actor → (view_of (state_after g run) actor).number ≡ actor
number-run g run actor is made there =
    let law : IsLawful g (state_after g run) = lawful_run g run is made in
    let count : length (state_after g run).views ≡ actor_count g = law.kept.actors ∙ ap actor_count law.machine in
    (law.kept.views actor (omega (arith, there, count))).number
