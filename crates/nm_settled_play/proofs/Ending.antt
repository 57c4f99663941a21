-- A run of a schedule ends where every actor has ended, and then it is settled, or where all turns were made.
use Rattle.std.proofs.Common.{◌≡◌, ℕ, zero, suc, ◌+◌, ◌<◌, Bool, true, false, not, cond, List, [], ◌∷◌, length, get_or, Option, Some, refl, sym, ap, subst, inl, inr, ◌∙◌, arith}
use Rattle.std.specs.List.{filter, range_with_len}
use Rattle.std.proofs.lemmas.Bool.{true≢false}
use Rattle.std.proofs.lemmas.List.{length-map}
use Rattle.std.proofs.lemmas.List.FromFn.{length-range_with_len, get_or-range_with_len}
use Rattle.nm_base.specs.Geometry.{Geometry, IsGeometry}
use Rattle.nm_action.specs.declared.action.Event.{Event}
use Rattle.nm_action.specs.declared.turn.Turn.{Turn}
use Rattle.nm_action.specs.declared.turn.Turn.TheVariants.{Do, Put, Take, End}
use Rattle.nm_view.specs.Views.{View}
use Rattle.nm_view.specs.Opening.{IsActor}
use Rattle.nm_core.specs.Roles.{IsSettled}
use Rattle.nm_core.specs.Runs.{IsRun, state_after}
use Rattle.nm_core.specs.State.{State, view_of, actor_count}
use Rattle.nm_core.proofs.Owns.{view_after-run}
use Rattle.nm_actor.specs.Turns.{Turns}
use Rattle.nm_script.specs.declared.schedule.Schedule.{Schedule}
use Rattle.nm_schedule.specs.declared.turn.Played.{Played}
use Rattle.nm_schedule.specs.declared.turn.SimTurn.{SimTurn}
use Rattle.nm_schedule.specs.Played.{turns_by, has_ended, active_actors, events_of, sim_turn}
use Rattle.nm_schedule.specs.Picks.{most_turns}
use Rattle.nm_play.specs.Played.{is_end, HasPlayed, IsRunOf}
use Rattle.nm_play.proofs.Own.{view-of-turns}
use Rattle.nm_runs.proofs.EachRun.{lawful_run}
use Rattle.nm_settled.specs.Ended.{IsEndedView, HaveEndedViews, HasNoMark}
use Rattle.nm_settled.proofs.Settling.{settled-run}
use Rattle.nm_settled_play.specs.EndedTurns.{HaveEndedTurns, LeaveEndedViews, HaveGivenEnd, LeaveNoMark}

-- the views of a state are those of the turns that led to it
ended-views : (g : Geometry) (played : List Played) → IsGeometry g → IsRun g (events_of played) → HaveEndedTurns g played → HaveEndedViews (state_after g (events_of played))
ended-views g played is run ended =
    let s : State = state_after g (events_of played) in
    let H : Geometry → Type 0 = λ n. (actor : ℕ) → IsActor n actor → IsEndedView n actor (view_of s actor) in
    subst H (sym (lawful_run g (events_of played) is run).machine) (λ actor there.
    let V : View → Type 0 = λ v. IsEndedView g actor v in
    subst V (sym (view-of-turns g s played actor view_after-run there run refl)) (ended actor there))

pub settled-turns : (g : Geometry) (played : List Played) → IsGeometry g → IsRun g (events_of played) → HaveEndedTurns g played → HasNoMark (state_after g (events_of played)) → IsSettled (state_after g (events_of played))
settled-turns g played is run ended unmarked = settled-run g (events_of played) is run (ended-views g played is run ended) unmarked

-- ---- which actors have ended

not-kept : {A : Type 0} (b : Bool) (x : A) (rest : List A) → cond b (x ∷ rest) rest ≡ [] → (b ≡ false) × (rest ≡ [])
not-kept true x rest none = cc
not-kept false x rest none = (refl, none)

-- where a test keeps no element of a list it fails at each
none-kept : (p : ℕ → Bool) (xs : List ℕ) (i : ℕ) → filter p xs ≡ [] → i < length xs → p (get_or xs i 0) ≡ false
none-kept p [] i none there = absurd (omega (arith, there))
none-kept p (x ∷ xs) zero none there = (not-kept (p x) x (filter p xs) none).0
none-kept p (x ∷ xs) (suc i) none there = none-kept p xs i (not-kept (p x) x (filter p xs) none).1 (omega (arith, there))

not-false : (b : Bool) → not b ≡ false → b ≡ true
not-false true h = refl
not-false false h = absurd (true≢false h)

pub all-ended : (actors : ℕ) (played : List Played) → active_actors actors played ≡ [] → (a : ℕ) → a < actors → has_ended played a ≡ true
all-ended actors played none a there =
    let p : ℕ → Bool = λ b. not (has_ended played b) in
    let there_too : a < length (range_with_len 0 actors) = subst (λ (n : ℕ). a < n) (sym (length-range_with_len 0 actors)) there in
    let fails : p (get_or (range_with_len 0 actors) a 0) ≡ false = none-kept p (range_with_len 0 actors) a none there_too in
    let zero_more : 0 + a ≡ a = omega arith in
    not-false (has_ended played a) (sym (ap p (get_or-range_with_len 0 actors a 0 there ∙ zero_more)) ∙ fails)

-- an actor that has ended has given End
end-given : (turn : Turn) → is_end turn ≡ true → turn ≡ End
end-given (Do action) h = absurd (true≢false (sym h))
end-given (Put lane page) h = absurd (true≢false (sym h))
end-given (Take lane) h = absurd (true≢false (sym h))
end-given End h = refl

given-end : (g : Geometry) (agrees : Turns → Option Turn → Type 0) (played : List Played) (actor : ℕ) → HasPlayed g agrees played actor → has_ended played actor ≡ true → agrees (turns_by actor played) (Some End)
given-end g agrees played actor h ended =
    let A : Turn → Type 0 = λ t. agrees (turns_by actor played) (Some t) in
    subst A (end-given h.last (sym h.given.ended ∙ ended)) h.given.next.agreed

-- ---- runs of a schedule

pub settled-schedule : (g : Geometry) (schedule : Schedule) (agrees : ℕ → Turns → Option Turn → Type 0) (state : State) (events : List Event) (order : List SimTurn)
    → IsGeometry g → LeaveEndedViews g agrees → LeaveNoMark g schedule agrees
    → (run : IsRunOf g schedule agrees state events order) → active_actors (actor_count g) run.played ≡ [] → IsSettled state
settled-schedule g schedule agrees state events order is views marks run none =
    let R : List Event → Type 0 = λ l. IsRun g l in
    let lasts : IsRun g (events_of run.played) = subst R run.listed run.run in
    let given : HaveGivenEnd g agrees run.played = λ actor there. given-end g (agrees actor) run.played actor (run.actors actor there) (all-ended (actor_count g) run.played none actor there) in
    let ended : HaveEndedTurns g run.played = λ actor there. views actor (turns_by actor run.played) there (given actor there) in
    subst IsSettled (sym (run.reached ∙ ap (λ (l : List Event). state_after g l) run.listed))
    (settled-turns g run.played is lasts ended (marks run.played run.scheduled lasts given))

pub unsettled-schedule : (g : Geometry) (schedule : Schedule) (agrees : ℕ → Turns → Option Turn → Type 0) (state : State) (events : List Event) (order : List SimTurn)
    → IsGeometry g → LeaveEndedViews g agrees → LeaveNoMark g schedule agrees
    → IsRunOf g schedule agrees state events order → ¬ IsSettled state → length order ≡ most_turns schedule
unsettled-schedule g schedule agrees state events order is views marks run unsettled = elim run.scheduled.stops [
  | inl none ↦ absurd (unsettled (settled-schedule g schedule agrees state events order is views marks run none))
  | inr many ↦ ap (λ (l : List SimTurn). length l) run.ordered ∙ length-map run.played sim_turn ∙ many
]
