-- A list of events is followed: one step more, and the first event that is no step.
use Rattle.std.proofs.Common.{◌≡◌, ◌≤◌, ◌+◌, ℕ, List, [], ◌∷◌, ◌++◌, length, ◌<◌, ◌↔◌, ◌∙◌, take, drop, get_or, suc, refl, sym, ap, subst, arith}
use Rattle.std.proofs.lemmas.List.{take-append-drop, length-take-le}
use Rattle.std.proofs.Math.Seq.{drop-cons}
use Rattle.std.proofs.lemmas.List.{take_more}
use Rattle.nm_base.specs.Geometry.{Geometry}
use Rattle.nm_action.specs.declared.action.Action.TheVariants.{Load}
use Rattle.nm_action.specs.declared.action.Event.{Event}
use Rattle.nm_action.specs.declared.action.Reply.TheVariants.{Done}
use Rattle.nm_core.specs.Runs.{IsStep, IsRun, IsRunFrom, after_event, state_from, state_after}
use Rattle.nm_core.specs.State.{State, start}
use Rattle.nm_runs.proofs.Longer.{state_from-more, run_from-more}
use Rattle.nm_laws.specs.Lists.{IsFirstFailure}
use Rattle.nm_laws.specs.declared.lists.RunEnd.TheVariants.{Whole, Fails}

-- what is read beyond the end of a list
abbrev pub no_event : Event
no_event = record { actor = 0; action = Load 0 0; reply = Done }

-- no event changes the geometry
pub geometry-from : (s : State) (events : List Event) → (state_from s events).geometry ≡ s.geometry
geometry-from s [] = refl
geometry-from s (e ∷ events) = geometry-from (after_event s e) events

-- each event of a run is a step
pub step_in_run : (s : State) (front : List Event) (e : Event) (rest : List Event) → IsRunFrom s (front ++ e ∷ rest) → IsStep (state_from s front) e
step_in_run s [] e rest run = run.0
step_in_run s (x ∷ front) e rest run = step_in_run (after_event s x) front e rest run.1

-- two events of a list that are the first that is no step have one number
pub one_failure : (s : State) (front other : List Event) (e f : Event) (rest tail : List Event) → front ++ e ∷ rest ≡ other ++ f ∷ tail → IsRunFrom s front → IsRunFrom s other → ¬ IsStep (state_from s front) e → ¬ IsStep (state_from s other) f → length front ≡ length other
one_failure s [] [] e f rest tail same run also not nor = refl
one_failure s [] (x ∷ other) e f rest tail same run also not nor =
    let head : x ≡ e = cc in
    elim (not (subst (IsStep s) head also.0)) [ ]
one_failure s (x ∷ front) [] e f rest tail same run also not nor =
    let head : x ≡ f = cc in
    elim (nor (subst (IsStep s) head run.0)) [ ]
one_failure s (x ∷ front) (y ∷ other) e f rest tail same run also not nor =
    let head : y ≡ x = cc in
    let after : front ++ e ∷ rest ≡ other ++ f ∷ tail = cc in
    let Run : Event → Type 0 = λ z. IsRunFrom (after_event s z) other in
    let Not : Event → Type 0 = λ z. ¬ IsStep (state_from (after_event s z) other) f in
    ap suc (one_failure (after_event s x) front other e f rest tail after run.1 (subst Run head also.1) not (subst Not head nor))

-- a run has no event that is no step
pub no_failure : (g : Geometry) (events : List Event) (i : ℕ) → IsRun g events → ¬ IsFirstFailure g events i
no_failure g events i run = λ h. h.fails (step_in_run (start g) h.front h.event h.rest (subst (IsRun g) h.list run))

-- the number of the first event that is no step
pub same_failure : (g : Geometry) (events : List Event) (i j : ℕ) → IsFirstFailure g events i → IsFirstFailure g events j → i ≡ j
same_failure g events i j h k =
    let same : h.front ++ h.event ∷ h.rest ≡ k.front ++ k.event ∷ k.rest = sym h.list ∙ k.list in
    h.number ∙ one_failure (start g) h.front k.front h.event k.event h.rest k.rest same h.run k.run h.fails k.fails ∙ sym k.number

-- an event of a list that is no step after those before it, which are a run, is the first that is none
pub failure_at : (g : Geometry) (events : List Event) (n : ℕ) (d : Event) → n < length events → IsRun g (take n events) → ¬ IsStep (state_after g (take n events)) (get_or events n d) → IsFirstFailure g events n
failure_at g events n d lt run fails = record {
  front = take n events;
  event = get_or events n d;
  rest = drop (suc n) events;
  list = sym (ap (λ t. take n events ++ t) (sym (drop-cons events n d lt)) ∙ take-append-drop n events);
  number = sym (length-take-le n events (omega (arith, lt)));
  run = run;
  fails = fails;
}

apart : (s : State) (i : ℕ) → Whole s ≡ Fails i → ⊥
apart s i h = cc

-- what the end of a run says
pub whole_whole : (g : Geometry) (events : List Event) (last : State) → IsRun g events → last ≡ state_after g events → (s : State) → (Whole last ≡ Whole s) ↔ (IsRun g events × (s ≡ state_after g events))
whole_whole g events last run is s = (λ h. (run, cc), λ h. let after = h.1 in cc)

pub whole_fails : (g : Geometry) (events : List Event) (last : State) → IsRun g events → (i : ℕ) → (Whole last ≡ Fails i) ↔ IsFirstFailure g events i
whole_fails g events last run i = (λ h. elim (apart last i h) [ ], λ h. elim (no_failure g events i run h) [ ])

-- what the end of another list says
pub fails_whole : (g : Geometry) (events : List Event) (n : ℕ) → IsFirstFailure g events n → (s : State) → (Fails n ≡ Whole s) ↔ (IsRun g events × (s ≡ state_after g events))
fails_whole g events n first s = (λ h. elim (apart s n (sym h)) [ ], λ h. elim (no_failure g events n h.0 first) [ ])

pub fails_fails : (g : Geometry) (events : List Event) (n : ℕ) → IsFirstFailure g events n → (i : ℕ) → (Fails n ≡ Fails i) ↔ IsFirstFailure g events i
fails_fails g events n first i = (λ h. let same : n ≡ i = cc in subst (IsFirstFailure g events) same first, λ h. ap Fails (same_failure g events n i first h))

-- one event more was followed
pub state-more : (g : Geometry) (events : List Event) (n : ℕ) (d : Event) (s new : State) → n < length events → s ≡ state_after g (take n events) → new ≡ after_event s (get_or events n d) → new ≡ state_after g (take (n + 1) events)
state-more g events n d s new lt is made =
    let At : State → Type 0 = λ t. new ≡ after_event t (get_or events n d) in
    subst At is made ∙ sym (ap (state_after g) (take_more events n d lt) ∙ state_from-more (start g) (take n events) (get_or events n d))

pub run-more : (g : Geometry) (events : List Event) (n : ℕ) (d : Event) (s : State) → n < length events → s ≡ state_after g (take n events) → IsRun g (take n events) → IsStep s (get_or events n d) → IsRun g (take (n + 1) events)
run-more g events n d s lt is run made =
    let At : State → Type 0 = λ t. IsStep t (get_or events n d) in
    subst (IsRun g) (sym (take_more events n d lt)) (run_from-more (start g) (take n events) (get_or events n d) run (subst At is made))

-- the geometry of a state that was reached
pub geometry-reached : (g : Geometry) (events : List Event) (s : State) → s ≡ state_after g events → s.geometry ≡ g
geometry-reached g events s is = ap (λ t. t.geometry) is ∙ geometry-from (start g) events

-- the event that comes next is no step of the state that was reached
pub next_fails : (g : Geometry) (events : List Event) (n number : ℕ) (d : Event) (s : State) → n < length events → number ≡ n → s ≡ state_after g (take n events) → IsRun g (take n events) → ¬ IsStep s (get_or events n d) → IsFirstFailure g events number
next_fails g events n number d s lt count is run fails =
    let At : State → Type 0 = λ t. IsStep t (get_or events n d) in
    subst (IsFirstFailure g events) (sym count) (failure_at g events n d lt run (λ made. fails (subst At (sym is) made)))

-- an event whose actor does not exist is no step
pub no_actor : (g : Geometry) (s : State) (e : Event) → s.geometry ≡ g → g.cpus + 2 ≤ e.actor → ¬ IsStep s e
no_actor g s e same outside made =
    let there : e.actor < s.geometry.cpus + 2 = made.actor in
    let cpus : s.geometry.cpus ≡ g.cpus = ap (λ n. n.cpus) same in
    omega (arith, there, cpus, outside)
