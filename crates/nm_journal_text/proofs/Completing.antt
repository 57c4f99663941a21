-- A run whose accesses follow the programs so far can be completed: each processor takes its acknowledgement of the end back.
use Rattle.std.proofs.Common.{◌≡◌, ◌≢◌, ℕ, zero, suc, ◌+◌, ◌<◌, ◌≤◌, ◌==◌, Bool, true, false, List, [], ◌∷◌, ◌++◌, length, get_or, set, Option, None, codes, refl, sym, ap, ◌∙◌, subst, arith, append_assoc, append-nil, get_or-set_same, get_or-set_other, eq-eqb}
use Rattle.std.proofs.lemmas.Bool.{eqb-true}
use Rattle.std.specs.List.{AllByRecursion, filter_map}
use Rattle.std.proofs.lemmas.List.Elements.{filter_map-append}
use Rattle.nm_base.specs.Geometry.{Geometry, IsGeometry}
use Rattle.nm_flat.specs.declared.access.Access.{Access}
use Rattle.nm_flat.specs.Memory.{own_part_of}
use Rattle.nm_action.specs.declared.action.AckTo.TheVariants.{Off}
use Rattle.nm_action.specs.declared.action.Action.TheVariants.{Ack}
use Rattle.nm_action.specs.declared.action.Reply.TheVariants.{Done}
use Rattle.nm_action.specs.declared.action.Event.{Event}
use Rattle.nm_view.specs.Views.{off_word, end_word}
use Rattle.nm_core.specs.State.{State, view_of}
use Rattle.nm_core.specs.Runs.{IsStep, IsRun, access_of, accesses_of, after_event, state_after}
use Rattle.nm_runs.proofs.EachRun.{lawful_run}
use Rattle.nm_runs.proofs.Longer.{state_from-more, run_from-more}
use Rattle.nm_core.specs.State as core
use Rattle.nm_event_text.specs.Events.{FitsEvent}
use Rattle.nm_journal_text.specs.Journals.{has_ended_in}

-- processor p acknowledges that it is off
off_event : ℕ → Event
off_event p = record { actor = p; action = Ack Off; reply = Done }

-- the first n processors do, after a list of events
pub with_offs : List Event → ℕ → List Event
with_offs events zero = events
with_offs events (suc n) = with_offs events n ++ off_event n ∷ []

pub record IsCompleted (g : Geometry) (events : List Event) (n : ℕ) : Type 0 where
  pub run : IsRun g (with_offs events n)
  pub off : (p : ℕ) → p < n → has_ended_in (state_after g (with_offs events n)) p ≡ false

off_step : (g : Geometry) (events : List Event) (n : ℕ) → IsGeometry g → IsRun g events → n < g.cpus → IsStep (state_after g events) (off_event n)
unfolding off_event
off_step g events n is run lt =
    let s = state_after g events in
    let law = lawful_run g events is run in
    let same : s.geometry.cpus ≡ g.cpus = ap (λ m. m.cpus) law.machine in
    let there : n < length s.views = omega (arith, law.kept.actors, same, lt) in
    let view = law.kept.views n there in
    record {
      actor = omega (arith, same, lt);
      allowed = record { range = tt; permitted = record { processor = omega (arith, view.number, same, lt); polled = tt } };
      reply = refl;
    }

ack_set : (xs : List ℕ) (n k p : ℕ) → k ≡ n → n < length xs → ((q : ℕ) → q < n → (get_or xs q 0 == end_word) ≡ false) → p < suc n → (get_or (set xs k off_word) p 0 == end_word) ≡ false
ack_set xs n k p same lt before within = go (p == n) refl
  where
    off_is : (m : ℕ) → m ≡ off_word → (m == end_word) ≡ false
    off_is m e = rw e refl

    go : (b : Bool) → (p == n) ≡ b → (get_or (set xs k off_word) p 0 == end_word) ≡ false
    go true e =
        let here : p ≡ n = eqb-true p n e in
        let at : k ≡ p = same ∙ sym here in
        let there : k < length xs = omega (arith, same, lt) in
        let word : get_or (set xs k off_word) k 0 ≡ off_word = grind (arith, get_or-set_same) in
        off_is (get_or (set xs k off_word) p 0) (subst (λ q. get_or (set xs k off_word) q 0 ≡ off_word) at word)
    go false e =
        let other : p ≢ n = λ s. let hit : (p == n) ≡ true = eq-eqb p n s in cc in
        let apart : p ≢ k = omega (arith, other, same) in
        let word : get_or (set xs k off_word) p 0 ≡ get_or xs p 0 = grind (arith, get_or-set_other) in
        rw word (before p (omega (arith, within, other)))

off_state : (g : Geometry) (events : List Event) (n : ℕ) → IsGeometry g → IsRun g events → n < g.cpus → ((p : ℕ) → p < n → has_ended_in (state_after g events) p ≡ false)
    → (p : ℕ) → p < suc n → has_ended_in (state_after g (events ++ off_event n ∷ [])) p ≡ false
unfolding off_event
off_state g events n is run lt before p within =
    let s = state_after g events in
    let law = lawful_run g events is run in
    let same : s.geometry.cpus ≡ g.cpus = ap (λ m. m.cpus) law.machine in
    let there : n < length s.views = omega (arith, law.kept.actors, same, lt) in
    let number = (law.kept.views n there).number in
    let acks : length s.words.ack ≡ s.geometry.cpus = law.kept.sizes.ack in
    ap (λ t. has_ended_in t p) (state_from-more (core.start g) events (off_event n)) ∙ ack_set s.words.ack n (view_of s n).number p number (omega (arith, acks, same, lt)) before within

-- each processor took it back
pub completed : (g : Geometry) (events : List Event) (n : ℕ) → IsGeometry g → IsRun g events → n ≤ g.cpus → IsCompleted g events n
unfolding with_offs
completed g events zero is run most = record { run = run; off = λ p lt. absurd (omega (arith, lt)) }
completed g events (suc n) is run most =
    let before = completed g events n is run (omega (arith, most)) in
    record {
      run = run_from-more (core.start g) (with_offs events n) (off_event n) before.run (off_step g (with_offs events n) n is before.run (omega (arith, most)));
      off = off_state g (with_offs events n) n is before.run (omega (arith, most)) before.off;
    }

-- no access was made
pub offs-accesses : (events : List Event) (n : ℕ) → accesses_of (with_offs events n) ≡ accesses_of events
unfolding with_offs off_event
offs-accesses events zero = refl
offs-accesses events (suc n) = filter_map-append access_of (with_offs events n) (off_event n ∷ []) ∙ append-nil (accesses_of (with_offs events n)) ∙ offs-accesses events n

pub fits-more : (events : List Event) (e : Event) → AllByRecursion FitsEvent events → FitsEvent e → AllByRecursion FitsEvent (events ++ e ∷ [])
fits-more [] e h fits = (fits, tt)
fits-more (x ∷ events) e h fits = (h.0, fits-more events e h.1 fits)

pub offs-fit : (events : List Event) (n : ℕ) → n ≤ 4096 → AllByRecursion FitsEvent events → AllByRecursion FitsEvent (with_offs events n)
unfolding with_offs off_event
offs-fit events zero few h = h
offs-fit events (suc n) few h = fits-more (with_offs events n) (off_event n) (offs-fit events n (omega (arith, few)) h) (record { actor = omega (arith, few); action = tt; reply = tt })

-- the events that are added
pub record IsLonger (events long : List Event) : Type 0 where
  pub more : List Event
  pub is : long ≡ events ++ more

pub longer : (events : List Event) (n : ℕ) → IsLonger events (with_offs events n)
unfolding with_offs off_event
longer events zero = record { more = []; is = sym (append-nil events) }
longer events (suc n) =
    let before = longer events n in
    record { more = before.more ++ off_event n ∷ []; is = ap (λ t. t ++ off_event n ∷ []) before.is ∙ append_assoc events before.more (off_event n ∷ []) }
