-- What the actors of a crew agree with at the end of a run, and that they may start.
use Rattle.std.proofs.Common.{◌≡◌, ◌<◌, ◌+◌, ℕ, zero, suc, List, [], ◌∷◌, length, map, get_or, Some, None, refl, sym, ap, subst, ◌∙◌, arith}
use Rattle.std.proofs.lemmas.List.{length-map}
use Rattle.nm_base.specs.Geometry.{Geometry, IsGeometry}
use Rattle.nm_action.specs.declared.action.Event.{Event}
use Rattle.nm_action.specs.declared.turn.Turn.TheVariants.{End}
use Rattle.nm_view.specs.Opening.{IsActor}
use Rattle.nm_core.specs.State.{State}
use Rattle.nm_core.specs.EndWords.{EndWords, IsEndOf}
use Rattle.nm_script.specs.declared.schedule.Schedule.{Schedule}
use Rattle.nm_script.specs.Script.{IsSchedule}
use Rattle.nm_schedule.specs.declared.turn.Played.{Played}
use Rattle.nm_schedule.specs.declared.turn.SimTurn.{SimTurn}
use Rattle.nm_schedule.specs.Played.{sim_turn, turns_by}
use Rattle.nm_play.specs.Crews.{AtActor}
use Rattle.nm_play.specs.Played.{HasPlayed, IsRunOf, IsWatchedRun}
use Rattle.nm_play.proofs.Members.{Kind, Says, machine_of, Agrees, at-cpu, at-migrator, at-reclaimer, at-never}
use Rattle.nm_crew.specs.Crewed.{AtEach, IsAgreedAt, IsCrewRun, IsWatchedCrewRun}
use Rattle.nm_crew.proofs.Simulating.{simulated-of}

-- ---- at the beginning

place-at : {C : Type 0} (cpu : C → Type 0) (m r : Type 0) (cpus : List C) (actor : ℕ) → ((d : C) → actor < length cpus → cpu (get_or cpus actor d)) → (actor ≡ length cpus → m) → (actor ≡ length cpus + 1 → r) → actor < length cpus + 2 → AtActor cpu m r cpus actor
place-at cpu m r [] zero fc fm fr lt = fm refl
place-at cpu m r [] (suc zero) fc fm fr lt = fr (omega arith)
place-at cpu m r [] (suc (suc actor)) fc fm fr lt = absurd (omega (arith, lt))
place-at cpu m r (c ∷ cpus) zero fc fm fr lt = fc c (omega arith)
place-at cpu m r (c ∷ cpus) (suc actor) fc fm fr lt = place-at cpu m r cpus actor (λ d l. fc d (omega (arith, l))) (λ e. fm (omega (arith, e))) (λ e. fr (omega (arith, e))) (omega (arith, lt))

-- each actor is to hear Start
pub opens-all : {C CMade M MMade R RMade : Type 0} (kc : Kind C CMade) (km : Kind M MMade) (kr : Kind R RMade) (g : Geometry) (cpus : List C) (m : M) (r : R)
    → length cpus ≡ g.cpus → AtEach (λ cpu c. Says kc c g cpu [] None) cpus → Says km m g g.cpus [] None → Says kr r g (g.cpus + 1) [] None
    → (actor : ℕ) → IsActor g actor → Agrees kc km kr cpus m r actor [] None
opens-all kc km kr g cpus m r many each migrator reclaimer actor there =
    let At : Geometry → Type 0 = λ k. AtActor (λ c. Says kc c k actor [] None) (Says km m k actor [] None) (Says kr r k actor [] None) cpus actor in
    let SaysM : ℕ → Type 0 = λ a. Says km m g a [] None in
    let SaysR : ℕ → Type 0 = λ a. Says kr r g a [] None in
    subst At (sym migrator.machine) (place-at (λ c. Says kc c g actor [] None) (Says km m g actor [] None) (Says kr r g actor [] None) cpus actor
    (λ d lt. each actor d lt)
    (λ e. (let a : g.cpus ≡ actor = omega (arith, e, many) in subst SaysM a migrator))
    (λ e. (let a : g.cpus + 1 ≡ actor = omega (arith, e, many) in subst SaysR a reclaimer))
    (omega (arith, there, many)))

-- no actor ends at once
pub acts-all : {C CMade M MMade R RMade : Type 0} (kc : Kind C CMade) (km : Kind M MMade) (kr : Kind R RMade) (cpus : List C) (m : M) (r : R) (actor : ℕ)
    → ((c : C) → ¬ kc.agrees c [] (Some End)) → ((x : M) → ¬ km.agrees x [] (Some End)) → ((x : R) → ¬ kr.agrees x [] (Some End)) → ¬ Agrees kc km kr cpus m r actor [] (Some End)
acts-all kc km kr cpus m r actor fc fm fr h =
    let g = machine_of km m in
    at-never (λ c. Says kc c g actor [] (Some End)) (Says km m g actor [] (Some End)) (Says kr r g actor [] (Some End)) cpus actor (λ c k. fc c k.agreed) (λ k. fm m k.agreed) (λ k. fr r k.agreed) h

-- ---- at the end

-- every actor has played
abbrev pub AllPlayed : {C CMade M MMade R RMade : Type 0} → Kind C CMade → Kind M MMade → Kind R RMade → Geometry → List Played → List C → M → R → Type 0
AllPlayed kc km kr g played cpus m r = (actor : ℕ) → IsActor g actor → HasPlayed g (Agrees kc km kr cpus m r actor) played actor

pub each-played : {C CMade M MMade R RMade : Type 0} (kc : Kind C CMade) (km : Kind M MMade) (kr : Kind R RMade) (g : Geometry) (played : List Played) (cpus : List C) (m : M) (r : R)
    → length cpus ≡ g.cpus → AllPlayed kc km kr g played cpus m r → AtEach (λ cpu c. IsAgreedAt (kc.agrees c) played cpu) cpus
each-played kc km kr g played cpus m r many all cpu d lt =
    let h = all cpu (omega (arith, lt, many)) in
    let turns = turns_by cpu played in
    let machine = machine_of km m in
    record {
      last = h.last;
      agreed = (at-cpu (λ c. Says kc c machine cpu turns (Some h.last)) (Says km m machine cpu turns (Some h.last)) (Says kr r machine cpu turns (Some h.last)) cpus cpu d lt h.given.next.agreed).agreed;
      given = h.given.ended;
    }

pub migrator-played : {C CMade M MMade R RMade : Type 0} (kc : Kind C CMade) (km : Kind M MMade) (kr : Kind R RMade) (g : Geometry) (played : List Played) (cpus : List C) (m : M) (r : R)
    → length cpus ≡ g.cpus → AllPlayed kc km kr g played cpus m r → IsAgreedAt (km.agrees m) played g.cpus
migrator-played kc km kr g played cpus m r many all =
    let actor = g.cpus in
    let h = all actor (omega arith) in
    let turns = turns_by actor played in
    let machine = machine_of km m in
    record {
      last = h.last;
      agreed = (at-migrator (λ c. Says kc c machine actor turns (Some h.last)) (Says km m machine actor turns (Some h.last)) (Says kr r machine actor turns (Some h.last)) cpus actor (sym many) h.given.next.agreed).agreed;
      given = h.given.ended;
    }

pub reclaimer-played : {C CMade M MMade R RMade : Type 0} (kc : Kind C CMade) (km : Kind M MMade) (kr : Kind R RMade) (g : Geometry) (played : List Played) (cpus : List C) (m : M) (r : R)
    → length cpus ≡ g.cpus → AllPlayed kc km kr g played cpus m r → IsAgreedAt (kr.agrees r) played (g.cpus + 1)
reclaimer-played kc km kr g played cpus m r many all =
    let actor = g.cpus + 1 in
    let h = all actor (omega arith) in
    let turns = turns_by actor played in
    let machine = machine_of km m in
    let behind : length cpus < actor = omega (arith, many) in
    record {
      last = h.last;
      agreed = (at-reclaimer (λ c. Says kc c machine actor turns (Some h.last)) (Says km m machine actor turns (Some h.last)) (Says kr r machine actor turns (Some h.last)) cpus actor behind h.given.next.agreed).agreed;
      given = h.given.ended;
    }

-- a crew that was made as another has as many processors
pub as-many : {C CMade : Type 0} (made : C → CMade) (before after : List C) (n : ℕ) → map made after ≡ map made before → length before ≡ n → length after ≡ n
as-many made before after n same many = sym (length-map after made) ∙ ap length same ∙ length-map before made ∙ many

-- the run of a crew
pub crew-run : {C CMade M MMade R RMade : Type 0} (kc : Kind C CMade) (km : Kind M MMade) (kr : Kind R RMade) (g : Geometry) (schedule : Schedule) (cpus : List C) (m : M) (r : R) (state : State) (events : List Event) (order : List SimTurn) (turns : ℕ) (end : EndWords)
    → length cpus ≡ g.cpus → IsGeometry g → IsSchedule g.cpus schedule → (run : IsRunOf g schedule (Agrees kc km kr cpus m r) state events order)
    → turns ≡ length order → IsEndOf state end
    → IsCrewRun kc.agrees (km.agrees m) (kr.agrees r) g schedule cpus events order turns end
crew-run kc km kr g schedule cpus m r state events order turns end many is says run are-many ends = record {
  played = run.played;
  simulated = simulated-of g schedule state events order turns end run.played is run.scheduled run.listed run.ordered run.run run.reached are-many ends;
  many = many;
  each = each-played kc km kr g run.played cpus m r many run.actors;
  migrator = migrator-played kc km kr g run.played cpus m r many run.actors;
  reclaimer = reclaimer-played kc km kr g run.played cpus m r many run.actors;
}

-- the run of a crew that was watched
pub watched-run : {C CMade M MMade R RMade : Type 0} (kc : Kind C CMade) (km : Kind M MMade) (kr : Kind R RMade) (g : Geometry) (schedule : Schedule) (cpus : List C) (m : M) (r : R) (state : State) (kept : List Played → Type 0) (turns : ℕ) (end : EndWords)
    → length cpus ≡ g.cpus → IsGeometry g → IsSchedule g.cpus schedule → (run : IsWatchedRun g schedule (Agrees kc km kr cpus m r) state kept turns) → IsEndOf state end
    → IsWatchedCrewRun kc.agrees (km.agrees m) (kr.agrees r) g schedule cpus kept turns end
unfolding crew-run
watched-run kc km kr g schedule cpus m r state kept turns end many is says run ends = record {
  events = run.events;
  order = run.order;
  run = crew-run kc km kr g schedule cpus m r state run.events run.order turns end many is says run.run (run.many ∙ sym (ap length run.run.ordered ∙ length-map run.run.played sim_turn)) ends;
  told = run.told;
}
