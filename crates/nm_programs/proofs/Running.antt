-- The run of a script, by what its actors' parts are.
use Rattle.std.proofs.Common.{◌≡◌, ◌<◌, ◌≤◌, ◌+◌, ◌⊎◌, ℕ, zero, suc, Bool, List, [], ◌∷◌, length, map, get_or, Option, sym, ap, subst, ◌∙◌, inl, inr, arith}
use Rattle.std.specs.List.{filter_map}
use Rattle.std.proofs.lemmas.List.{length-map, get_or-map, get_or_past}
use Rattle.nm_flat.specs.declared.access.Access.{Access}
use Rattle.nm_flat.specs.Memory.{own_part_of}
use Rattle.nm_action.specs.declared.turn.Turn.{Turn}
use Rattle.nm_action.specs.declared.tally.Tally.{Tally}
use Rattle.nm_action.specs.declared.action.Event.{Event}
use Rattle.nm_core.specs.EndWords.{EndWords}
use Rattle.nm_core.specs.Runs.{access_by, accesses_of}
use Rattle.nm_script.specs.declared.schedule.Schedule.{Schedule}
use Rattle.nm_schedule.specs.declared.turn.SimTurn.{SimTurn}
use Rattle.nm_action.specs.declared.action.Action.{Action}
use Rattle.nm_action.specs.Own.{Own}
use Rattle.nm_action.specs.Tally.{sum_of}
use Rattle.nm_view.specs.Views.{View}
use Rattle.nm_base.specs.Geometry.{Geometry}
use Rattle.nm_actor.specs.Turns.{Turns, own_list, turns_view}
use Rattle.nm_fault.specs.Tasks.{FaultBegun}
use Rattle.nm_cpu.specs.declared.actor.Processor.{Processor}
use Rattle.nm_cpu.specs.Agreeing.{FollowsCpu}
use Rattle.nm_script.specs.Plain.{Script}
use Rattle.nm_script.specs.Script.{IsScript}
use Rattle.nm_report.specs.declared.line_result.LineResult.{LineResult}
use Rattle.nm_report.specs.Follows.{FollowsProgram}
use Rattle.nm_report.specs.Texts.{AllFit}
use Rattle.nm_report.proofs.Pieces.{AllFit-made}
use Rattle.nm_schedule.specs.declared.turn.Played.{Played}
use Rattle.nm_schedule.specs.Played.{turns_by, has_ended, events_of}
use Rattle.nm_crew.specs.Crewed.{IsAgreed, IsCrewRun, IsWatchedCrewRun, tally_of, counts_at, crew_tallies}
use Rattle.nm_crew.proofs.Accesses.{accesses-turns}
use Rattle.nm_crew.proofs.Tallies.{tallies-many, counts-cpu, counts-migrator, counts-reclaimer}
use Rattle.nm_cpu_fault.specs.ProcessorFaults.{processor_faults}
use Rattle.nm_cpu.specs.Parts.{IsCpuPart}
use Rattle.nm_cpu_counts.specs.Counting.{processor_tally}
use Rattle.nm_cpu_counts.proofs.Counting.{processor-counts}
use Rattle.nm_programs.specs.Cpus.{program_of, IsCpuMade}
use Rattle.nm_programs.proofs.Playing.{cpu-agreed, cpu-left}
use Rattle.nm_programs.specs.Plain.{SimRun}
use Rattle.nm_programs.specs.Runs.{results_of, IsLeftByCpu, IsCpuRun, IsRunWith, IsWatchedRunWith}

-- a processor's part, what it counted, and that its accesses follow its program
pub record IsCpuDone (script : Script) (cpu : ℕ) (turns : Turns) (ended : Bool) (results : List LineResult) (counts : Tally) : Type 0 where
  pub part : IsCpuPart processor_faults script.geometry cpu (program_of script cpu) turns ended results counts
  pub counted : counts ≡ processor_tally (own_list turns)
  pub follows : FollowsProgram cpu ended (program_of script cpu) results (filter_map (λ e. access_by cpu e.0 e.1) (own_list turns))
  pub left : IsLeftByCpu ended (turns_view script.geometry cpu turns)

-- an element of a list that has one
some-element : {A : Type 0} (list : List A) (i : ℕ) → i < length list → A
some-element [] i lt = absurd (omega (arith, lt))
some-element (a ∷ list) i lt = a

below-or-not : (n m : ℕ) → (n < m) ⊎ (m ≤ n)
below-or-not n zero = inr (omega arith)
below-or-not zero (suc m) = inl (omega arith)
below-or-not (suc n) (suc m) = elim (below-or-not n m) [ inl lt ↦ inl (omega (arith, lt)) | inr le ↦ inr (omega (arith, le)) ]

-- a processor of the run
cpu-run : {C : Type 0} (script : Script) (run : SimRun) (played : List Played) (given : C → List LineResult) (counted : C → Tally) (cpus : List C) (migrator reclaimer : Tally) (cpu : ℕ) (d : C)
    → run.events ≡ events_of played → run.results ≡ map given cpus → cpu < length cpus
    → IsCpuDone script cpu (turns_by cpu played) (has_ended played cpu) (given (get_or cpus cpu d)) (counted (get_or cpus cpu d))
    → IsCpuRun script run played cpu (counts_at (crew_tallies (map counted cpus) migrator reclaimer) cpu)
cpu-run script run played given counted cpus migrator reclaimer cpu d listed results lt done =
    let told : results_of run cpu ≡ given (get_or cpus cpu d) = ap (λ l. get_or l cpu []) results ∙ get_or-map given cpus cpu d [] lt in
    let counts = counts-cpu counted cpus migrator reclaimer cpu d lt in
    let own : own_part_of cpu (accesses_of run.events) ≡ filter_map (λ e. access_by cpu e.0 e.1) (own_list (turns_by cpu played)) = ap (λ l. own_part_of cpu (accesses_of l)) listed ∙ accesses-turns cpu played in
    let PartGiven : List LineResult → Type 0 = λ r. IsCpuPart processor_faults script.geometry cpu (program_of script cpu) (turns_by cpu played) (has_ended played cpu) r (counted (get_or cpus cpu d)) in
    let PartCounted : Tally → Type 0 = λ t. IsCpuPart processor_faults script.geometry cpu (program_of script cpu) (turns_by cpu played) (has_ended played cpu) (results_of run cpu) t in
    let FollowsGiven : List LineResult → Type 0 = λ r. FollowsProgram cpu (has_ended played cpu) (program_of script cpu) r (filter_map (λ e. access_by cpu e.0 e.1) (own_list (turns_by cpu played))) in
    let FollowsOwn : List Access → Type 0 = λ l. FollowsProgram cpu (has_ended played cpu) (program_of script cpu) (results_of run cpu) l in
    record {
      part = subst PartCounted (sym counts) (subst PartGiven (sym told) done.part);
      counted = counts ∙ done.counted;
      follows = subst FollowsOwn (sym own) (subst FollowsGiven (sym told) done.follows);
      left = done.left;
    }

-- each processor's results fit its program
fits : (script : Script) (run : SimRun) (played : List Played) (tally : ℕ → Tally) (n : ℕ) → length run.results ≡ n → ((cpu : ℕ) → cpu < n → IsCpuRun script run played cpu (tally cpu))
    → (cpu : ℕ) → AllFit (program_of script cpu) (results_of run cpu)
fits script run played tally n many each cpu = elim (below-or-not cpu n) [
  | inl lt ↦ (let h = each cpu lt in AllFit-made cpu (program_of script cpu) (results_of run cpu) (own_part_of cpu (accesses_of run.events)) h.follows.pieces)
  | inr past ↦ (
      let Fits : List LineResult → Type 0 = λ r. AllFit (program_of script cpu) r in
      let none : results_of run cpu ≡ [] = get_or_past run.results cpu [] (omega (arith, past, many)) in
      subst Fits (sym none) tt)
]

pub run-of-script : {C : Type 0} (cpu_agrees : C → Turns → Option Turn → Type 0) (migrator_agrees reclaimer_agrees : Turns → Option Turn → Type 0) (migrator_part reclaimer_part : Turns → Bool → Tally → Type 0) (script : Script) (run : SimRun) (cpus : List C) (given : C → List LineResult) (counted : C → Tally) (migrator reclaimer : Tally)
    → IsScript script
    → IsCrewRun cpu_agrees migrator_agrees reclaimer_agrees script.geometry script.schedule cpus run.events run.order run.turns run.end
    → run.results ≡ map given cpus → run.tally ≡ tally_of (crew_tallies (map counted cpus) migrator reclaimer)
    → ((cpu : ℕ) (d : C) (turns : Turns) (ended : Bool) → cpu < length cpus → IsAgreed (cpu_agrees (get_or cpus cpu d)) turns ended → IsCpuDone script cpu turns ended (given (get_or cpus cpu d)) (counted (get_or cpus cpu d)))
    → ((turns : Turns) (ended : Bool) → IsAgreed migrator_agrees turns ended → migrator_part turns ended migrator)
    → ((turns : Turns) (ended : Bool) → IsAgreed reclaimer_agrees turns ended → reclaimer_part turns ended reclaimer)
    → IsRunWith migrator_part reclaimer_part script run
run-of-script cpu_agrees migrator_agrees reclaimer_agrees migrator_part reclaimer_part script run cpus given counted migrator reclaimer is crew results tally cpu-done migrator-part reclaimer-part =
    let n = script.geometry.cpus in
    let played = crew.played in
    let tallies = crew_tallies (map counted cpus) migrator reclaimer in
    let many : length (map counted cpus) ≡ n = length-map cpus counted ∙ crew.many in
    let results-many : length run.results ≡ n = ap length results ∙ length-map cpus given ∙ crew.many in
    let each : (cpu : ℕ) → cpu < n → IsCpuRun script run played cpu (counts_at tallies cpu) = λ cpu lt. (
    let there : cpu < length cpus = omega (arith, lt, crew.many) in
    let d = some-element cpus cpu there in
    cpu-run script run played given counted cpus migrator reclaimer cpu d crew.simulated.listed results there (cpu-done cpu d (turns_by cpu played) (has_ended played cpu) there (crew.each cpu d there))) in
    let Migrator : Tally → Type 0 = λ t. migrator_part (turns_by n played) (has_ended played n) t in
    let Reclaimer : Tally → Type 0 = λ t. reclaimer_part (turns_by (n + 1) played) (has_ended played (n + 1)) t in
    record {
      played = played;
      tallies = tallies;
      simulated = crew.simulated;
      actors = tallies-many (map counted cpus) migrator reclaimer n many;
      cpus = each;
      migrator = subst Migrator (sym (counts-migrator (map counted cpus) migrator reclaimer n many)) (migrator-part (turns_by n played) (has_ended played n) crew.migrator);
      reclaimer = subst Reclaimer (sym (counts-reclaimer (map counted cpus) migrator reclaimer n many)) (reclaimer-part (turns_by (n + 1) played) (has_ended played (n + 1)) crew.reclaimer);
      tally = tally;
      printable = record {
        programs = is.programs;
        results = results-many;
        fits = fits script run played (λ cpu. counts_at tallies cpu) n results-many each;
        room = crew.simulated.room;
        names = crew.simulated.names;
      };
    }

-- the run of a script that was watched
pub watched-of-script : {C : Type 0} (cpu_agrees : C → Turns → Option Turn → Type 0) (migrator_agrees reclaimer_agrees : Turns → Option Turn → Type 0) (migrator_part reclaimer_part : Turns → Bool → Tally → Type 0) (script : Script) (kept : List Played → Type 0) (results : List (List LineResult)) (end : EndWords) (tally : Tally) (turns : ℕ) (cpus : List C) (given : C → List LineResult) (counted : C → Tally) (migrator reclaimer : Tally)
    → IsScript script
    → IsWatchedCrewRun cpu_agrees migrator_agrees reclaimer_agrees script.geometry script.schedule cpus kept turns end
    → results ≡ map given cpus → tally ≡ tally_of (crew_tallies (map counted cpus) migrator reclaimer)
    → ((cpu : ℕ) (d : C) (turns : Turns) (ended : Bool) → cpu < length cpus → IsAgreed (cpu_agrees (get_or cpus cpu d)) turns ended → IsCpuDone script cpu turns ended (given (get_or cpus cpu d)) (counted (get_or cpus cpu d)))
    → ((turns : Turns) (ended : Bool) → IsAgreed migrator_agrees turns ended → migrator_part turns ended migrator)
    → ((turns : Turns) (ended : Bool) → IsAgreed reclaimer_agrees turns ended → reclaimer_part turns ended reclaimer)
    → IsWatchedRunWith migrator_part reclaimer_part script kept results end tally turns
unfolding run-of-script
watched-of-script cpu_agrees migrator_agrees reclaimer_agrees migrator_part reclaimer_part script kept results end tally turns cpus given counted migrator reclaimer is crew results-are tally-is cpu-done migrator-part reclaimer-part =
    let run : SimRun = record { events = crew.events; order = crew.order; results = results; end = end; tally = tally; turns = turns } in
    record {
      events = crew.events;
      order = crew.order;
      run = run-of-script cpu_agrees migrator_agrees reclaimer_agrees migrator_part reclaimer_part script run cpus given counted migrator reclaimer is crew.run results-are tally-is cpu-done migrator-part reclaimer-part;
      told = crew.told;
    }

-- a processor that has played
pub cpu-done : {F : Type 0} (made_of : F → FaultBegun) (awaits_of : F → Geometry → View → Own → Action → Type 0) (script : Script) (cpu : ℕ) (c : Processor F) (turns : Turns) (ended : Bool)
    → IsCpuMade script cpu c.made → IsAgreed (FollowsCpu processor_faults made_of awaits_of c) turns ended
    → IsCpuDone script cpu turns ended c.results.items (sum_of c.counter.tally c.access.tally)
cpu-done made_of awaits_of script cpu c turns ended made h =
    let part = cpu-agreed processor_faults made_of awaits_of script cpu c turns ended made h in
    record { part = part; counted = processor-counts made_of awaits_of c turns _ h.agreed; follows = part.follows; left = cpu-left processor_faults made_of awaits_of script cpu c turns ended made h }

-- what is said of the parts of migrator and reclaimer, in other words
pub run-with : (migrator_part migrator_part' reclaimer_part reclaimer_part' : Turns → Bool → Tally → Type 0) (script : Script) (run : SimRun)
    → ((turns : Turns) (ended : Bool) (counts : Tally) → migrator_part turns ended counts → migrator_part' turns ended counts)
    → ((turns : Turns) (ended : Bool) (counts : Tally) → reclaimer_part turns ended counts → reclaimer_part' turns ended counts)
    → IsRunWith migrator_part reclaimer_part script run → IsRunWith migrator_part' reclaimer_part' script run
run-with migrator_part migrator_part' reclaimer_part reclaimer_part' script run m r h = record {
  played = h.played;
  tallies = h.tallies;
  simulated = h.simulated;
  actors = h.actors;
  cpus = h.cpus;
  migrator = m _ _ _ h.migrator;
  reclaimer = r _ _ _ h.reclaimer;
  tally = h.tally;
  printable = h.printable;
}

-- the same of a run that was watched
pub watched-with : (migrator_part migrator_part' reclaimer_part reclaimer_part' : Turns → Bool → Tally → Type 0) (script : Script) (kept : List Played → Type 0) (results : List (List LineResult)) (end : EndWords) (tally : Tally) (turns : ℕ)
    → ((turns : Turns) (ended : Bool) (counts : Tally) → migrator_part turns ended counts → migrator_part' turns ended counts)
    → ((turns : Turns) (ended : Bool) (counts : Tally) → reclaimer_part turns ended counts → reclaimer_part' turns ended counts)
    → IsWatchedRunWith migrator_part reclaimer_part script kept results end tally turns → IsWatchedRunWith migrator_part' reclaimer_part' script kept results end tally turns
unfolding run-with
watched-with migrator_part migrator_part' reclaimer_part reclaimer_part' script kept results end tally turns m r h = record {
  events = h.events;
  order = h.order;
  run = run-with migrator_part migrator_part' reclaimer_part reclaimer_part' script _ m r h.run;
  told = h.told;
}

-- a watched run of a crew on an equal machine, by an equal schedule
pub watched-moved : {C : Type 0} (cpu_agrees : C → Turns → Option Turn → Type 0) (migrator_agrees reclaimer_agrees : Turns → Option Turn → Type 0) (g g' : Geometry) (schedule schedule' : Schedule) (cpus : List C) (kept : Geometry → List Played → Type 0) (turns : ℕ) (end : EndWords)
    → g ≡ g' → schedule ≡ schedule' → IsWatchedCrewRun cpu_agrees migrator_agrees reclaimer_agrees g schedule cpus (kept g) turns end → IsWatchedCrewRun cpu_agrees migrator_agrees reclaimer_agrees g' schedule' cpus (kept g') turns end
watched-moved cpu_agrees migrator_agrees reclaimer_agrees g g' schedule schedule' cpus kept turns end machine same h =
    let Machine : Geometry → Type 0 = λ k. IsWatchedCrewRun cpu_agrees migrator_agrees reclaimer_agrees k schedule' cpus (kept k) turns end in
    let By : Schedule → Type 0 = λ s. IsWatchedCrewRun cpu_agrees migrator_agrees reclaimer_agrees g s cpus (kept g) turns end in
    subst Machine machine (subst By same h)
