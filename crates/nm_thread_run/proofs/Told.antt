-- What the actors of a script told, where all have stood.
use Rattle.std.proofs.Common.{◌≡◌, ℕ, ◌+◌, ◌<◌, ◌++◌, true, List, [], ◌∷◌, length, map, get_or, Option, refl, sym, ap, subst, ◌∙◌, arith}
use Rattle.std.proofs.lemmas.List.{get_or-map, length-map}
use Rattle.nm_base.specs.Geometry.{Geometry}
use Rattle.nm_action.specs.declared.action.Action.{Action}
use Rattle.nm_action.specs.declared.tally.Tally.{Tally}
use Rattle.nm_action.specs.declared.turn.Lane.{Lane}
use Rattle.nm_action.specs.declared.turn.Turn.{Turn}
use Rattle.nm_action.specs.declared.turn.Turn.TheVariants.{End}
use Rattle.nm_action.specs.Own.{Own}
use Rattle.nm_action.specs.Tally.{sum_of}
use Rattle.nm_view.specs.Views.{View}
use Rattle.nm_actor.specs.Turns.{Turns, turns_view}
use Rattle.nm_actor.specs.Boards.{BoardState}
use Rattle.nm_fault.specs.Tasks.{FaultBegun}
use Rattle.nm_routine_part.specs.Parts.{IsEmptyAtEnd}
use Rattle.nm_script.specs.Plain.{Script}
use Rattle.nm_report.specs.declared.line_result.LineResult.{LineResult}
use Rattle.nm_cpu.specs.declared.actor.Processor.{Processor}
use Rattle.nm_cpu.specs.Agreeing.{FollowsCpu}
use Rattle.nm_cpu_fault.specs.ProcessorFaults.{processor_faults}
use Rattle.nm_crew.specs.Crewed.{tally_of, crew_tallies}
use Rattle.nm_crew.proofs.Tallies.{tallies-many, counts-cpu, counts-migrator, counts-reclaimer}
use Rattle.nm_programs.specs.Cpus.{IsCpuMade}
use Rattle.nm_programs.proofs.Running.{cpu-done}
use Rattle.nm_migrator.specs.declared.actor.MigratorActor.{MigratorActor}
use Rattle.nm_migrator.specs.Parts.{migrator_made, worker_counted, AgreesMigrator, IsMigratorPartBy}
use Rattle.nm_kswap.specs.declared.actor.ReclaimerActor.{ReclaimerActor}
use Rattle.nm_kswap.specs.Parts.{ReclaimerWorker, reclaimer_geometry, AgreesReclaimer}
use Rattle.nm_sched.specs.Parts.{IsReclaimerRun}
use Rattle.nm_thread_crew.specs.Boarded.{HasStood, HasStoodLast, IsCrewDone, IsEmptied}
use Rattle.nm_thread_run.specs.Runs.{HasLeft, IsWholeCpu, IsWholeMigrator, IsBoardRun}

-- ---- one actor

pub cpu-told : {N F : Type 0} (made_of : F → FaultBegun) (awaits_of : F → Geometry → View → Own → Action → Type 0) (script : Script) (b : BoardState N) (cpu : ℕ) (c : Processor F)
    → IsCpuMade script cpu c.made → HasStood b cpu (FollowsCpu processor_faults made_of awaits_of c)
    → HasLeft b cpu (IsWholeCpu script cpu c.results.items (sum_of c.counter.tally c.access.tally))
cpu-told made_of awaits_of script b cpu c made h =
    let done = cpu-done made_of awaits_of script cpu c h.turns true made (record { last = End; agreed = h.agreed; given = refl }) in
    record { turns = h.turns; seat = h.seat; lanes = h.lanes; told = record { part = done.part; counted = done.counted; follows = done.follows; left = done.left } }

-- the part of the migrator with this data, which has ended
record IsWholeBy (made : Geometry × Option ℕ × ℕ) (turns : Turns) (counts : Tally) : Type 0 where
  part : IsMigratorPartBy made turns true counts
  left : IsEmptyAtEnd true (turns_view made.0 made.0.cpus turns)

pub migrator-told : {N : Type 0} (script : Script) (b : BoardState N) (n : ℕ) (entered : Geometry × Option ℕ × ℕ) (last : MigratorActor)
    → n ≡ script.geometry.cpus → entered ≡ record { 0 = script.geometry; 1 = script.retry; 2 = 0 }
    → HasStoodLast migrator_made (λ m. record { 0 = m.0; 1 = m.1; 2 = m.2 + 1 }) AgreesMigrator b n entered last
    → HasLeft b script.geometry.cpus (IsWholeMigrator script (worker_counted last.worker))
migrator-told {N} script b n entered last here made h =
    let turns = h.before ++ h.since in
    let counts = worker_counted last.worker in
    let Again : Geometry × Option ℕ × ℕ → Geometry × Option ℕ × ℕ = λ m. record { 0 = m.0; 1 = m.1; 2 = m.2 + 1 } in
    let By : Geometry × Option ℕ × ℕ → Type 0 = λ m. IsWholeBy m turns counts in
    let whole = subst By (h.again ∙ ap Again made) (record { part = h.agreed.part; left = h.agreed.empty }) in
    let At : ℕ → Type 0 = λ k. HasLeft b k (IsWholeMigrator script counts) in
    subst At here (record { turns = turns; seat = h.seat; lanes = h.lanes; told = record { part = whole.part; left = whole.left } })

pub reclaimer-told : {N : Type 0} (agrees : ReclaimerWorker → Turns → Option Turn → Type 0) (counted : ReclaimerWorker → Tally) (script : Script) (b : BoardState N) (n : ℕ) (a : ReclaimerActor)
    → n ≡ script.geometry.cpus → reclaimer_geometry a ≡ script.geometry → HasStood b (n + 1) (AgreesReclaimer agrees counted a)
    → HasLeft b (script.geometry.cpus + 1) (λ turns. IsReclaimerRun script.geometry turns true (counted a.worker))
reclaimer-told {N} agrees counted script b n a here made h =
    let Made : Geometry → Type 0 = λ g. IsReclaimerRun g h.turns true (counted a.worker) in
    let At : ℕ → Type 0 = λ k. HasLeft b (k + 1) (λ turns. IsReclaimerRun script.geometry turns true (counted a.worker)) in
    subst At here (record { turns = h.turns; seat = h.seat; lanes = h.lanes; told = subst Made made (record { part = h.agreed.part; left = h.agreed.empty }) })

-- ---- all of them

-- an element of a list that has one
some-element : {A : Type 0} (list : List A) (i : ℕ) → i < length list → A
some-element [] i lt = absurd (omega (arith, lt))
some-element (a ∷ list) i lt = a

pub board-run : {N C : Type 0} (cpu_agrees : C → Turns → Option Turn → Type 0) (reclaimer_agrees : Turns → Option Turn → Type 0) (script : Script) (old new : BoardState N) (cpus : List C) (given : C → List LineResult) (counted : C → Tally) (migrator reclaimer tally : Tally) (results : List (List LineResult))
    → old.geometry ≡ script.geometry → IsCrewDone cpu_agrees reclaimer_agrees cpus old new
    → results ≡ map given cpus → tally ≡ tally_of (crew_tallies (map counted cpus) migrator reclaimer)
    → ((cpu : ℕ) (d : C) → cpu < length cpus → HasStood new cpu (cpu_agrees (get_or cpus cpu d)) → HasLeft new cpu (IsWholeCpu script cpu (given (get_or cpus cpu d)) (counted (get_or cpus cpu d))))
    → HasLeft new script.geometry.cpus (IsWholeMigrator script migrator)
    → HasLeft new (script.geometry.cpus + 1) (λ turns. IsReclaimerRun script.geometry turns true reclaimer)
    → ((lane : Lane) → IsEmptied lane new)
    → IsBoardRun script old new results tally
board-run {N} {C} cpu_agrees reclaimer_agrees script old new cpus given counted migrator reclaimer tally results machine done results-are tally-is cpu-left migrator-left reclaimer-left emptied =
    let n = script.geometry.cpus in
    let tallies = crew_tallies (map counted cpus) migrator reclaimer in
    let as-many : length cpus ≡ n = done.many ∙ ap (λ (g : Geometry). g.cpus) machine in
    let many : length (map counted cpus) ≡ n = length-map cpus counted ∙ as-many in
    let Migrator : Tally → Type 0 = λ t. HasLeft new n (IsWholeMigrator script t) in
    let Reclaimer : Tally → Type 0 = λ t. HasLeft new (n + 1) (λ turns. IsReclaimerRun script.geometry turns true t) in
    record {
      is = done.is;
      many = ap length results-are ∙ length-map cpus given ∙ as-many;
      tallies = tallies;
      actors = tallies-many (map counted cpus) migrator reclaimer n many;
      cpus = λ cpu lt. (
          let there : cpu < length cpus = omega (arith, lt, as-many) in
          let d = some-element cpus cpu there in
          let told : get_or results cpu [] ≡ given (get_or cpus cpu d) = ap (λ l. get_or l cpu []) results-are ∙ get_or-map given cpus cpu d [] there in
          let Given : List LineResult → Type 0 = λ r. HasLeft new cpu (IsWholeCpu script cpu r (counted (get_or cpus cpu d))) in
          let Counted : Tally → Type 0 = λ t. HasLeft new cpu (IsWholeCpu script cpu (get_or results cpu []) t) in
          subst Counted (sym (counts-cpu counted cpus migrator reclaimer cpu d there)) (subst Given (sym told) (cpu-left cpu d there (done.each cpu d there))));
      migrator = subst Migrator (sym (counts-migrator (map counted cpus) migrator reclaimer n many)) migrator-left;
      reclaimer = subst Reclaimer (sym (counts-reclaimer (map counted cpus) migrator reclaimer n many)) reclaimer-left;
      counted = tally-is;
      emptied = emptied;
      nobody = λ a past. done.nobody a (omega (arith, past, ap (λ (g : Geometry). g.cpus) machine));
    }
