-- Processors that have played: how they were made, and their parts of the turns.
use Rattle.std.proofs.Common.{◌≡◌, ◌<◌, ℕ, Bool, List, length, map, get_or, Option, Some, refl, sym, ap, subst, ◌∙◌, arith}
use Rattle.std.proofs.Math.ListN.{get_or-map}
use Rattle.std.proofs.lemmas.List.{length-map}
use Rattle.nm_base.specs.Geometry.{Geometry}
use Rattle.nm_action.specs.declared.action.Action.{Action}
use Rattle.nm_action.specs.declared.turn.Turn.{Turn}
use Rattle.nm_action.specs.declared.turn.Turn.TheVariants.{Do, Put, Take, End}
use Rattle.nm_action.specs.Own.{Own}
use Rattle.nm_action.specs.Tally.{sum_of}
use Rattle.nm_view.specs.Views.{View}
use Rattle.nm_actor.specs.Actors.{gave_end}
use Rattle.nm_actor.specs.Turns.{Turns, turns_view}
use Rattle.nm_play.specs.Played as play
use Rattle.nm_script.specs.declared.script.Line.{Line}
use Rattle.nm_script.specs.Plain.{Script}
use Rattle.nm_access.specs.Faults.{FaultKinds}
use Rattle.nm_cpu.specs.declared.actor.Processor.{Processor}
use Rattle.nm_cpu.specs.declared.made.CpuMade.{CpuMade}
use Rattle.nm_cpu.specs.Agreeing.{IsLeftAt, FollowsCpu}
use Rattle.nm_cpu.specs.Parts.{IsCpuPart}
use Rattle.nm_crew.specs.Crewed.{AtEach, IsAgreed}
use Rattle.nm_programs.specs.Cpus.{program_of, IsCpuMade, IsCpuAt}
use Rattle.nm_programs.specs.Runs.{IsLeftByCpu}

cpu-end : (turn : Turn) → gave_end (Some turn) ≡ play.is_end turn
cpu-end (Do action) = refl
cpu-end (Put lane page) = refl
cpu-end (Take lane) = refl
cpu-end End = refl

-- what a processor agrees with is its part
pub cpu-agreed : {F M X : Type 0} (kinds : FaultKinds M X) (made_of : F → M) (awaits_of : F → Geometry → View → Own → Action → Type 0) (script : Script) (cpu : ℕ) (c : Processor F) (turns : Turns) (ended : Bool)
    → IsCpuMade script cpu c.made → IsAgreed (FollowsCpu kinds made_of awaits_of c) turns ended
    → IsCpuPart kinds script.geometry cpu (program_of script cpu) turns ended c.results.items (sum_of c.counter.tally c.access.tally)
cpu-agreed kinds made_of awaits_of script cpu c turns ended made h =
    let counts = sum_of c.counter.tally c.access.tally in
    let Machine : Geometry → Type 0 = λ g. IsCpuPart kinds g cpu (program_of script cpu) turns ended c.results.items counts in
    let Number : ℕ → Type 0 = λ n. IsCpuPart kinds c.made.geometry.now n (program_of script cpu) turns ended c.results.items counts in
    let Program : List Line → Type 0 = λ p. IsCpuPart kinds c.made.geometry.now c.made.number p turns ended c.results.items counts in
    let Ended : Bool → Type 0 = λ b. IsCpuPart kinds c.made.geometry.now c.made.number c.made.program.now turns b c.results.items counts in
    subst Machine made.machine (subst Number made.same (subst Program made.program (subst Ended (cpu-end h.last ∙ sym h.given) h.agreed.part)))

-- where it gave End, its view is that of a processor that has ended, and else of one that goes on
left-by : (view : View) (turn : Turn) → IsLeftAt view (Some turn) → IsLeftByCpu (play.is_end turn) view
left-by view (Do action) h = h
left-by view (Put lane page) h = h
left-by view (Take lane) h = h
left-by view End h = h

pub cpu-left : {F M X : Type 0} (kinds : FaultKinds M X) (made_of : F → M) (awaits_of : F → Geometry → View → Own → Action → Type 0) (script : Script) (cpu : ℕ) (c : Processor F) (turns : Turns) (ended : Bool)
    → IsCpuMade script cpu c.made → IsAgreed (FollowsCpu kinds made_of awaits_of c) turns ended → IsLeftByCpu ended (turns_view script.geometry cpu turns)
cpu-left kinds made_of awaits_of script cpu c turns ended made h =
    let Machine : Geometry → Type 0 = λ g. IsLeftByCpu ended (turns_view g cpu turns) in
    let Number : ℕ → Type 0 = λ n. IsLeftByCpu ended (turns_view c.made.geometry.now n turns) in
    let Ended : Bool → Type 0 = λ b. IsLeftByCpu b (turns_view c.made.geometry.now c.made.number turns) in
    subst Machine made.machine (subst Number made.same (subst Ended (sym h.given) (left-by (turns_view c.made.geometry.now c.made.number turns) h.last h.agreed.at.left)))

-- the processors after a simulation were made as those before it
pub made-after : {C : Type 0} (made : C → CpuMade) (agrees : C → Turns → Option Turn → Type 0) (script : Script) (before after : List C) (cpu : ℕ) (d : C)
    → AtEach (IsCpuAt made agrees script) before → map made after ≡ map made before → cpu < length after → IsCpuMade script cpu (made (get_or after cpu d))
made-after made agrees script before after cpu d each same lt =
    let there : cpu < length before = omega (arith, lt, sym (length-map after made) ∙ ap length same ∙ length-map before made) in
    let Made : CpuMade → Type 0 = λ m. IsCpuMade script cpu m in
    let is : made (get_or before cpu d) ≡ made (get_or after cpu d) = sym (get_or-map made before cpu d) ∙ ap (λ l. get_or l cpu (made d)) (sym same) ∙ get_or-map made after cpu d in
    subst Made is (each cpu d there).made_so
