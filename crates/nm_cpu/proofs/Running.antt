-- A processor that has not given End has not acknowledged its end.
use Rattle.std.proofs.Common.{◌≡◌, ◌≢◌, ℕ, [], ◌++◌, Option, Some, None, refl, sym, ap, ◌∙◌, arith}
use Rattle.nm_base.specs.Geometry.{Geometry}
use Rattle.nm_action.specs.declared.action.Action.{Action}
use Rattle.nm_action.specs.declared.turn.Turn.{Turn}
use Rattle.nm_action.specs.declared.turn.Turn.TheVariants.{Do, Put, Take, End}
use Rattle.nm_action.specs.Own.{Own}
use Rattle.nm_view.specs.Views.{View, off_word, end_word}
use Rattle.nm_view.specs.Opening.{opening}
use Rattle.nm_actor.specs.Turns.{Turns}
use Rattle.nm_access.specs.Faults.{FaultKinds}
use Rattle.nm_access.specs.Accessing.{view_then}
use Rattle.nm_access.proofs.TurnSteps.{then-append, then-own}
use Rattle.nm_access.proofs.Running.{access-running}
use Rattle.nm_cpu.specs.declared.actor.Processor.{Processor}
use Rattle.nm_cpu.specs.declared.actor.CpuStage.{CpuStage}
use Rattle.nm_cpu.specs.declared.actor.CpuStage.TheVariants.{New, Opening, Accessing, Ending, Over}
use Rattle.nm_cpu.specs.Agreeing.{geometry_of, cpu_view, IsAtCpuStage, IsLeftAt}

-- as each processor begins
pub off-running : off_word ≢ end_word
off-running e = omega (arith, e)

none-is : {A : Type 0} (x : A) → Some x ≡ None → ⊥
none-is x e = cc

turn-is : (turn other : Turn) → Some turn ≡ Some other → turn ≡ other
turn-is turn other e = cc

stage-running : {F M X : Type 0} (kinds : FaultKinds M X) (made_of : F → M) (awaits_of : F → Geometry → View → Own → Action → Type 0) (stage : CpuStage) (c : Processor F) (turns : Turns) (turn : Turn)
    → turn ≢ End → IsAtCpuStage kinds made_of awaits_of stage c turns (Some turn) → (cpu_view c turns).acked ≢ end_word
stage-running kinds made_of awaits_of New c turns turn not h = absurd (none-is turn h.start)
stage-running kinds made_of awaits_of Opening c turns turn not h = λ ended.
    h.awaited.running off-running
    (sym (ap (λ (v : View). v.acked) (ap (λ (l : Turns). cpu_view c l) h.is ∙ then-own (geometry_of c) (opening (geometry_of c) c.made.number) [] h.own)) ∙ ended)
stage-running kinds made_of awaits_of Accessing c turns turn not h = λ ended.
    access-running kinds c.access.made c.access.stage c.access.hinted (made_of c.access.fault) (awaits_of c.access.fault) c.access.cache h.awaited.ends (geometry_of c) h.run.held (cpu_view c h.front) h.inner h.turn h.awaited.at
    (sym (ap (λ (v : View). v.acked) (ap (λ (l : Turns). cpu_view c l) h.run.is ∙ then-append (geometry_of c) (opening (geometry_of c) c.made.number) h.front h.inner)) ∙ ended)
stage-running kinds made_of awaits_of Ending c turns turn not h = h.running
stage-running kinds made_of awaits_of Over c turns turn not h = absurd (not (turn-is turn End h))

left-running : (view : View) (turn : Turn) → turn ≢ End → view.acked ≢ end_word → IsLeftAt view (Some turn)
left-running view (Do action) not running = running
left-running view (Put lane page) not running = running
left-running view (Take lane) not running = running
left-running view End not running = absurd (not refl)

-- where the turn that was given is not End
pub left-at : {F M X : Type 0} (kinds : FaultKinds M X) (made_of : F → M) (awaits_of : F → Geometry → View → Own → Action → Type 0) (c : Processor F) (turns : Turns) (turn : Turn)
    → turn ≢ End → IsAtCpuStage kinds made_of awaits_of c.stage c turns (Some turn) → IsLeftAt (cpu_view c turns) (Some turn)
left-at kinds made_of awaits_of c turns turn not at = left-running (cpu_view c turns) turn not (stage-running kinds made_of awaits_of c.stage c turns turn not at)
