-- The steps of a work are those of the piece of its kind.
use Rattle.nm_base.specs.Geometry.{Geometry}
use Rattle.nm_action.specs.declared.action.Action.{Action}
use Rattle.nm_action.specs.declared.turn.Step.{Step}
use Rattle.nm_action.specs.declared.turn.Step.TheVariants.{Do, Over}
use Rattle.nm_action.specs.Own.{Own}
use Rattle.nm_view.specs.Views.{View}
use Rattle.nm_part.specs.Parts.{IsAsked, IsPartStep}
use Rattle.nm_migrator_work.specs.Kinds.{step_into}

-- an action of a piece: what it awaits, and which lists it finishes, are some of the work's
pub asked-into : {X Y : Type 0} (awaits waits : Geometry → View → Own → Action → Type 0) (inner : Geometry → Own → X → Type 0) (outer : Geometry → Own → Y → Type 0) (into : X → Y)
    → ((g : Geometry) (view : View) (own : Own) (action : Action) → awaits g view own action → waits g view own action)
    → ((g : Geometry) (own : Own) (x : X) → inner g own x → outer g own (into x))
    → (g : Geometry) (view : View) (own : Own) (action : Action) → IsAsked awaits inner g view own action → IsAsked waits outer g view own action
asked-into awaits waits inner outer into waiting keeps g view own action h = record {
  quiet = h.quiet;
  permitted = h.permitted;
  awaited = waiting g view own action h.awaited;
  begun = record { reply = h.begun.reply; begun = record { rest = h.begun.begun.rest; outcome = into h.begun.begun.outcome; whole = keeps g _ h.begun.begun.outcome h.begun.begun.whole } };
}

-- a step of it, where it also leaves what the work leaves, and ends as the work does
pub step-given : {X Y : Type 0} (awaits waits : Geometry → View → Own → Action → Type 0) (inner : Geometry → Own → X → Type 0) (outer : Geometry → Own → Y → Type 0) (leaves : Geometry → View → X → View → Type 0) (left : Geometry → View → Y → View → Type 0) (ended : Geometry → Own → X → Type 0) (over : Geometry → Own → Y → Type 0) (into : X → Y)
    → ((g : Geometry) (view : View) (own : Own) (action : Action) → awaits g view own action → waits g view own action)
    → ((g : Geometry) (own : Own) (x : X) → inner g own x → outer g own (into x))
    → ((g : Geometry) (view : View) (x : X) (later : View) → leaves g view x later → left g view (into x) later)
    → ((g : Geometry) (own : Own) (x : X) → ended g own x → over g own (into x))
    → (g : Geometry) (view : View) (own : Own) (step : Step X) → IsPartStep awaits inner leaves ended g view own step → IsPartStep waits outer left over g view own (step_into into step)
step-given awaits waits inner outer leaves left ended over into waiting keeps leaving ending g view own (Do action) h = asked-into awaits waits inner outer into waiting keeps g view own action h
step-given awaits waits inner outer leaves left ended over into waiting keeps leaving ending g view own (Over x) h = record { shown = keeps g own x h.shown; left = leaving g view x _ h.left; over = ending g own x h.over }
