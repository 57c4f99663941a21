-- The steps of a choice of pieces are those of the piece that was chosen.
use Rattle.std.proofs.Common.{◌++◌, refl}
use Rattle.nm_base.specs.Geometry.{Geometry}
use Rattle.nm_action.specs.declared.action.Action.{Action}
use Rattle.nm_action.specs.declared.turn.Step.{Step}
use Rattle.nm_action.specs.declared.turn.Step.TheVariants.{Do, Over}
use Rattle.nm_view.specs.Views.{View}
use Rattle.nm_action.specs.Own.{Own}
use Rattle.nm_part.specs.Parts.{IsAsked, IsPartStep}
use Rattle.nm_part.specs.Patterns.{Follows, CanEnd}
use Rattle.nm_compose.specs.declared.or.Or.{Or}
use Rattle.nm_compose.specs.declared.or.Or.TheVariants.{This, Other}
use Rattle.nm_compose.specs.Choices.{this_step, other_step, IsOr, LeavesOr, AwaitsOr, EndedOr}

pub this-asked : {A B M N X Y : Type 0} (waits_a : A → Geometry → View → Own → Action → Type 0) (waits_b : B → Geometry → View → Own → Action → Type 0) (shape_a : M → Geometry → Own → X → Type 0) (shape_b : N → Geometry → Own → Y → Type 0) (a : A) (m : M) (g : Geometry) (v : View) (own : Own) (action : Action)
    → IsAsked (waits_a a) (shape_a m) g v own action → IsAsked (AwaitsOr waits_a waits_b (This a)) (IsOr shape_a shape_b (This m)) g v own action
this-asked waits_a waits_b shape_a shape_b a m g v own action h = record {
  quiet = h.quiet;
  permitted = h.permitted;
  awaited = h.awaited;
  begun = record { reply = h.begun.reply; begun = record { rest = h.begun.begun.rest; outcome = This h.begun.begun.outcome; whole = h.begun.begun.whole } };
}

pub this-given : {A B M N X Y : Type 0} (waits_a : A → Geometry → View → Own → Action → Type 0) (waits_b : B → Geometry → View → Own → Action → Type 0) (shape_a : M → Geometry → Own → X → Type 0) (shape_b : N → Geometry → Own → Y → Type 0) (leaves_a : M → Geometry → View → X → View → Type 0) (leaves_b : N → Geometry → View → Y → View → Type 0) (ended_a : A → Geometry → Own → X → Type 0) (ended_b : B → Geometry → Own → Y → Type 0) (a : A) (m : M) (g : Geometry) (v : View) (own : Own) (step : Step X)
    → IsPartStep (waits_a a) (shape_a m) (leaves_a m) (ended_a a) g v own step → IsPartStep (AwaitsOr waits_a waits_b (This a)) (IsOr shape_a shape_b (This m)) (LeavesOr leaves_a leaves_b (This m)) (EndedOr ended_a ended_b (This a)) g v own (this_step step)
this-given waits_a waits_b shape_a shape_b leaves_a leaves_b ended_a ended_b a m g v own (Do action) h = this-asked waits_a waits_b shape_a shape_b a m g v own action h
this-given waits_a waits_b shape_a shape_b leaves_a leaves_b ended_a ended_b a m g v own (Over outcome) h = record { shown = h.shown; left = h.left; over = h.over }

pub other-asked : {A B M N X Y : Type 0} (waits_a : A → Geometry → View → Own → Action → Type 0) (waits_b : B → Geometry → View → Own → Action → Type 0) (shape_a : M → Geometry → Own → X → Type 0) (shape_b : N → Geometry → Own → Y → Type 0) (b : B) (n : N) (g : Geometry) (v : View) (own : Own) (action : Action)
    → IsAsked (waits_b b) (shape_b n) g v own action → IsAsked (AwaitsOr waits_a waits_b (Other b)) (IsOr shape_a shape_b (Other n)) g v own action
other-asked waits_a waits_b shape_a shape_b b n g v own action h = record {
  quiet = h.quiet;
  permitted = h.permitted;
  awaited = h.awaited;
  begun = record { reply = h.begun.reply; begun = record { rest = h.begun.begun.rest; outcome = Other h.begun.begun.outcome; whole = h.begun.begun.whole } };
}

pub other-given : {A B M N X Y : Type 0} (waits_a : A → Geometry → View → Own → Action → Type 0) (waits_b : B → Geometry → View → Own → Action → Type 0) (shape_a : M → Geometry → Own → X → Type 0) (shape_b : N → Geometry → Own → Y → Type 0) (leaves_a : M → Geometry → View → X → View → Type 0) (leaves_b : N → Geometry → View → Y → View → Type 0) (ended_a : A → Geometry → Own → X → Type 0) (ended_b : B → Geometry → Own → Y → Type 0) (b : B) (n : N) (g : Geometry) (v : View) (own : Own) (step : Step Y)
    → IsPartStep (waits_b b) (shape_b n) (leaves_b n) (ended_b b) g v own step → IsPartStep (AwaitsOr waits_a waits_b (Other b)) (IsOr shape_a shape_b (Other n)) (LeavesOr leaves_a leaves_b (Other n)) (EndedOr ended_a ended_b (Other b)) g v own (other_step step)
other-given waits_a waits_b shape_a shape_b leaves_a leaves_b ended_a ended_b b n g v own (Do action) h = other-asked waits_a waits_b shape_a shape_b b n g v own action h
other-given waits_a waits_b shape_a shape_b leaves_a leaves_b ended_a ended_b b n g v own (Over outcome) h = record { shown = h.shown; left = h.left; over = h.over }

-- The pattern of a choice is that of the chosen piece: for plans whose own pattern names the pieces alone.

pub can-this : {M N X Y : Type 0} (shape_a : M → Geometry → Own → X → Type 0) (shape_b : N → Geometry → Own → Y → Type 0) (m : M) (g : Geometry) → CanEnd (shape_a m g) → CanEnd (IsOr shape_a shape_b (This m) g)
can-this shape_a shape_b m g can = record { rest = can.rest; outcome = This can.outcome; shown = can.shown }

pub can-other : {M N X Y : Type 0} (shape_a : M → Geometry → Own → X → Type 0) (shape_b : N → Geometry → Own → Y → Type 0) (n : N) (g : Geometry) → CanEnd (shape_b n g) → CanEnd (IsOr shape_a shape_b (Other n) g)
can-other shape_a shape_b n g can = record { rest = can.rest; outcome = Other can.outcome; shown = can.shown }

this-ends : {M N X Y O : Type 0} (shape_a : M → Geometry → Own → X → Type 0) (shape_b : N → Geometry → Own → Y → Type 0) (left : Or X Y → Own → O → Type 0) (m : M) (g : Geometry) (end : Or X Y) (front back : Own) (outcome : O)
    → IsOr shape_a shape_b (This m) g front end → left end back outcome → Follows (shape_a m g) (λ x. left (This x)) (front ++ back) outcome
this-ends shape_a shape_b left m g (This x) front back outcome shown rest = record { end = x; front = front; back = back; shown = shown; rest = rest; is = refl }
this-ends shape_a shape_b left m g (Other y) front back outcome shown rest = absurd shown

pub this-follows : {M N X Y O : Type 0} (shape_a : M → Geometry → Own → X → Type 0) (shape_b : N → Geometry → Own → Y → Type 0) (left : Or X Y → Own → O → Type 0) (m : M) (g : Geometry) (own : Own) (outcome : O)
    → Follows (IsOr shape_a shape_b (This m) g) left own outcome → Follows (shape_a m g) (λ x. left (This x)) own outcome
this-follows shape_a shape_b left m g own outcome h = rw h.is (this-ends shape_a shape_b left m g h.end h.front h.back outcome h.shown h.rest)

other-ends : {M N X Y O : Type 0} (shape_a : M → Geometry → Own → X → Type 0) (shape_b : N → Geometry → Own → Y → Type 0) (left : Or X Y → Own → O → Type 0) (n : N) (g : Geometry) (end : Or X Y) (front back : Own) (outcome : O)
    → IsOr shape_a shape_b (Other n) g front end → left end back outcome → Follows (shape_b n g) (λ y. left (Other y)) (front ++ back) outcome
other-ends shape_a shape_b left n g (This x) front back outcome shown rest = absurd shown
other-ends shape_a shape_b left n g (Other y) front back outcome shown rest = record { end = y; front = front; back = back; shown = shown; rest = rest; is = refl }

pub other-follows : {M N X Y O : Type 0} (shape_a : M → Geometry → Own → X → Type 0) (shape_b : N → Geometry → Own → Y → Type 0) (left : Or X Y → Own → O → Type 0) (n : N) (g : Geometry) (own : Own) (outcome : O)
    → Follows (IsOr shape_a shape_b (Other n) g) left own outcome → Follows (shape_b n g) (λ y. left (Other y)) own outcome
other-follows shape_a shape_b left n g own outcome h = rw h.is (other-ends shape_a shape_b left n g h.end h.front h.back outcome h.shown h.rest)
