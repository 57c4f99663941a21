-- The turns of an actor that runs a part.
use Rattle.std.proofs.Common.{◌≡◌, ℕ, [], ◌∷◌, ◌++◌, Option, Some, None, refl, sym, ap, subst, ◌∙◌}
use Rattle.nm_base.specs.Geometry.{Geometry}
use Rattle.nm_action.specs.declared.action.Action.{Action}
use Rattle.nm_action.specs.declared.action.Reply.{Reply}
use Rattle.nm_action.specs.declared.turn.Step.{Step}
use Rattle.nm_action.specs.declared.turn.Step.TheVariants.{Do, Over}
use Rattle.nm_action.specs.declared.turn.Turn.{Turn}
use Rattle.nm_action.specs.declared.turn.Turn.TheVariants as turns
use Rattle.nm_action.specs.declared.turn.Heard.TheVariants.{Start, Answer}
use Rattle.nm_action.specs.Own.{Own}
use Rattle.nm_view.specs.Views.{View}
use Rattle.nm_view.specs.Opening.{opening}
use Rattle.nm_event.specs.After.{view_after}
use Rattle.nm_event.specs.Fitting.{Fits}
use Rattle.nm_part.specs.Parts.{IsPartStep, IsHeard}
use Rattle.nm_actor.specs.Turns.{Turns, own_list, turns_view}
use Rattle.nm_actor.specs.Actors.{answered, IsAnswer, IsAnswerTo, IsPermittedTurn, IsTurn}
use Rattle.nm_actor_rows.specs.Running.{turns_of, turn_of, IsWaiting, IsAtStep, IsAgreedOn}

own-of : (own : Own) → own_list (turns_of own) ≡ own
own-of [] = refl
own-of (e ∷ own) = ap (λ (l : Own). e ∷ l) (own-of own)

turns-push : (own : Own) (action : Action) (reply : Reply) → turns_of own ++ (turns.Do action, Answer reply) ∷ [] ≡ turns_of (own ++ (action, reply) ∷ [])
turns-push [] action reply = refl
turns-push (e ∷ own) action reply = ap (λ (l : Turns). (turns.Do e.0, Answer e.1) ∷ l) (turns-push own action reply)

view-of : (g : Geometry) (number : ℕ) (done : Turns) (own : Own) → done ≡ turns_of own → turns_view g number done ≡ view_after g (opening g number) own
view-of g number done own e = rw (e, own-of own) refl

-- a step of the part, to which a reply is heard: the part awaits the answer to an action, and the reply fits
record IsStepHeard {O : Type 0} (awaits : Geometry → View → Own → Action → Type 0) (g : Geometry) (view : View) (own : Own) (step : Step O) (reply : Reply) : Type 0 where
  pub action : Action
  pub is : step ≡ Do action
  pub awaited : awaits g view own action
  pub fits : Fits g (view_after g view own) action reply

step-heard : {O : Type 0} (awaits : Geometry → View → Own → Action → Type 0) (shape : Geometry → Own → O → Type 0) (leaves : Geometry → View → O → View → Type 0) (ended : Geometry → Own → O → Type 0) (g : Geometry) (view : View) (own : Own) (step : Step O) (reply : Reply)
    → IsPartStep awaits shape leaves ended g view own step → IsAnswer g (view_after g view own) (turn_of step) (Answer reply) → IsStepHeard awaits g view own step reply
step-heard awaits shape leaves ended g view own (Do action) reply p a = record { action = action; is = refl; awaited = p.awaited; fits = a }
step-heard awaits shape leaves ended g view own (Over outcome) reply p a = absurd a

running-step : {O : Type 0} (awaits : Geometry → View → Own → Action → Type 0) (shape : Geometry → Own → O → Type 0) (leaves : Geometry → View → O → View → Type 0) (ended : Geometry → Own → O → Type 0) (g : Geometry) (number : ℕ) (done : Turns) (turn : Turn) (reply : Reply)
    → (h : IsAtStep awaits shape leaves ended g number done turn) → IsAnswer g (turns_view g number done) turn (Answer reply) → IsStepHeard awaits g (opening g number) h.own h.step reply
running-step awaits shape leaves ended g number done turn reply h a =
    let A : View → Type 0 = λ view. IsAnswer g view (turn_of h.step) (Answer reply) in
    step-heard awaits shape leaves ended g (opening g number) h.own h.step reply h.given (subst A (view-of g number done h.own h.list) (rw h.is at a))

-- its part hears the reply
pub running-heard : {waiting : Type 0} {kept : Option Turn} {O : Type 0} (awaits : Geometry → View → Own → Action → Type 0) (shape : Geometry → Own → O → Type 0) (leaves : Geometry → View → O → View → Type 0) (ended : Geometry → Own → O → Type 0) (g : Geometry) (number : ℕ) (done : Turns) (last : Option Turn) (reply : Reply)
    → IsAgreedOn waiting (IsAtStep awaits shape leaves ended g number done) kept last → IsAnswerTo g (turns_view g number done) last (Answer reply) → IsHeard awaits reply
running-heard awaits shape leaves ended g number done None reply h a = absurd a
running-heard awaits shape leaves ended g number done (Some turn) reply h a =
    let s = running-step awaits shape leaves ended g number done turn reply h.by a in
    record { geometry = g; view = opening g number; own = h.by.own; action = s.action; awaited = s.awaited; fits = s.fits }

permitted-turn : {O : Type 0} (awaits : Geometry → View → Own → Action → Type 0) (shape : Geometry → Own → O → Type 0) (leaves : Geometry → View → O → View → Type 0) (ended : Geometry → Own → O → Type 0) (g : Geometry) (view : View) (own : Own) (step : Step O)
    → IsPartStep awaits shape leaves ended g view own step → IsPermittedTurn g (view_after g view own) (turn_of step)
permitted-turn awaits shape leaves ended g view own (Do action) p = p.permitted
permitted-turn awaits shape leaves ended g view own (Over outcome) p = tt

-- a step of its part is its turn
step-turn : {O : Type 0} (waiting : Turns → Type 0) (awaits : Geometry → View → Own → Action → Type 0) (shape : Geometry → Own → O → Type 0) (leaves : Geometry → View → O → View → Type 0) (ended : Geometry → Own → O → Type 0) (g : Geometry) (number : ℕ) (kept : Option Turn) (done : Turns) (own : Own) (step : Step O) (turn : Turn)
    → done ≡ turns_of own → turn ≡ turn_of step → kept ≡ Some turn → IsPartStep awaits shape leaves ended g (opening g number) own step
    → IsTurn g number (λ done last. IsAgreedOn (waiting done) (IsAtStep awaits shape leaves ended g number done) kept last) done turn
step-turn waiting awaits shape leaves ended g number kept done own step turn list is keeps given =
    let P : View → Type 0 = λ view. IsPermittedTurn g view (turn_of step) in
    record {
      agreed = record { same = keeps; by = record { own = own; step = step; list = list; is = is; given = given } };
      permitted = rw is (subst P (sym (view-of g number done own list)) (permitted-turn awaits shape leaves ended g (opening g number) own step given));
    }

-- where Start is heard no turn was given
none-given : {waiting : Type 0} {running : Turn → Type 0} {kept : Option Turn} (g : Geometry) (view : View) (last : Option Turn) (done : Turns)
    → IsAgreedOn waiting running kept last → IsAnswerTo g view last Start → waiting × (answered last Start done ≡ done)
none-given g view None done h a = (h.by, refl)
none-given g view (Some (turns.Do action)) done h a = absurd a
none-given g view (Some (turns.Put lane page)) done h a = absurd a
none-given g view (Some (turns.Take lane)) done h a = absurd a
none-given g view (Some turns.End) done h a = absurd a

-- the first turn
pub running-first : {new : Type 0} {running : Turn → Type 0} {was kept : Option Turn} {O M : Type 0} (waiting : Turns → Type 0) (may_begin : Geometry → View → Type 0) (next : Geometry → View → Own → Action → Type 0) (shape : M → Geometry → Own → O → Type 0) (leaves : M → Geometry → View → O → View → Type 0) (ended : Geometry → Own → O → Type 0) (made m : M) (g : Geometry) (number : ℕ) (done : Turns) (last : Option Turn) (turn : Turn) (result : Step O)
    → IsAgreedOn (IsWaiting new may_begin g number done) running was last → IsAnswerTo g (turns_view g number done) last Start
    → made ≡ m → ((g : Geometry) (v : View) → may_begin g v → IsPartStep next (shape made) (leaves made) ended g v [] result)
    → turn ≡ turn_of result → kept ≡ Some turn
    → IsTurn g number (λ done last. IsAgreedOn (waiting done) (IsAtStep next (shape m) (leaves m) ended g number done) kept last) (answered last Start done) turn
running-first {kept = kept} {O = O} {M = M} waiting may_begin next shape leaves ended made m g number done last turn result h a same first is keeps =
    let b = none-given g (turns_view g number done) last done h a in
    let R : M → Type 0 = λ k. IsPartStep next (shape k) (leaves k) ended g (opening g number) [] result in
    step-turn waiting next (shape m) (leaves m) ended g number kept _ [] result turn (b.1 ∙ b.0.none) is keeps (subst R same (first g (opening g number) b.0.begin))

-- the turn after a reply
pub running-more : {new : Type 0} {was kept : Option Turn} {O M : Type 0} (waiting : Turns → Type 0) (awaits next : Geometry → View → Own → Action → Type 0) (shape : M → Geometry → Own → O → Type 0) (leaves : M → Geometry → View → O → View → Type 0) (ended ended' : Geometry → Own → O → Type 0) (made m : M) (g : Geometry) (number : ℕ) (done : Turns) (last : Option Turn) (turn : Turn) (reply : Reply) (result : Step O)
    → IsAgreedOn new (IsAtStep awaits (shape made) (leaves made) ended g number done) was last → IsAnswerTo g (turns_view g number done) last (Answer reply)
    → made ≡ m → ((g : Geometry) (v : View) (own : Own) (a : Action) → awaits g v own a → Fits g (view_after g v own) a reply → IsPartStep next (shape made) (leaves made) ended' g v (own ++ (a, reply) ∷ []) result)
    → turn ≡ turn_of result → kept ≡ Some turn
    → IsTurn g number (λ done last. IsAgreedOn (waiting done) (IsAtStep next (shape m) (leaves m) ended' g number done) kept last) (answered last (Answer reply) done) turn
running-more waiting awaits next shape leaves ended ended' made m g number done None turn reply result h a same after is keeps = absurd a
running-more {kept = kept} {O = O} {M = M} waiting awaits next shape leaves ended ended' made m g number done (Some last) turn reply result h a same after is keeps =
    let r = h.by in
    let s = running-step awaits (shape made) (leaves made) ended g number done last reply r a in
    let R : M → Type 0 = λ k. IsPartStep next (shape k) (leaves k) ended' g (opening g number) (r.own ++ (s.action, reply) ∷ []) result in
    let list : done ++ (last, Answer reply) ∷ [] ≡ turns_of (r.own ++ (s.action, reply) ∷ []) =
    ap (λ (l : Turns). l ++ (last, Answer reply) ∷ []) r.list ∙ ap (λ (t : Turn). turns_of r.own ++ (t, Answer reply) ∷ []) (r.is ∙ ap turn_of s.is) ∙ turns-push r.own s.action reply in
    step-turn waiting next (shape m) (leaves m) ended' g number kept _ (r.own ++ (s.action, reply) ∷ []) result turn list is keeps (subst R same (after g (opening g number) r.own s.action s.awaited s.fits))
