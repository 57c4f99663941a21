-- One action more in the count of the shadows that were reclaimed inside an operation.
use Rattle.std.proofs.Common.{◌≡◌, ℕ, ◌+◌, ◌-◌, ◌^◌, ◌&&◌, not, min, if◌then◌else◌, Bool, true, false, [], ◌∷◌, ◌++◌, refl, sym, ap, ◌∙◌, subst, arith}
use Rattle.std.proofs.lemmas.List.{append-nil}
use Rattle.nm_action.specs.declared.action.Action.{Action}
use Rattle.nm_action.specs.declared.action.Action.TheVariants.{Unlock}
use Rattle.nm_action.specs.declared.action.Reply.{Reply}
use Rattle.nm_action.specs.Own.{Own}
use Rattle.nm_obtain.specs.declared.freed.FreedCount.{FreedCount}
use Rattle.nm_obtain.specs.Freed.{unlocks, puts_frame, is_release, before_unlock, frames_back, freed_inside}
use Rattle.nm_obtain.specs.FreedCounts.{stays_locked, ends_put, freed_with, HasCounted}

-- The part before the page is unlocked.

and-not : (a b c : Bool) → (not a && (b && not c)) ≡ ((not a && b) && not c)
and-not true b c = refl
and-not false b c = refl

locked-push : (page : ℕ) (own : Own) (event : Action × Reply) → stays_locked page (own ++ event ∷ []) ≡ (stays_locked page own && not (unlocks page event.0))
locked-push page [] event = grind arith
locked-push page (e ∷ own) event = ap (λ (b : Bool). not (unlocks page e.0) && b) (locked-push page own event) ∙ and-not (unlocks page e.0) (stays_locked page own) (unlocks page event.0)

whole-step : (page : ℕ) (e : Action × Reply) (own more : Own) (opens : Bool) → unlocks page e.0 ≡ opens → (not opens && stays_locked page own) ≡ true → (stays_locked page own ≡ true → before_unlock page (own ++ more) ≡ own ++ before_unlock page more)
    → (if opens then [] else e ∷ before_unlock page (own ++ more)) ≡ e ∷ (own ++ before_unlock page more)
whole-step page e own more true is locked h = cc locked
whole-step page e own more false is locked h = ap (λ (l : Own). e ∷ l) (h locked)

-- where the page stays locked, all of the list is before
before-whole : (page : ℕ) (own more : Own) → stays_locked page own ≡ true → before_unlock page (own ++ more) ≡ own ++ before_unlock page more
before-whole page [] more locked = refl
before-whole page (e ∷ own) more locked = whole-step page e own more (unlocks page e.0) refl locked (before-whole page own more)

cut-step : (page : ℕ) (e : Action × Reply) (own more : Own) (opens : Bool) → (not opens && stays_locked page own) ≡ false → (stays_locked page own ≡ false → before_unlock page (own ++ more) ≡ before_unlock page own)
    → (if opens then [] else e ∷ before_unlock page (own ++ more)) ≡ (if opens then [] else e ∷ before_unlock page own)
cut-step page e own more true locked h = refl
cut-step page e own more false locked h = ap (λ (l : Own). e ∷ l) (h locked)

-- where it was unlocked, nothing more is before
before-cut : (page : ℕ) (own more : Own) → stays_locked page own ≡ false → before_unlock page (own ++ more) ≡ before_unlock page own
before-cut page [] more locked = cc locked
before-cut page (e ∷ own) more locked = cut-step page e own more (unlocks page e.0) locked (before-cut page own more)

-- Frames that were put back.

put-push : (own : Own) (event : Action × Reply) → ends_put (own ++ event ∷ []) ≡ puts_frame event.0
put-push [] event = refl
put-push (e ∷ []) event = refl
put-push (e ∷ (next ∷ own)) event = put-push (next ∷ own) event

abbrev one : Bool → ℕ
one b = if b then 1 else 0

add-first : (a b c : ℕ) → a + (b + c) ≡ (a + b) + c
add-first a b c = omega arith

add-last : (a : ℕ) → a + 0 ≡ 0 + a
add-last a = omega arith

back-push : (own : Own) (event : Action × Reply) → frames_back (own ++ event ∷ []) ≡ frames_back own + one (ends_put own && is_release event.0)
back-push [] event = refl
back-push (e ∷ []) event = add-last (one (puts_frame e.0 && is_release event.0))
back-push (e ∷ (next ∷ own)) event = ap (λ (n : ℕ). one (puts_frame e.0 && is_release next.0) + n) (back-push (next ∷ own) event) ∙ add-first (one (puts_frame e.0 && is_release next.0)) (frames_back (next ∷ own)) (one (ends_put (next ∷ own) && is_release event.0))

-- The count.

unlock-keeps : (page : ℕ) (action : Action) → unlocks page action ≡ true → is_release action ≡ false
unlock-keeps page (Unlock b) is = refl
unlock-keeps page action is = cc

no-more : (b : Bool) (n : ℕ) → n ≡ n + one (b && false)
no-more true n = omega arith
no-more false n = omega arith

own-whole : (page : ℕ) (own : Own) → stays_locked page own ≡ true → before_unlock page own ≡ own
own-whole page own locked =
    let P : Own → Type 0 = λ l. before_unlock page l ≡ l in
    subst P (append-nil own) (before-whole page own [] locked)

alone : (page : ℕ) (event : Action × Reply) (opens : Bool) → unlocks page event.0 ≡ opens → before_unlock page (event ∷ []) ≡ (if opens then [] else event ∷ [])
alone page event opens is = ap (λ (b : Bool). if b then [] else event ∷ []) is

open-step : (page : ℕ) (own : Own) (event : Action × Reply) (opens : Bool) → unlocks page event.0 ≡ opens → stays_locked page own ≡ true
    → freed_inside page (own ++ event ∷ []) ≡ freed_inside page own + one (ends_put own && is_release event.0)
open-step page own event true is locked =
    let whole : before_unlock page own ≡ own = own-whole page own locked in
    let none : is_release event.0 ≡ false = unlock-keeps page event.0 is in
    ap frames_back (before-whole page own (event ∷ []) locked ∙ (ap (λ (l : Own). own ++ l) (alone page event true is) ∙ append-nil own))
    ∙ (no-more (ends_put own) (frames_back own)
    ∙ (ap (λ (b : Bool). frames_back own + one (ends_put own && b)) (sym none) ∙ ap (λ (l : Own). frames_back l + one (ends_put own && is_release event.0)) (sym whole)))
open-step page own event false is locked =
    let whole : before_unlock page own ≡ own = own-whole page own locked in
    ap frames_back (before-whole page own (event ∷ []) locked ∙ ap (λ (l : Own). own ++ l) (alone page event false is))
    ∙ (back-push own event ∙ ap (λ (l : Own). frames_back l + one (ends_put own && is_release event.0)) (sym whole))

none-more : (n : ℕ) → n ≡ n + 0
none-more n = omega arith

freed-step : (page : ℕ) (own : Own) (event : Action × Reply) (locked : Bool) → stays_locked page own ≡ locked → freed_inside page (own ++ event ∷ []) ≡ freed_inside page own + one (locked && (ends_put own && is_release event.0))
freed-step page own event true is = open-step page own event (unlocks page event.0) refl is
freed-step page own event false is = ap frames_back (before-cut page own (event ∷ []) is) ∙ none-more (freed_inside page own)

cap-step : (most : ℕ) (locked putting release : Bool) (freed total : ℕ) → freed ≡ min total most → (if (locked && putting) && release then min (freed + 1) most else freed) ≡ min (total + one (locked && (putting && release))) most
cap-step most true true true freed total is = omega (arith, is)
cap-step most true true false freed total is = omega (arith, is)
cap-step most true false release freed total is = omega (arith, is)
cap-step most false putting release freed total is = omega (arith, is)

-- one action more is noted
pub counted-push : (c new : FreedCount) (own : Own) (action : Action) (reply : Reply) → new.page ≡ c.page → new.locked ≡ (c.locked && not (unlocks c.page action)) → new.putting ≡ puts_frame action → new.freed ≡ freed_with c action
    → HasCounted c own → HasCounted new (own ++ (action, reply) ∷ [])
counted-push c new own action reply page locked putting freed h =
    let P : ℕ → Type 0 = λ p. new.locked ≡ stays_locked p (own ++ (action, reply) ∷ []) in
    let F : ℕ → Type 0 = λ p. new.freed ≡ min (freed_inside p (own ++ (action, reply) ∷ [])) (2 ^ 64 - 1) in
    let total = freed-step c.page own (action, reply) (stays_locked c.page own) refl in
    record {
      locked = subst P (sym page) (locked ∙ (ap (λ (b : Bool). b && not (unlocks c.page action)) h.locked ∙ sym (locked-push c.page own (action, reply))));
      putting = putting ∙ sym (put-push own (action, reply));
      freed = subst F (sym page) (freed
          ∙ (cap-step (2 ^ 64 - 1) c.locked c.putting (is_release action) c.freed (freed_inside c.page own) h.freed
          ∙ (ap (λ (b : Bool). min (freed_inside c.page own + one (b && (c.putting && is_release action))) (2 ^ 64 - 1)) h.locked
          ∙ (ap (λ (b : Bool). min (freed_inside c.page own + one (stays_locked c.page own && (b && is_release action))) (2 ^ 64 - 1)) h.putting
          ∙ ap (λ (n : ℕ). min n (2 ^ 64 - 1)) (sym total)))));
    }
