-- Where all processors were asked and have ended, each was seen at its end.
use Rattle.std.proofs.Common.{◌≡◌, ℕ, zero, suc, ◌+◌, ◌<◌, Bool, true, false, [], ◌∷◌, ◌++◌, sym, ap, subst, ◌∙◌, inl, arith}
use Rattle.std.proofs.lemmas.Bool.{eqb-true}
use Rattle.nm_base.specs.Geometry.{Geometry}
use Rattle.nm_action.specs.declared.action.Action.TheVariants.{SeeAck}
use Rattle.nm_action.specs.declared.action.Reply.{Reply}
use Rattle.nm_action.specs.declared.action.Reply.TheVariants.{Done, Word, Busy, Lost}
use Rattle.nm_action.specs.Own.{Own}
use Rattle.nm_view.specs.Views.{end_word}
use Rattle.nm_part.specs.Patterns.{Ends, Either}
use Rattle.nm_ended.specs.Asking.{tells_end, AsksFrom}
use Rattle.nm_marks.specs.Contents.{HasEvent}
use Rattle.nm_marks.proofs.Contents.{has-right}
use Rattle.nm_unmarked.specs.Unmarking.{IsEndSeen}

-- a reply that tells the end
end-told : (reply : Reply) → tells_end reply ≡ true → reply ≡ Word end_word
end-told (Word word) h = ap Word (eqb-true word end_word h)
end-told Done h = absurd (cc)
end-told (Busy n) h = absurd (cc)
end-told (Lost n) h = absurd (cc)

record WentOn (g : Geometry) (told : Bool) (cpu more : ℕ) (back : Own) : Type 0 where
  yes : told ≡ true
  rest : AsksFrom g cpu more back true

went-on : (g : Geometry) (told : Bool) (cpu more : ℕ) (back : Own) → Either told (AsksFrom g cpu more) (Ends false) back true → WentOn g told cpu more back
went-on g true cpu more back h = record { yes = cc; rest = h }
went-on g false cpu more back h = absurd (let no : true ≡ false = h.is in cc)

-- where all have ended, each of them was seen at its end
asks-seen : (g : Geometry) (cpu more : ℕ) (own : Own) → AsksFrom g cpu more own true → (c : ℕ) → c < more → HasEvent (IsEndSeen (cpu + c)) own
asks-seen g cpu zero own h c below = absurd (omega (arith, below))
asks-seen g cpu (suc more) own h zero below =
    let w = went-on g (tells_end h.end) (cpu + 1) more h.back h.rest in
    let E : Own → Type 0 = λ l. HasEvent (IsEndSeen (cpu + 0)) l in
    let first : h.front ≡ (SeeAck cpu, h.end) ∷ [] = h.shown.is in
    let is : own ≡ ((SeeAck cpu, h.end) ∷ []) ++ h.back = h.is ∙ ap (λ (l : Own). l ++ h.back) first in
    subst E (sym is) (inl (record { action_is = ap SeeAck (omega (arith)); reply_is = end-told h.end w.yes }))
asks-seen g cpu (suc more) own h (suc c) below =
    let w = went-on g (tells_end h.end) (cpu + 1) more h.back h.rest in
    let E : Own → Type 0 = λ l. HasEvent (IsEndSeen (cpu + suc c)) l in
    let C : ℕ → Type 0 = λ n. HasEvent (IsEndSeen n) h.back in
    let there : HasEvent (IsEndSeen ((cpu + 1) + c)) h.back = asks-seen g (cpu + 1) more h.back w.rest c (omega (arith, below)) in
    subst E (sym h.is) (has-right (IsEndSeen (cpu + suc c)) h.front h.back (subst C (omega (arith)) there))

pub all-seen : (g : Geometry) (own : Own) → AsksFrom g 0 g.cpus own true → (cpu : ℕ) → cpu < g.cpus → HasEvent (IsEndSeen cpu) own
all-seen g own h cpu there =
    let C : ℕ → Type 0 = λ n. HasEvent (IsEndSeen n) own in
    subst C (omega (arith)) (asks-seen g 0 g.cpus own h cpu there)
