-- What holds of the events of lists one after the other.
use Rattle.std.proofs.Common.{ℕ, [], ◌∷◌, ◌++◌, inl, inr}
use Rattle.nm_action.specs.declared.action.Action.{Action}
use Rattle.nm_action.specs.declared.action.Action.TheVariants as actions
use Rattle.nm_action.specs.declared.action.Reply.{Reply}
use Rattle.nm_action.specs.Own.{Own}
use Rattle.nm_marks.specs.Contents.{HasOnly, HasEvent}
use Rattle.nm_marks.specs.Marks.{IsMarkOf, HasOnlyMarks}

pub only-both : (P : Action → Type 0) (xs ys : Own) → HasOnly P xs → HasOnly P ys → HasOnly P (xs ++ ys)
only-both P [] ys first then = then
only-both P (x ∷ xs) ys first then = (first.0, only-both P xs ys first.1 then)

pub only-more : (P Q : Action → Type 0) → ((action : Action) → P action → Q action) → (own : Own) → HasOnly P own → HasOnly Q own
only-more P Q weaker [] h = tt
only-more P Q weaker (e ∷ own) h = (weaker e.0 h.0, only-more P Q weaker own h.1)

mark-more : (may must : ℕ → ℕ → Type 0) → ((old new : ℕ) → may old new → must old new) → (action : Action) → IsMarkOf may action → IsMarkOf must action
mark-more may must weaker (actions.Mark page old new) h = weaker old new h
mark-more may must weaker _ h = tt

pub marks-more : (may must : ℕ → ℕ → Type 0) → ((old new : ℕ) → may old new → must old new) → (own : Own) → HasOnlyMarks may own → HasOnlyMarks must own
marks-more may must weaker = only-more (IsMarkOf may) (IsMarkOf must) (mark-more may must weaker)

pub has-left : (P : Action → Reply → Type 0) (xs ys : Own) → HasEvent P xs → HasEvent P (xs ++ ys)
has-left P [] ys h = absurd h
has-left P (x ∷ xs) ys (inl here) = inl here
has-left P (x ∷ xs) ys (inr there) = inr (has-left P xs ys there)

pub has-right : (P : Action → Reply → Type 0) (xs ys : Own) → HasEvent P ys → HasEvent P (xs ++ ys)
has-right P [] ys h = h
has-right P (x ∷ xs) ys h = inr (has-right P xs ys h)
