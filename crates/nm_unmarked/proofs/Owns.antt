-- Own lists with one event more.
use Rattle.std.proofs.Common.{◌≡◌, ◌≢◌, ℕ, ◌==◌, if◌then◌else◌, Bool, true, false, List, [], ◌∷◌, ◌++◌, refl, sym, ap, inl, inr, ◌⊎◌, ◌∙◌}
use Rattle.std.proofs.lemmas.Bool.{eq-eqb, ne_eqb}
use Rattle.std.proofs.lemmas.List.{append-nil}
use Rattle.nm_action.specs.declared.action.Action.{Action}
use Rattle.nm_action.specs.declared.action.Event.{Event}
use Rattle.nm_action.specs.declared.action.Reply.{Reply}
use Rattle.nm_action.specs.Own.{Own, own_of}
use Rattle.nm_marks.specs.Contents.{HasOnly, HasEvent}

-- ---- own lists in a list of events

push-if : (b : Bool) (p : Action × Reply) (xs ys zs : Own) → xs ≡ ys ++ zs → (if b then p ∷ xs else xs) ≡ (if b then p ∷ ys else ys) ++ zs
push-if true p xs ys zs e = ap (λ (l : Own). p ∷ l) e
push-if false p xs ys zs e = e

pub own-append : (actor : ℕ) (xs ys : List Event) → own_of actor (xs ++ ys) ≡ own_of actor xs ++ own_of actor ys
own-append actor [] ys = refl
own-append actor (e ∷ xs) ys = push-if (e.actor == actor) (e.action, e.reply) (own_of actor (xs ++ ys)) (own_of actor xs) (own_of actor ys) (own-append actor xs ys)

one-if : (b : Bool) (p : Action × Reply) (own : Own) → b ≡ true → (if b then p ∷ own else own) ≡ p ∷ own
one-if true p own e = refl
one-if false p own e = absurd (cc)

none-if : (b : Bool) (p : Action × Reply) (own : Own) → b ≡ false → (if b then p ∷ own else own) ≡ own
none-if true p own e = absurd (cc)
none-if false p own e = refl

-- an event of the actor stands in its own list
pub own-at : (actor : ℕ) (before rest : List Event) (e : Event) → e.actor ≡ actor → own_of actor (before ++ e ∷ rest) ≡ own_of actor before ++ (e.action, e.reply) ∷ own_of actor rest
own-at actor before rest e same =
    own-append actor before (e ∷ rest) ∙ ap (λ (l : Own). own_of actor before ++ l) (one-if (e.actor == actor) (e.action, e.reply) (own_of actor rest) (eq-eqb e.actor actor same))

pub own-same : (actor : ℕ) (before : List Event) (e : Event) → e.actor ≡ actor → own_of actor (before ++ e ∷ []) ≡ own_of actor before ++ (e.action, e.reply) ∷ []
own-same actor before e same = own-at actor before [] e same

-- an event of another actor leaves it
pub own-other : (actor : ℕ) (before : List Event) (e : Event) → e.actor ≢ actor → own_of actor (before ++ e ∷ []) ≡ own_of actor before
own-other actor before e away =
    own-append actor before (e ∷ []) ∙ ap (λ (l : Own). own_of actor before ++ l) (none-if (e.actor == actor) (e.action, e.reply) [] (ne_eqb e.actor actor away)) ∙ append-nil (own_of actor before)

-- ---- events of a list

-- an event of a list with one more is of the list, or that one
pub has-last : (P : Action → Reply → Type 0) (xs : Own) (e : Action × Reply) → HasEvent P (xs ++ e ∷ []) → HasEvent P xs ⊎ P e.0 e.1
has-last P [] e (inl here) = inr here
has-last P [] e (inr there) = absurd there
has-last P (x ∷ xs) e (inl here) = inl (inl here)
has-last P (x ∷ xs) e (inr there) = elim (has-last P xs e there) [
  | inl before ↦ inl (inr before)
  | inr last ↦ inr last
]

pub has-new : (P : Action → Reply → Type 0) (xs : Own) (e : Action × Reply) → P e.0 e.1 → HasEvent P (xs ++ e ∷ [])
has-new P [] e h = inl h
has-new P (x ∷ xs) e h = inr (has-new P xs e h)

-- where it stands
pub record IsAt (P : Action → Reply → Type 0) (own : Own) : Type 0 where
  pub front : Own
  pub event : Action × Reply
  pub rest : Own
  pub is : own ≡ front ++ event ∷ rest
  pub holds : P event.0 event.1

pub has-at : (P : Action → Reply → Type 0) (own : Own) → HasEvent P own → IsAt P own
has-at P [] h = absurd h
has-at P (x ∷ own) (inl here) = record { front = []; event = x; rest = own; is = refl; holds = here }
has-at P (x ∷ own) (inr there) =
    let h = has-at P own there in
    record { front = x ∷ h.front; event = h.event; rest = h.rest; is = ap (λ (l : Own). x ∷ l) h.is; holds = h.holds }

-- what holds of each action of a list holds of one in its middle
pub only-middle : (P : Action → Type 0) (front : Own) (e : Action × Reply) (rest : Own) → HasOnly P (front ++ e ∷ rest) → P e.0
only-middle P [] e rest h = h.0
only-middle P (x ∷ front) e rest h = only-middle P front e rest h.1

-- an event of a list with one more stands in the list, or is that one
pub record IsWithin (own front : Own) (x : Action × Reply) : Type 0 where
  pub rest : Own
  pub is : own ≡ front ++ x ∷ rest

pub head-of : {A : Type 0} (x y : A) (xs ys : List A) → x ∷ xs ≡ y ∷ ys → (x ≡ y) × (xs ≡ ys)
head-of x y xs ys is = (cc, cc)

pub no-middle : (front : Own) (x : Action × Reply) (rest : Own) → ¬ ([] ≡ front ++ x ∷ rest)
no-middle [] x rest is = cc
no-middle (y ∷ front) x rest is = cc

pub within-or-last : (own front : Own) (e x : Action × Reply) (rest : Own) → own ++ e ∷ [] ≡ front ++ x ∷ rest → IsWithin own front x ⊎ (x ≡ e)
within-or-last [] [] e x rest is = inr (sym (head-of e x [] rest is).0)
within-or-last [] (y ∷ front) e x rest is = absurd (no-middle front x rest (head-of e y [] (front ++ x ∷ rest) is).1)
within-or-last (z ∷ own) [] e x rest is = inl (record { rest = own; is = ap (λ (y : Action × Reply). y ∷ own) (head-of z x (own ++ e ∷ []) rest is).0 })
within-or-last (z ∷ own) (y ∷ front) e x rest is =
    let parts = head-of z y (own ++ e ∷ []) (front ++ x ∷ rest) is in
    elim (within-or-last own front e x rest parts.1) [
      | inl h ↦ inl (record { rest = h.rest; is = ap (λ (w : Action × Reply). w ∷ own) parts.0 ∙ ap (λ (l : Own). y ∷ l) h.is })
      | inr last ↦ inr last
    ]
