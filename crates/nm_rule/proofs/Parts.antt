-- The part of an actor in a list of events.
use Rattle.std.proofs.Common.{◌≡◌, ◌≢◌, ℕ, ◌==◌, if◌then◌else◌, Bool, true, false, List, [], ◌∷◌, ◌++◌, refl, sym, ap, ◌∙◌}
use Rattle.std.proofs.lemmas.Bool.{eq-eqb, ne_eqb}
use Rattle.std.proofs.lemmas.List.{append-nil}
use Rattle.nm_action.specs.Own.{Own, own_of}
use Rattle.nm_action.specs.declared.action.Action.{Action}
use Rattle.nm_action.specs.declared.action.Reply.{Reply}
use Rattle.nm_action.specs.declared.action.Event.{Event}

push_if : (b : Bool) (p : Action × Reply) (xs ys zs : Own) → xs ≡ ys ++ zs → (if b then p ∷ xs else xs) ≡ (if b then p ∷ ys else ys) ++ zs
push_if true p xs ys zs e = ap (λ ws. p ∷ ws) e
push_if false p xs ys zs e = e

-- the part in two lists, one after the other
pub own_of-append : (actor : ℕ) (xs ys : List Event) → own_of actor (xs ++ ys) ≡ own_of actor xs ++ own_of actor ys
own_of-append actor [] ys = refl
own_of-append actor (e ∷ xs) ys = push_if (e.actor == actor) (e.action, e.reply) (own_of actor (xs ++ ys)) (own_of actor xs) (own_of actor ys) (own_of-append actor xs ys)

one_if : (b : Bool) (p : Action × Reply) → b ≡ true → (if b then p ∷ [] else []) ≡ p ∷ []
one_if true p e = refl
one_if false p e = absurd (cc)

none_if : (b : Bool) (p : Action × Reply) → b ≡ false → (if b then p ∷ [] else []) ≡ []
none_if true p e = absurd (cc)
none_if false p e = refl

-- an event of the actor is added to its part
pub own_of-same : (actor : ℕ) (xs : List Event) (e : Event) → e.actor ≡ actor → own_of actor (xs ++ e ∷ []) ≡ own_of actor xs ++ (e.action, e.reply) ∷ []
own_of-same actor xs e same =
    own_of-append actor xs (e ∷ []) ∙ ap (λ ys. own_of actor xs ++ ys) (one_if (e.actor == actor) (e.action, e.reply) (eq-eqb e.actor actor same))

-- an event of another actor leaves it
pub own_of-other : (actor : ℕ) (xs : List Event) (e : Event) → actor ≢ e.actor → own_of actor (xs ++ e ∷ []) ≡ own_of actor xs
own_of-other actor xs e away =
    own_of-append actor xs (e ∷ []) ∙ ap (λ ys. own_of actor xs ++ ys) (none_if (e.actor == actor) (e.action, e.reply) (ne_eqb e.actor actor (λ same. away (sym same)))) ∙ append-nil (own_of actor xs)
