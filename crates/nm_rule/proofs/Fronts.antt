-- Beginnings of lists.
use Rattle.std.proofs.Common.{ℕ, if◌then◌else◌, Bool, true, false, nat_lt, List, [], ◌++◌, length, refl, sym, ap, ◌∙◌, append_assoc}
use Rattle.std.proofs.lemmas.List.{append-nil}
use mathlib.Core.List.{IsPrefix}
use Rattle.nm_action.specs.Own.{own_of}
use Rattle.nm_action.specs.declared.action.Event.{Event}
use Rattle.nm_rule.specs.Knows.{longer}
use Rattle.nm_rule.proofs.Parts.{own_of-append}

pub prefix-self : {A : Type 0} (xs : List A) → IsPrefix xs xs
prefix-self xs = ([], append-nil xs)

pub prefix-nil : {A : Type 0} (xs : List A) → IsPrefix [] xs
prefix-nil xs = (xs, refl)

-- a beginning of a list begins a longer one
pub prefix-more : {A : Type 0} (xs ys zs : List A) → IsPrefix xs ys → IsPrefix xs (ys ++ zs)
prefix-more xs ys zs p = (p.0 ++ zs, sym (append_assoc xs p.0 zs) ∙ ap (λ ws. ws ++ zs) p.1)

one_of : (b : Bool) (xs ys zs : List Event) → IsPrefix xs zs → IsPrefix ys zs → IsPrefix (if b then ys else xs) zs
one_of true xs ys zs p q = q
one_of false xs ys zs p q = p

-- the longer of two beginnings is one
pub prefix-longer : (xs ys zs : List Event) → IsPrefix xs zs → IsPrefix ys zs → IsPrefix (longer xs ys) zs
prefix-longer xs ys zs p q = one_of (nat_lt (length xs) (length ys)) xs ys zs p q

-- an actor's part of a beginning begins its part of the whole
pub prefix-part : (actor : ℕ) (xs ys : List Event) → IsPrefix xs ys → IsPrefix (own_of actor xs) (own_of actor ys)
prefix-part actor xs ys p = (own_of actor p.0, sym (own_of-append actor xs p.0) ∙ ap (own_of actor) p.1)
