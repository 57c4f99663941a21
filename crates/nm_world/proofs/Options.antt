-- What follows of values that may be known.
use Rattle.std.proofs.Common.{◌≡◌, Option, Some, None, IsSomeAnd, IfSome, refl}

-- what holds of a known value, if it follows of what held
pub if_more : {A : Type 0} (o : Option A) (P Q : A → Type 0) → ((x : A) → o ≡ Some x → P x → Q x) → IfSome o P → IfSome o Q
if_more None P Q step h = h
if_more (Some x) P Q step h = step x refl h

-- the same, if it holds of any
pub if_all : {A : Type 0} (o : Option A) (P : A → Type 0) → ((x : A) → o ≡ Some x → P x) → IfSome o P
if_all None P step = tt
if_all (Some x) P step = step x refl

-- a value that is known, and what holds of it
pub some_and : {A : Type 0} (o : Option A) (P : A → Type 0) → IsSomeAnd o P → (x : A) × ((o ≡ Some x) × P x)
some_and None P h = absurd h
some_and (Some x) P h = (x, (refl, h))
