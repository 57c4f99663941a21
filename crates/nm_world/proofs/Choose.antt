-- By cases on whether two numbers are the same, or two names of words.
use Rattle.std.proofs.Common.{◌≡◌, ◌≢◌, ℕ, ◌==◌, ◌&&◌, if◌then◌else◌, Bool, true, false, refl, sym, ap, subst}
use Rattle.std.proofs.lemmas.Bool.{eqb-true, eqb-false, eq-eqb, and_parts}
use Rattle.nm_words.specs.declared.names.Where.{Where}
use Rattle.nm_words.specs.declared.names.Where.TheVariants.{Req, Pte, Stamp, Home, Shadow, Lock, Mark, Ack, Turn, Free, Mem}
use Rattle.nm_words.proofs.Groups.{ap2}
use Rattle.nm_world.specs.Worlds.{is_same}

-- what holds of both choices, each where it is made, holds of the choice
pub decide : {A : Type 0} (P : A → Type 0) (t : Bool) (x y : A) → (t ≡ true → P x) → (t ≡ false → P y) → P (if t then x else y)
decide P true x y p q = p refl
decide P false x y p q = q refl

-- what holds of x where two numbers are the same, and of y where they are not, holds of the choice
pub choose : {A : Type 0} (P : A → Type 0) (k j : ℕ) (x y : A) → (k ≡ j → P x) → (k ≢ j → P y) → P (if k == j then x else y)
choose P k j x y p q = decide P (k == j) x y (λ e. p (eqb-true k j e)) (λ e. q (eqb-false k j e))

one : (s t : Bool) → s ≡ true → t ≡ true → (s && t) ≡ true
one s t e h = rw (e, h) refl

true_or : (s t : Bool) → (s && t) ≡ false → s ≡ true → t ≡ true → ⊥
true_or true true n e h = cc
true_or true false n e h = cc
true_or false t n e h = cc

-- the same of two pairs of numbers
pub choose_both : {A : Type 0} (P : A → Type 0) (a b k j : ℕ) (x y : A) → (a ≡ b → k ≡ j → P x) → (a ≢ b → P y) → (k ≢ j → P y) → P (if (a == b) && (k == j) then x else y)
choose_both P a b k j x y p q r =
    decide P ((a == b) && (k == j)) x y
    (λ e. let parts = and_parts (a == b) (k == j) e in p (eqb-true a b parts.0) (eqb-true k j parts.1))
    (λ e. decide (λ (_ : Bool). P y) (a == b) true true
    (λ h. r (λ s. true_or (a == b) (k == j) e h (eq-eqb k j s)))
    (λ h. q (eqb-false a b h)))

-- names that are found to be the same are the same
tells : (c d : Where) → is_same c d ≡ true → c ≡ d
tells Req Req e = refl
tells (Pte v) (Pte u) e = ap Pte (sym (eqb-true u v e))
tells (Stamp v) (Stamp u) e = ap Stamp (sym (eqb-true u v e))
tells (Home v) (Home u) e = ap Home (sym (eqb-true u v e))
tells (Shadow v) (Shadow u) e = ap Shadow (sym (eqb-true u v e))
tells (Lock v) (Lock u) e = ap Lock (sym (eqb-true u v e))
tells (Mark v) (Mark u) e = ap Mark (sym (eqb-true u v e))
tells (Ack v) (Ack u) e = ap Ack (sym (eqb-true u v e))
tells (Turn v) (Turn u) e = ap Turn (sym (eqb-true u v e))
tells (Free t k) (Free u j) e = let both = and_parts (u == t) (j == k) e in ap2 Free (sym (eqb-true u t both.0)) (sym (eqb-true j k both.1))
tells (Mem f i) (Mem h j) e = let both = and_parts (h == f) (j == i) e in ap2 Mem (sym (eqb-true h f both.0)) (sym (eqb-true j i both.1))
tells c d e = absurd cc

same_name : (c : Where) → is_same c c ≡ true
same_name Req = refl
same_name (Pte v) = eq-eqb v v refl
same_name (Stamp v) = eq-eqb v v refl
same_name (Home v) = eq-eqb v v refl
same_name (Shadow v) = eq-eqb v v refl
same_name (Lock v) = eq-eqb v v refl
same_name (Mark v) = eq-eqb v v refl
same_name (Ack v) = eq-eqb v v refl
same_name (Turn v) = eq-eqb v v refl
same_name (Free t k) = one (t == t) (k == k) (eq-eqb t t refl) (eq-eqb k k refl)
same_name (Mem f i) = one (f == f) (i == i) (eq-eqb f f refl) (eq-eqb i i refl)

not_same : (c d : Where) → is_same c d ≡ false → c ≢ d
not_same c d e s = let same : is_same c d ≡ true = subst (λ (d : Where). is_same c d ≡ true) s (same_name c) in cc

-- the same of two names
pub choose_name : {A : Type 0} (P : A → Type 0) (c d : Where) (x y : A) → (c ≡ d → P x) → (c ≢ d → P y) → P (if is_same c d then x else y)
choose_name P c d x y p q = decide P (is_same c d) x y (λ e. p (tells c d e)) (λ e. q (not_same c d e))
