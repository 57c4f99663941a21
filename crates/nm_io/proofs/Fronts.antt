-- The front of a list that reads filled so far, or that writes took so far.
use Rattle.std.proofs.Common.{◌≡◌, ℕ, ◌+◌, ◌-◌, List, ◌++◌, length, take, drop, Option, sym, ap, ◌∙◌, subst, arith}
use Rattle.std.proofs.lemmas.List.{take-append-drop, take-take, drop-take, drop-drop, take_rest}
use Rattle.std.specs.Io.KnownBytes.{Appends, Consumes}
use Rattle.std.proofs.KnownBytes.{Appends-trans, Consumes-trans}

-- a front is a shorter front and what lies behind that
pub take-add : (m n : ℕ) (xs : List ℕ) → take (m + n) xs ≡ take m xs ++ take n (drop m xs)
take-add m n xs =
    sym (take-append-drop m (take (m + n) xs)) ∙ ap (λ l. l ++ drop m (take (m + n) xs)) (take-take m (m + n) xs (omega arith))
    ∙ ap (λ l. take m xs ++ l) (drop-take m n xs)

-- a source lost the front of `items`, and then n bytes more, which stand behind that front in `longer`
pub Consumes-behind : (first now new : Option (List ℕ)) (items longer : List ℕ) (taken n : ℕ) → Consumes first now (take taken items)
    → take taken longer ≡ take taken items → Consumes now new (take n (drop taken longer)) → Consumes first new (take (taken + n) longer)
Consumes-behind first now new items longer taken n lost front more =
    subst (Consumes first new) (sym (take-add taken n longer ∙ ap (λ l. l ++ take n (drop taken longer)) front)) (Consumes-trans first now new _ _ lost more)

-- a sink was given the front of `bytes`, and then n bytes of the rest
pub Appends-behind : (first now new : Option (List ℕ)) (bytes rest : List ℕ) (done n : ℕ) → rest ≡ drop done bytes
    → Appends first now (take done bytes) → Appends now new (take n rest) → Appends first new (take (done + n) bytes)
Appends-behind first now new bytes rest done n left given more =
    subst (Appends first new) (ap (λ l. take done bytes ++ take n l) left ∙ sym (take-add done n bytes)) (Appends-trans first now new _ _ given more)

-- what is left of the rest behind n bytes more
pub rest_behind : (bytes rest : List ℕ) (done n : ℕ) → rest ≡ drop done bytes → take (length rest - n) (drop n rest) ≡ drop (done + n) bytes
rest_behind bytes rest done n left = take_rest rest n ∙ ap (drop n) left ∙ drop-drop n done bytes
