-- Lists that grow in memory.
use Rattle.std.proofs.Common.{◌≡◌, ℕ, zero, suc, ◌+◌, ◌-◌, ◌≤◌, List, [], ◌∷◌, ◌++◌, map, length, get_or, set, replicate, refl, sym, ap, ◌∙◌, append_assoc, arith, length-append}
use Rattle.nm_script.specs.declared.script.Line.{Line}
use Rattle.nm_script.specs.Told.{with_line}

-- a line more of the last program
pub with_line-set : {V : Type 0} (items : V → List Line) (ps : List V) (new : V) (l : Line) (d : V) (i : ℕ) → i + 1 ≡ length ps → items new ≡ items (get_or ps i d) ++ l ∷ [] → map items (set ps i new) ≡ with_line (map items ps) l
with_line-set items [] new l d i h e = absurd (omega (arith, h))
with_line-set items (p ∷ []) new l d zero h e = ap (λ t. t ∷ []) e
with_line-set items (p ∷ []) new l d (suc i) h e = absurd (omega (arith, h))
with_line-set items (p ∷ q ∷ ps) new l d zero h e = absurd (omega (arith, h))
with_line-set items (p ∷ q ∷ ps) new l d (suc i) h e = ap (λ t. items p ∷ t) (with_line-set items (q ∷ ps) new l d i (omega (arith, h)) e)

-- one more of the same
pub replicate-more : {X : Type 0} (n : ℕ) (x : X) → replicate (suc n) x ≡ replicate n x ++ x ∷ []
replicate-more zero x = refl
replicate-more (suc n) x = ap (λ t. x ∷ t) (replicate-more n x)

-- an empty place more
pub places-more : {X : Type 0} (x : X) (old now new : List X) → now ≡ old ++ replicate (length now - length old) x → length old ≤ length now → new ≡ now ++ x ∷ [] → new ≡ old ++ replicate (length new - length old) x
places-more x old now new e h f =
    let len : length new ≡ length now + 1 = ap length f ∙ length-append now (x ∷ []) in
    let next : length new - length old ≡ suc (length now - length old) = omega arith in
    f ∙ ap (λ t. t ++ x ∷ []) e ∙ append_assoc old (replicate (length now - length old) x) (x ∷ []) ∙ ap (λ t. old ++ t) (sym (replicate-more (length now - length old) x) ∙ ap (λ n. replicate n x) (sym next))
