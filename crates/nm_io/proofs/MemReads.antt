-- What a read of a source over memory does to the bytes left.
use Rattle.std.proofs.Common.{◌≡◌, ℕ, ◌+◌, ◌<◌, ◌≤◌, min, List, [], ◌∷◌, ◌++◌, length, take, drop, sym, ap, ◌∙◌, refl, arith, take-append-drop}
use Rattle.std.specs.Prelude.{◌↔◌}
use Rattle.std.proofs.lemmas.List.{drop-drop}
use Rattle.std.proofs.Math.Seq.{take-append_seam}
use Rattle.std.proofs.lemmas.Grind.{common_steps}

-- n bytes moved from the front of what was left to the front of the slice
pub moved_front : (left into part items : List ℕ) (taken n : ℕ) → drop taken items ≡ left → part ≡ take n left → length part ≡ n
    → left ≡ take n (part ++ drop n into) ++ drop (taken + n) items
moved_front left into part items taken n is copied long =
    sym (take-append-drop n left) ∙ ap (λ l. l ++ drop n left) (sym copied)
    ∙ ap (λ l. l ++ drop n left) (sym (ap (λ k. take k (part ++ drop n into)) (sym long) ∙ take-append_seam part (drop n into)))
    ∙ ap (λ l. take n (part ++ drop n into) ++ l) (ap (drop n) (sym is) ∙ drop-drop n taken items)

-- the slice's front is what was moved there
pub front_moved : (left into part : List ℕ) (n : ℕ) → part ≡ take n left → length part ≡ n → take n (part ++ drop n into) ≡ take n left
front_moved left into part n copied long = ap (λ k. take k (part ++ drop n into)) (sym long) ∙ take-append_seam part (drop n into) ∙ copied

-- none moved into a slice with room exactly where none was left
pub moved_none : (left into part : List ℕ) (piece m n : ℕ) → length part ≡ n → 1 ≤ piece → m ≡ min (length into) piece → n ≡ min m (length left)
    → 0 < length (part ++ drop n into) → (n ≡ 0) ↔ (left ≡ [])
moved_none [] into part piece m n long some first count room = (λ _. refl, λ _. grind (arith, common_steps))
moved_none (x ∷ left) into part piece m n long some first count room = (λ none. absurd (grind (arith, common_steps)), λ e. absurd (cc))
