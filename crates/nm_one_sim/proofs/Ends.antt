-- A state has one list of end words.
use Rattle.std.proofs.Common.{◌≡◌, Bool, true, false, IsTrue, ℕ, List, Option, refl, sym, ap, ◌∙◌}
use Rattle.nm_core.specs.declared.ends.Role.{Role}
use Rattle.nm_core.specs.State.{State}
use Rattle.nm_core.specs.EndWords.{EndWords, IsEndOf}

same-truth : (a b : Bool) → (IsTrue a → IsTrue b) → (IsTrue b → IsTrue a) → a ≡ b
same-truth true true there back = refl
same-truth false false there back = refl
same-truth true false there back = sym (there refl)
same-truth false true there back = back refl

same-words : (a b : EndWords) → a.homes ≡ b.homes → a.shadows ≡ b.shadows → a.marks ≡ b.marks → a.roles ≡ b.roles → a.settled ≡ b.settled → a ≡ b
same-words a b homes shadows marks roles settled =
    let words : List (Option ℕ) → List (Option (ℕ × ℕ)) → List ℕ → List Role → Bool → EndWords = λ h s m r t. record { homes = h; shadows = s; marks = m; roles = r; settled = t } in
    ap (λ h. words h a.shadows a.marks a.roles a.settled) homes ∙ ap (λ s. words b.homes s a.marks a.roles a.settled) shadows ∙ ap (λ m. words b.homes b.shadows m a.roles a.settled) marks
    ∙ ap (λ r. words b.homes b.shadows b.marks r a.settled) roles ∙ ap (λ t. words b.homes b.shadows b.marks b.roles t) settled

pub one-end : (s : State) (a b : EndWords) → IsEndOf s a → IsEndOf s b → a ≡ b
one-end s a b h k =
    same-words a b (h.homes ∙ sym k.homes) (h.shadows ∙ sym k.shadows) (h.marks ∙ sym k.marks) (h.roles ∙ sym k.roles)
    (same-truth a.settled b.settled (λ is. k.settled.1 (h.settled.0 is)) (λ is. h.settled.1 (k.settled.0 is)))
