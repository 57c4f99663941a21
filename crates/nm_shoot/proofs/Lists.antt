-- Own lists of shootdowns.
use Rattle.std.proofs.Common.{◌≡◌, ℕ, ◌+◌, List, [], ◌∷◌, ◌++◌, length, replicate, All, refl, sym, ap, append_assoc, add-zero, arith}
use Rattle.std.proofs.lemmas.List.{length-replicate, get_or-replicate}
use Rattle.std.proofs.lemmas.List.Elements.{All-append, All-nil, All-cons}
use Rattle.nm_action.specs.declared.action.Action.TheVariants.{SeeAck}
use Rattle.nm_action.specs.declared.action.Reply.TheVariants.{Word}
use Rattle.nm_action.specs.Own.{Own}
use Rattle.nm_shoot.specs.Shootdown.{asked, asked_from, IsAnswered}

pub All-push : {A : Type 0} (P : A → Type 0) (xs : List A) (x : A) → All P xs → P x → All P (xs ++ x ∷ [])
All-push P xs x h p = All-append P xs (x ∷ []) h (All-cons P x [] p (All-nil P))

pub asked-push : (p : ℕ) (ws : List ℕ) (w : ℕ) → asked p (ws ++ w ∷ []) ≡ asked p ws ++ (SeeAck p, Word w) ∷ []
asked-push p [] w = refl
asked-push p (x ∷ ws) w = ap (λ (l : Own). (SeeAck p, Word x) ∷ l) (asked-push p ws w)

pub asked_from-append : (p q : ℕ) (a b : List (List ℕ)) → q ≡ p + length a → asked_from p (a ++ b) ≡ asked_from p a ++ asked_from q b
asked_from-append p q [] b e = rw (e, add-zero p) refl
asked_from-append p q (ws ∷ a) b e = rw (asked_from-append (p + 1) q a b (omega (arith, e))) (sym (append_assoc (asked p ws) (asked_from (p + 1) a) (asked_from q b)))

-- one word of each processor, the number itself, is an answer
pub answered-number : (number k : ℕ) → All (IsAnswered number) (replicate k (number ∷ []))
answered-number number k = λ i d h. rw (get_or-replicate k i (number ∷ []) d (rw (length-replicate k (number ∷ [])) at h)) (record { early = []; last = number; is = refl; below = All-nil _; enough = omega arith })
