-- A text has its records, and no others.
use Rattle.std.proofs.Common.{◌≡◌, ◌≤◌, ℕ, zero, suc, false, List, [], ◌∷◌, ◌++◌, length, Option, Some, None, refl, sym, ap, subst, ◌∙◌, arith}
use Rattle.std.proofs.lemmas.Option.{same_Some}
use Rattle.csv.specs.Machine.{Read, next_record, ends_at_end}
use Rattle.csv.specs.Reading.{AreRecords, Reached, default_config, strip_bom}
use Rattle.csv.specs.declared.parser.State.{State}
use Rattle.csv.specs.declared.parser.State.TheVariants as st
use Rattle.nm_trace.specs.Imports.{HasRecords, BeginsWith}
use Rattle.nm_trace.proofs.Rows.{between, strictly-shorter}

none-some : {A : Type 0} (o : Option A) (x : A) → o ≡ None → o ≡ Some x → ⊥
none-some None x a b = cc b
none-some (Some y) x a b = cc a

-- records that a text begins with are the first of its records
prefix-of : (s t : State) (xs ys : List ℕ) (p all : List (List (List ℕ))) → Reached default_config s xs p t ys → AreRecords default_config s xs all
    → (rest : List (List (List ℕ))) × (all ≡ p ++ rest) × AreRecords default_config t ys rest
unfolding Reached
prefix-of s t xs ys [] all h a = (all, refl, subst (λ u. AreRecords default_config u ys all) h.0 (subst (λ z. AreRecords default_config s z all) h.1 a))
prefix-of s t xs ys (r ∷ rs) [] h (s2, zs, same, none) =
    absurd (none-some (next_record default_config s [] [] xs) h.0 (subst (λ u. next_record default_config u [] [] xs ≡ None) (sym same.0) (subst (λ z. next_record default_config s2 [] [] z ≡ None) (sym same.1) none)) h.1)
prefix-of s t xs ys (r ∷ rs) (b ∷ bs) h (s2, zs, g, none) =
    let same : g.0 ≡ h.0 = same_Some _ _ (sym g.1 ∙ h.1) in
    let rest : Reached default_config h.0.1 h.0.2 bs s2 zs = subst (λ (q : Read). Reached default_config q.1 q.2 bs s2 zs) same g.3 in
    let more = prefix-of h.0.1 t h.0.2 ys rs bs h.3 (s2, zs, rest, none) in
    (more.0, ap (λ x. x ∷ bs) (g.2 ∙ ap (λ (q : Read). q.0) same ∙ sym h.2) ∙ ap (λ l. r ∷ l) more.1, more.2)

nothing-left : (s : State) (xs : List ℕ) (rest : List (List (List ℕ))) → next_record default_config s [] [] xs ≡ None → AreRecords default_config s xs rest → rest ≡ []
unfolding Reached
nothing-left s xs [] none h = refl
nothing-left s xs (r ∷ rs) none (s2, zs, g, e) = absurd (none-some (next_record default_config s [] [] xs) g.0 none g.1)

append-none : (p rest : List (List (List ℕ))) → rest ≡ [] → p ++ rest ≡ p
append-none [] rest e = e
append-none (r ∷ rs) rest e = ap (λ l. r ∷ l) (append-none rs rest e)

-- so they are no others
pub one-list : (bytes : List ℕ) (a b : List (List (List ℕ))) → HasRecords bytes a → HasRecords bytes b → b ≡ a
one-list bytes a b (s, ys, reached, none) h =
    let p = prefix-of st.StartRecord s (strip_bom bytes) ys a b reached h in
    p.1 ∙ append-none a p.0 (nothing-left s ys p.0 none p.2)

records-of : (n : ℕ) (s : State) (xs : List ℕ) (o : Option Read) → length xs ≤ n → ends_at_end s ≡ false → next_record default_config s [] [] xs ≡ o → (rows : List (List (List ℕ))) × AreRecords default_config s xs rows
unfolding Reached
records-of n s xs None h b e = ([], (s, xs, (refl, refl), e))
records-of zero s xs (Some p) h b e = absurd (omega (arith, h, strictly-shorter s [] [] xs p b e))
records-of (suc n) s xs (Some p) h b e =
    let more = records-of n p.1 p.2 (next_record default_config p.1 [] [] p.2) (omega (arith, h, strictly-shorter s [] [] xs p b e)) (between s [] [] xs p e) refl in
    (p.0 ∷ more.0, (more.1.0, more.1.1, (p, e, refl, more.1.2), more.1.3))

-- every text that begins with records has them and more
pub whole-of : (bytes : List ℕ) (p : List (List (List ℕ))) → BeginsWith bytes p → (rest : List (List (List ℕ))) × HasRecords bytes (p ++ rest)
whole-of bytes p (s, ys, reached) =
    let all = records-of (length (strip_bom bytes)) st.StartRecord (strip_bom bytes) (next_record default_config st.StartRecord [] [] (strip_bom bytes)) (omega arith) refl refl in
    let q = prefix-of st.StartRecord s (strip_bom bytes) ys p all.0 reached all.1 in
    (q.0, subst (HasRecords bytes) q.1 all.1)
