-- What fields are, and that they are found again in a line that was made of them.
use Rattle.std.proofs.Common.{◌≡◌, ℕ, List, ◌∷◌, ◌++◌, Option, Some, None, refl, ap, ◌∙◌, subst}
use Rattle.std.proofs.lemmas.Option.{none-some, same_Some}
use Rattle.nm_text.specs.Cuts.{Lacks, cut_of}
use Rattle.nm_text.specs.Fields.{◌>>=◌, uncut, unspaced_of, one_of, two_of, three_of}
use Rattle.nm_text.proofs.CutLemmas.{cut_of-some, cut_of-none, cut_of-again, cut_of-lacks, strip_of-some, strip_of-again}

-- ---- what a field is

pub chained_option : {A B : Type 0} (o : Option A) (f : A → Option B) (y : B) → (o >>= f) ≡ Some y → (x : A) × ((o ≡ Some x) × (f x ≡ Some y))
chained_option None f y e = absurd (none-some y e)
chained_option (Some x) f y e = (x, (refl, e))

uncut-lacks : (o : Option (List ℕ × List ℕ)) (field f : List ℕ) → cut_of 32 field ≡ o → uncut o field ≡ Some f → (field ≡ f) × Lacks 32 f
uncut-lacks None field f c e =
    let same : field ≡ f = same_Some _ _ e in
    (same, subst (λ g. Lacks 32 g) same (cut_of-none 32 field c))
uncut-lacks (Some p) field f c e = absurd (none-some f e)

unspaced_of-parts : (field f : List ℕ) → unspaced_of field ≡ Some f → (field ≡ f) × Lacks 32 f
unfolding unspaced_of
unspaced_of-parts field f e = uncut-lacks (cut_of 32 field) field f refl e

-- the line is the word and the field, which has no space
pub one_of-parts : (word line f : List ℕ) → one_of word line ≡ Some f → (line ≡ word ++ f) × Lacks 32 f
unfolding one_of
one_of-parts word line f e =
    let rest = chained_option _ _ _ e in
    let f_ = unspaced_of-parts rest.0 f rest.1.1 in
    (strip_of-some word line rest.0 rest.1.0 ∙ ap (λ r. word ++ r) f_.0, f_.1)

pub two_of-parts : (word line : List ℕ) (p : List ℕ × List ℕ) → two_of word line ≡ Some p → (line ≡ word ++ (p.0 ++ 32 ∷ p.1)) × Lacks 32 p.0 × Lacks 32 p.1
unfolding two_of
two_of-parts word line p e =
    let rest = chained_option _ _ _ e in
    let a = chained_option _ _ _ rest.1.1 in
    let b = chained_option _ _ _ a.1.1 in
    let x = cut_of-some 32 rest.0 a.0 a.1.0 in
    let y = unspaced_of-parts a.0.1 b.0 b.1.0 in
    subst (λ (q : List ℕ × List ℕ). (line ≡ word ++ (q.0 ++ 32 ∷ q.1)) × Lacks 32 q.0 × Lacks 32 q.1) (same_Some _ _ b.1.1)
    (strip_of-some word line rest.0 rest.1.0 ∙ ap (λ r. word ++ r) (x.0 ∙ ap (λ r. a.0.0 ++ 32 ∷ r) y.0), x.1, y.1)

pub three_of-parts : (word line : List ℕ) (p : List ℕ × List ℕ × List ℕ) → three_of word line ≡ Some p → (line ≡ word ++ (p.0 ++ 32 ∷ (p.1 ++ 32 ∷ p.2))) × Lacks 32 p.0 × Lacks 32 p.1 × Lacks 32 p.2
unfolding three_of
three_of-parts word line p e =
    let rest = chained_option _ _ _ e in
    let a = chained_option _ _ _ rest.1.1 in
    let b = chained_option _ _ _ a.1.1 in
    let c = chained_option _ _ _ b.1.1 in
    let x = cut_of-some 32 rest.0 a.0 a.1.0 in
    let y = cut_of-some 32 a.0.1 b.0 b.1.0 in
    let z = unspaced_of-parts b.0.1 c.0 c.1.0 in
    subst (λ (q : List ℕ × List ℕ × List ℕ). (line ≡ word ++ (q.0 ++ 32 ∷ (q.1 ++ 32 ∷ q.2))) × Lacks 32 q.0 × Lacks 32 q.1 × Lacks 32 q.2) (same_Some _ _ c.1.1)
    (strip_of-some word line rest.0 rest.1.0 ∙ ap (λ r. word ++ r) (x.0 ∙ ap (λ r. a.0.0 ++ 32 ∷ r) (y.0 ∙ ap (λ r. b.0.0 ++ 32 ∷ r) z.0)), x.1, y.1, z.1)

-- the line is the word and its fields
pub one_of-some : (word line f : List ℕ) → one_of word line ≡ Some f → line ≡ word ++ f
one_of-some word line f e = (one_of-parts word line f e).0

pub two_of-some : (word line : List ℕ) (p : List ℕ × List ℕ) → two_of word line ≡ Some p → line ≡ word ++ (p.0 ++ 32 ∷ p.1)
two_of-some word line p e = (two_of-parts word line p e).0

pub three_of-some : (word line : List ℕ) (p : List ℕ × List ℕ × List ℕ) → three_of word line ≡ Some p → line ≡ word ++ (p.0 ++ 32 ∷ (p.1 ++ 32 ∷ p.2))
three_of-some word line p e = (three_of-parts word line p e).0

-- ---- fields found again

unspaced_of-again : (f : List ℕ) → Lacks 32 f → unspaced_of f ≡ Some f
unfolding unspaced_of
unspaced_of-again f h = rw (cut_of-lacks 32 f h) refl

pub one_of-again : (word f : List ℕ) → Lacks 32 f → one_of word (word ++ f) ≡ Some f
unfolding one_of
one_of-again word f h = rw (strip_of-again word f) (unspaced_of-again f h)

pub two_of-again : (word a b : List ℕ) → Lacks 32 a → Lacks 32 b → two_of word (word ++ (a ++ 32 ∷ b)) ≡ Some (a, b)
unfolding two_of
two_of-again word a b h k = rw (strip_of-again word (a ++ 32 ∷ b)) (rw (cut_of-again 32 a b h) (rw (unspaced_of-again b k) refl))

pub three_of-again : (word a b c : List ℕ) → Lacks 32 a → Lacks 32 b → Lacks 32 c → three_of word (word ++ (a ++ 32 ∷ (b ++ 32 ∷ c))) ≡ Some (a, b, c)
unfolding three_of
three_of-again word a b c h k l =
    rw (strip_of-again word (a ++ 32 ∷ (b ++ 32 ∷ c))) (rw (cut_of-again 32 a (b ++ 32 ∷ c) h) (rw (cut_of-again 32 b c k) (rw (unspaced_of-again c l) refl)))
