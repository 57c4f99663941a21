-- A text behind a script part holds, or has one first line that is wrong, and never both.
use Rattle.std.proofs.Common.{◌≡◌, ◌≢◌, ℕ, suc, ◌+◌, ◌<◌, ◌≤◌, ◌==◌, true, false, List, [], ◌∷◌, ◌++◌, length, Option, Some, None, codes, refl, sym, ap, ◌∙◌, subst, arith, append_assoc, append-nil, inl, inr}
use Rattle.std.specs.Prelude.{◌⊎◌}
use Rattle.std.specs.List.{AllByRecursion}
use Rattle.std.proofs.lemmas.Bool.{cases_order}
use Rattle.nm_core.specs.EndWords.{EndWords}
use Rattle.nm_script.specs.Plain.{Script}
use Rattle.nm_script.specs.Items.{line}
use Rattle.nm_report.specs.Texts.{settled_text}
use Rattle.nm_text.specs.Cuts.{Lacks, cut_of}
use Rattle.nm_text.proofs.CutLemmas.{cut_of-some, cut_of-none, Lacks-parts}
use Rattle.nm_journal_text.specs.Journals.{told_text, events_text, body_text, EndsLine, IsBody}
use Rattle.nm_journal_text.specs.Verdicts.{joined, IsBegun, IsFirstWrong}
use Rattle.nm_journal_text.proofs.Wrong.{one_line, front_line}

-- ---- a body ends with a newline

ends_behind : (a b : List ℕ) → EndsLine b → EndsLine (a ++ b)
ends_behind a b h = record { front = a ++ h.front; is = ap (λ t. a ++ t) h.is ∙ sym (append_assoc a h.front (10 ∷ [])) }

ends_settled : (b : _) → EndsLine (settled_text b)
ends_settled true = record { front = codes "settled yes"; is = refl }
ends_settled false = record { front = codes "settled no"; is = refl }

body_ends : (script : Script) (body : List ℕ) → IsBody script body → EndsLine body
body_ends script body h =
    subst EndsLine (sym h.is)
    (ends_behind (line (codes "events")) _ (ends_behind (events_text h.events) _ (ends_behind (line (codes "report")) _ (ends_behind _ (settled_text h.end.settled) (ends_settled h.end.settled)))))

-- what stands last in a text that ends with a newline has one
last_has : (xs rest ys : List ℕ) → xs ++ rest ≡ ys ++ 10 ∷ [] → rest ≢ [] → ¬ Lacks 10 rest
last_has [] rest ys e some lacks = let parts = Lacks-parts 10 ys (10 ∷ []) (subst (Lacks 10) e lacks) in absurd (let f : true ≡ false = parts.1 in cc)
last_has (x ∷ xs) rest [] e some lacks = some (nil xs rest (let f : xs ++ rest ≡ [] = cc in f))
  where
    nil : (a b : List ℕ) → a ++ b ≡ [] → b ≡ []
    nil [] b e = e
    nil (c ∷ a) b e = absurd cc
last_has (x ∷ xs) rest (y ∷ ys) e some lacks = let f : xs ++ rest ≡ ys ++ 10 ∷ [] = cc in last_has xs rest ys f some lacks

-- ---- beginnings

pub joined_both : (xs ys : List (List ℕ)) → joined (xs ++ ys) ≡ joined xs ++ joined ys
joined_both [] ys = refl
joined_both (x ∷ xs) ys = ap (λ t. line x ++ t) (joined_both xs ys) ∙ sym (append_assoc (line x) (joined xs) (joined ys))

-- a front of a beginning is one
pub begun_part : (script : Script) (xs ys : List (List ℕ)) → IsBegun script (xs ++ ys) → IsBegun script xs
begun_part script xs ys h = record { more = joined ys ++ h.more; holds = subst (IsBody script) (ap (λ t. t ++ h.more) (joined_both xs ys) ∙ append_assoc (joined xs) (joined ys) h.more) h.holds }

-- of two fronts of a text the longer one goes on where the shorter ends
record GoesOnWith (xs ys : List (List ℕ)) (rest : List ℕ) : Type 0 where
  l : List ℕ
  more : List (List ℕ)
  after : List ℕ
  is : ys ≡ xs ++ l ∷ more
  lacks : Lacks 10 l
  next : rest ≡ l ++ 10 ∷ after

longer_front : (xs ys : List (List ℕ)) (rest end : List ℕ) → AllByRecursion (Lacks 10) xs → AllByRecursion (Lacks 10) ys → joined xs ++ rest ≡ joined ys ++ end → length xs < length ys → GoesOnWith xs ys rest
longer_front xs [] rest end h k e lt = absurd (omega (arith, lt))
longer_front [] (y ∷ ys) rest end h k e lt = record { l = y; more = ys; after = joined ys ++ end; is = refl; lacks = k.0; next = e ∙ append_assoc (line y) (joined ys) end ∙ front_line y (joined ys ++ end) }
longer_front (x ∷ xs) (y ∷ ys) rest end h k e lt =
    let s = one_line x y (joined xs ++ rest) (joined ys ++ end) h.0 k.0 (sym (append_assoc (line x) (joined xs) rest ∙ front_line x (joined xs ++ rest)) ∙ e ∙ append_assoc (line y) (joined ys) end ∙ front_line y (joined ys ++ end)) in
    let g = longer_front xs ys rest end h.1 k.1 s.1 (omega (arith, lt)) in
    record { l = g.l; more = g.more; after = g.after; is = cons x y ys (xs ++ g.l ∷ g.more) s.0 g.is; lacks = g.lacks; next = g.next }
  where
    cons : (x y : List ℕ) (ys zs : List (List ℕ)) → x ≡ y → ys ≡ zs → ◌≡◌ {A = List (List ℕ)} (y ∷ ys) (x ∷ zs)
    cons x y ys zs e f = cc

shorter_never : (script : Script) (body : List ℕ) (n m : ℕ) → (h : IsFirstWrong script body n) → (k : IsFirstWrong script body m) → length h.front < length k.front → ⊥
shorter_never script body n m h k lt =
    let g = longer_front h.front k.front h.rest k.rest h.lines k.lines (sym h.is ∙ k.is) lt in
    let again : k.front ≡ (h.front ++ g.l ∷ []) ++ g.more = g.is ∙ sym (append_assoc h.front (g.l ∷ []) g.more) in
    h.wrong g.l g.after g.lacks g.next (begun_part script (h.front ++ g.l ∷ []) g.more (subst (IsBegun script) again k.begun))

-- there is one first line that is wrong
pub one_wrong : (script : Script) (body : List ℕ) (n m : ℕ) → IsFirstWrong script body n → IsFirstWrong script body m → n ≡ m
one_wrong script body n m h k = elim (cases_order (length h.front) (length k.front)) as (λ _. n ≡ m) [
  | inl same ↦ h.count ∙ same ∙ sym k.count
  | inr other ↦ elim other as (λ _. n ≡ m) [ inl lt ↦ absurd (shorter_never script body n m h k lt) | inr lt ↦ absurd (shorter_never script body m n k h lt) ]
]

-- and none in a journal that holds
pub apart : (script : Script) (body : List ℕ) (n : ℕ) → IsBody script body → ¬ IsFirstWrong script body n
apart script body n b h = go h.rest (cut_of 10 h.rest) refl refl
  where
    go : (rest : List ℕ) (o : Option (List ℕ × List ℕ)) → h.rest ≡ rest → cut_of 10 rest ≡ o → ⊥
    go [] o none cut = h.short none b
    go (x ∷ rest) None is cut =
        let ends = body_ends script body b in
        last_has (joined h.front) h.rest ends.front (sym h.is ∙ ends.is) (λ none. let f : x ∷ rest ≡ [] = sym is ∙ none in cc) (subst (Lacks 10) (sym is) (cut_of-none 10 (x ∷ rest) cut))
    go (x ∷ rest) (Some p) is cut =
        let parts = cut_of-some 10 (x ∷ rest) p cut in
        let next : h.rest ≡ p.0 ++ 10 ∷ p.1 = is ∙ parts.0 in
        h.wrong p.0 p.1 parts.1 next (record {
          more = p.1;
          holds = subst (IsBody script) (h.is ∙ ap (λ t. joined h.front ++ t) (next ∙ sym (front_line p.0 p.1)) ∙ sym (append_assoc (joined h.front) (line p.0) p.1) ∙ ap (λ t. t ++ p.1) (ap (λ t. joined h.front ++ t) (sym (append-nil (line p.0))) ∙ sym (joined_both h.front (p.0 ∷ [])))) b;
        })
