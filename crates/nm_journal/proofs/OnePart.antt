-- The script part of bytes is determined by them.
use Rattle.std.proofs.Common.{◌≡◌, ◌≢◌, ℕ, ◌==◌, Bool, true, false, List, [], ◌∷◌, ◌++◌, codes, refl, sym, ap, ◌∙◌, subst, append-nil, inl, inr}
use Rattle.std.specs.Prelude.{◌⊎◌}
use Rattle.std.specs.List.{AllByRecursion}
use Rattle.nm_text.specs.Cuts.{Lacks}
use Rattle.nm_text.proofs.CutLemmas.{Lacks-cons}
use Rattle.nm_text.specs.Fields.{lines_of}
use Rattle.std.proofs.lemmas.Bool.{eqb-true, eqb-false}
use Rattle.nm_journal_text.specs.Journals.{EndsLine}
use Rattle.nm_journal_text.specs.Verdicts.{IsScriptPart, joined}
use Rattle.nm_journal.proofs.Parts.{lines_front, lines_alone}

-- whole lines, and the text that they are
record IsOfLines (text : List ℕ) : Type 0 where
  lines : List (List ℕ)
  lacks : AllByRecursion (Lacks 10) lines
  is : text ≡ joined lines

-- a byte before whole lines
byte_before : (x : ℕ) (b : Bool) (text : List ℕ) → (x == 10) ≡ b → text ≢ [] → IsOfLines text → IsOfLines (x ∷ text)
byte_before x true text e some h =
    let same : x ≡ 10 = eqb-true x 10 e in
    record { lines = [] ∷ h.lines; lacks = (refl, h.lacks); is = ap (λ t. t ∷ text) same ∙ ap (λ t. 10 ∷ t) h.is }
byte_before x false text e some h = more h.lines h.lacks h.is
  where
    more : (lines : List (List ℕ)) → AllByRecursion (Lacks 10) lines → text ≡ joined lines → IsOfLines (x ∷ text)
    more [] lacks is = absurd (some is)
    more (l ∷ lines) lacks is = record { lines = (x ∷ l) ∷ lines; lacks = (Lacks-cons 10 x l (eqb-false x 10 e) lacks.0, lacks.1); is = ap (λ t. x ∷ t) is }

not_empty : (front : List ℕ) → front ++ 10 ∷ [] ≢ []
not_empty [] e = cc
not_empty (x ∷ front) e = cc

-- a text that ends with a newline is whole lines
whole_lines : (front : List ℕ) → IsOfLines (front ++ 10 ∷ [])
whole_lines [] = record { lines = [] ∷ []; lacks = (refl, tt); is = refl }
whole_lines (x ∷ front) = byte_before x (x == 10) (front ++ 10 ∷ []) refl (not_empty front) (whole_lines front)

of_lines : (part : List ℕ) → (part ≡ []) ⊎ EndsLine part → IsOfLines part
of_lines part (inl none) = record { lines = []; lacks = tt; is = none }
of_lines part (inr ends) = subst IsOfLines (sym ends.is) (whole_lines ends.front)

abbrev Other : List ℕ → Type 0
Other l = l ≢ codes "events"

-- what stands before the first line events
before_events : (xs ys more other : List (List ℕ)) → AllByRecursion Other xs → AllByRecursion Other ys → xs ++ codes "events" ∷ more ≡ ys ++ codes "events" ∷ other → xs ≡ ys
before_events [] [] more other h k e = refl
before_events [] (y ∷ ys) more other h k e = absurd (k.0 (let f : y ≡ codes "events" = cc in f))
before_events (x ∷ xs) [] more other h k e = absurd (h.0 (let f : x ≡ codes "events" = cc in f))
before_events (x ∷ xs) (y ∷ ys) more other h k e =
    let f : xs ++ codes "events" ∷ more ≡ ys ++ codes "events" ∷ other = cc in
    let g = before_events xs ys more other h.1 k.1 f in
    cc

-- a line events stands in no list without it
no_events : (xs ys more : List (List ℕ)) → AllByRecursion Other xs → xs ≢ ys ++ codes "events" ∷ more
no_events [] [] more h e = cc
no_events [] (y ∷ ys) more h e = cc
no_events (x ∷ xs) [] more h e = h.0 (let f : x ≡ codes "events" = cc in f)
no_events (x ∷ xs) (y ∷ ys) more h e = no_events xs ys more h.1 (let f : xs ≡ ys ++ codes "events" ∷ more = cc in f)

cancel : (a x y : List ℕ) → a ++ x ≡ a ++ y → x ≡ y
cancel [] x y e = e
cancel (c ∷ a) x y e = let f : a ++ x ≡ a ++ y = cc in cancel a x y f

-- the lines of a text that is cut at events
cut_lines : (bytes part body : List ℕ) (more : List (List ℕ)) → bytes ≡ part ++ body → IsOfLines part → lines_of body ≡ codes "events" ∷ more → lines_of bytes ≡ lines_of part ++ codes "events" ∷ more
cut_lines bytes part body more is h at =
    let lines : lines_of part ≡ h.lines = ap lines_of h.is ∙ lines_alone h.lines h.lacks in
    ap lines_of (is ∙ ap (λ t. t ++ body) h.is) ∙ lines_front h.lines body h.lacks ∙ ap (λ t. h.lines ++ t) at ∙ ap (λ (t : List (List ℕ)). t ++ codes "events" ∷ more) (sym lines)

abbrev Same : List ℕ → List ℕ → List ℕ → List ℕ → Type 0
Same p b q c = (p ≡ q) × (b ≡ c)

whole : (bytes p b : List ℕ) → bytes ≡ p ++ b → b ≡ [] → bytes ≡ p
whole bytes p b is none = is ∙ ap (λ t. p ++ t) none ∙ append-nil p

-- bytes with a line events don't lack it
never : (bytes p b q c : List ℕ) (more : List (List ℕ)) → IsScriptPart bytes p b → bytes ≡ q ++ c → b ≡ [] → (q ≡ []) ⊎ EndsLine q → lines_of c ≡ codes "events" ∷ more → ⊥
never bytes p b q c more h is none ends at =
    no_events (lines_of p) (lines_of q) more h.before (ap lines_of (sym (whole bytes p b h.is none)) ∙ cut_lines bytes q c more is (of_lines q ends) at)

pub one_part : (bytes p q b c : List ℕ) → IsScriptPart bytes p b → IsScriptPart bytes q c → (p ≡ q) × (b ≡ c)
one_part bytes p q b c h k = elim h.cut as (λ _. Same p b q c) [
  | inl none ↦ elim k.cut as (λ _. Same p b q c) [
    | inl also ↦ (sym (whole bytes p b h.is none) ∙ whole bytes q c k.is also, none ∙ sym also)
    | inr cut ↦ absurd (never bytes p b q c cut.1.0 h k.is none cut.0 cut.1.1)
  ]
  | inr cut ↦ elim k.cut as (λ _. Same p b q c) [
    | inl none ↦ absurd (never bytes q c p b cut.1.0 k h.is none cut.0 cut.1.1)
    | inr other ↦
        let one = of_lines p cut.0 in
        let two = of_lines q other.0 in
        let lines : lines_of p ≡ lines_of q = before_events (lines_of p) (lines_of q) cut.1.0 other.1.0 h.before k.before (sym (cut_lines bytes p b cut.1.0 h.is one cut.1.1) ∙ cut_lines bytes q c other.1.0 k.is two other.1.1) in
        let same : p ≡ q = one.is ∙ ap joined (sym (ap lines_of one.is ∙ lines_alone one.lines one.lacks) ∙ lines ∙ (ap lines_of two.is ∙ lines_alone two.lines two.lacks)) ∙ sym two.is in
        (same, cancel q b c (ap (λ t. t ++ b) (sym same) ∙ sym h.is ∙ k.is))
  ]
]
