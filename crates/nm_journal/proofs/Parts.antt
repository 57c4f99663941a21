-- Where the script part of a journal ends.
use Rattle.std.proofs.Common.{◌≡◌, ◌≢◌, ℕ, ◌+◌, ◌-◌, ◌<◌, ◌≤◌, List, [], ◌∷◌, ◌++◌, length, take, drop, None, Some, codes, refl, sym, ap, ◌∙◌, subst, arith, append_assoc, append-nil, length-append, inl, inr}
use Rattle.std.specs.Prelude.{◌⊎◌}
use Rattle.std.specs.List.{AllByRecursion}
use Rattle.std.proofs.Math.Seq.{take-append_seam, drop-append_seam}
use Rattle.nm_script.specs.Items.{line}
use Rattle.nm_text.specs.Cuts.{Lacks, cut_of}
use Rattle.nm_text.specs.Fields.{lines_of}
use Rattle.nm_text.proofs.CutLemmas.{cut_of-some}
use Rattle.nm_text.proofs.LineLemmas.{lines-joined, lines-last}
use Rattle.nm_journal_text.specs.Journals.{EndsLine}
use Rattle.nm_journal_text.specs.Verdicts.{IsScriptPart, joined}
use Rattle.nm_journal_text.proofs.Wrong.{front_line}
use Rattle.nm_journal_text.proofs.Differences.{behind}
use Rattle.nm_journal.specs.Parting.{IsPartedAt, IsPassedTo}

pub lines_front : (front : List (List ℕ)) (rest : List ℕ) → AllByRecursion (Lacks 10) front → lines_of (joined front ++ rest) ≡ front ++ lines_of rest
lines_front [] rest h = refl
lines_front (l ∷ front) rest h =
    ap lines_of (append_assoc (line l) (joined front) rest ∙ front_line l (joined front ++ rest)) ∙ lines-joined l (joined front ++ rest) h.0
    ∙ ap (λ t. l ∷ t) (lines_front front rest h.1)

pub lines_alone : (front : List (List ℕ)) → AllByRecursion (Lacks 10) front → lines_of (joined front) ≡ front
lines_alone front h = ap lines_of (sym (append-nil (joined front))) ∙ lines_front front [] h ∙ append-nil front

joined_ends : (l : List ℕ) (front : List (List ℕ)) → EndsLine (joined (l ∷ front))
joined_ends l [] = record { front = l; is = append-nil (line l) }
joined_ends l (m ∷ front) =
    let e = joined_ends m front in
    record { front = line l ++ e.front; is = ap (λ t. line l ++ t) e.is ∙ sym (append_assoc (line l) e.front (10 ∷ [])) }

ends : (front : List (List ℕ)) → (joined front ≡ []) ⊎ EndsLine (joined front)
ends [] = inl refl
ends (l ∷ front) = inr (joined_ends l front)

few_lines : (front : List (List ℕ)) → length front ≤ length (joined front)
few_lines [] = omega arith
few_lines (l ∷ front) = omega (arith, few_lines front, length-append (line l) (joined front), length-append l (10 ∷ []))

all_more : {A : Type 0} (P : A → Type 0) (xs : List A) (x : A) → AllByRecursion P xs → P x → AllByRecursion P (xs ++ x ∷ [])
all_more P [] x h k = (k, tt)
all_more P (y ∷ xs) x h k = (h.0, all_more P xs x h.1 k)

abbrev Other : List ℕ → Type 0
Other l = l ≢ codes "events"

made : (bytes part body : List ℕ) (place lines : ℕ) → take place bytes ≡ part → drop place bytes ≡ body → IsScriptPart bytes part body → lines ≡ length (lines_of part) → place ≤ length bytes → lines ≤ place → IsPartedAt bytes place lines
made bytes part body place lines t d h count le few = record {
  part = subst (λ (q : List ℕ). IsScriptPart bytes q (drop place bytes)) (sym t) (subst (λ (q : List ℕ). IsScriptPart bytes part q) (sym d) h);
  many = count ∙ ap (λ (q : List ℕ). length (lines_of q)) (sym t);
  within = le;
  few = few;
}

-- the line events stands there
pub parted_here : (bytes rest : List ℕ) (lines place : ℕ) (more : List (List ℕ)) → IsPassedTo bytes rest lines → place ≡ length bytes - length rest → lines_of rest ≡ codes "events" ∷ more → IsPartedAt bytes place lines
parted_here bytes rest lines place more h at first =
    let part : List ℕ = joined h.front in
    let sum = ap length h.is ∙ length-append part rest in
    let place_is : place ≡ length part = omega (arith, at, sum) in
    let alone = lines_alone h.front h.lacks in
    made bytes part rest place lines
    (ap (λ p. take p bytes) place_is ∙ ap (λ t. take (length part) t) h.is ∙ take-append_seam part rest)
    (ap (λ p. drop p bytes) place_is ∙ ap (λ t. drop (length part) t) h.is ∙ drop-append_seam part rest)
    (record { is = h.is; before = subst (AllByRecursion Other) (sym alone) h.others; cut = inr (ends h.front, (more, first)) })
    (h.count ∙ ap length (sym alone)) (omega (arith, place_is, sum)) (omega (arith, h.count, place_is, few_lines h.front))

-- no line events stands in the bytes
no_events : (bytes : List ℕ) (all : List (List ℕ)) (lines place : ℕ) → lines_of bytes ≡ all → AllByRecursion Other all → lines ≡ length all → place ≡ length bytes → lines ≤ place → IsPartedAt bytes place lines
no_events bytes all lines place are others count at few =
    made bytes bytes [] place lines
    (ap (λ p. take p bytes) at ∙ ap (λ t. take (length bytes) t) (sym (append-nil bytes)) ∙ take-append_seam bytes [])
    (ap (λ p. drop p bytes) at ∙ ap (λ t. drop (length bytes) t) (sym (append-nil bytes)) ∙ drop-append_seam bytes [])
    (record { is = sym (append-nil bytes); before = subst (AllByRecursion Other) (sym are) others; cut = inl refl })
    (count ∙ ap length (sym are)) (omega (arith, at)) few

pub parted_end : (bytes rest : List ℕ) (lines place : ℕ) → IsPassedTo bytes rest lines → place ≡ length bytes → rest ≡ [] → IsPartedAt bytes place lines
parted_end bytes rest lines place h at none =
    let is : bytes ≡ joined h.front = h.is ∙ ap (λ t. joined h.front ++ t) none ∙ append-nil (joined h.front) in
    no_events bytes h.front lines place (ap lines_of is ∙ lines_alone h.front h.lacks) h.others h.count at (omega (arith, h.count, at, ap length is, few_lines h.front))

pub parted_last : (bytes rest : List ℕ) (lines place : ℕ) → IsPassedTo bytes rest lines → cut_of 10 rest ≡ None → 0 < length rest → rest ≢ codes "events" → place ≡ length bytes → IsPartedAt bytes place (lines + 1)
parted_last bytes rest lines place h cut some other at =
    let last = lines-last rest cut (λ none. omega (arith, some, ap length none)) in
    no_events bytes (h.front ++ rest ∷ []) (lines + 1) place (ap lines_of h.is ∙ lines_front h.front rest h.lacks ∙ ap (λ t. h.front ++ t) last)
    (all_more Other h.front rest h.others other) (omega (arith, h.count, length-append h.front (rest ∷ []))) at
    (omega (arith, h.count, at, some, ap length h.is, length-append (joined h.front) rest, few_lines h.front))

-- the last line is events
pub events_last : (rest : List ℕ) → cut_of 10 rest ≡ None → rest ≡ codes "events" → lines_of rest ≡ codes "events" ∷ []
events_last rest cut is = lines-last rest cut (λ none. let f : codes "events" ≡ [] = sym is ∙ none in absurd cc) ∙ ap (λ l. l ∷ []) is

-- one line more is passed
pub passed_more : (bytes rest l after : List ℕ) (lines : ℕ) → IsPassedTo bytes rest lines → cut_of 10 rest ≡ Some (l, after) → l ≢ codes "events" → IsPassedTo bytes after (lines + 1)
passed_more bytes rest l after lines h cut other =
    let x = cut_of-some 10 rest (l, after) cut in
    record {
      front = h.front ++ l ∷ [];
      is = behind h.front l after bytes rest h.is x.0;
      lacks = all_more (Lacks 10) h.front l h.lacks x.1;
      others = all_more Other h.front l h.others other;
      count = omega (arith, h.count, length-append h.front (l ∷ []));
    }

pub passed_none : (bytes : List ℕ) → IsPassedTo bytes bytes 0
passed_none bytes = record { front = []; is = refl; lacks = tt; others = tt; count = refl }

-- as many lines were passed as bytes at the most
pub passed_few : (bytes rest : List ℕ) (lines : ℕ) → IsPassedTo bytes rest lines → lines + length rest ≤ length bytes
passed_few bytes rest lines h = omega (arith, h.count, ap length h.is, length-append (joined h.front) rest, few_lines h.front)
