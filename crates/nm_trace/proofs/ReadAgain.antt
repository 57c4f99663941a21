-- What the import of a script's trace gives.
use Rattle.std.proofs.Common.{◌≡◌, ◌⊎◌, ◌+◌, ◌*◌, ◌<◌, ◌≤◌, ◌^◌, ℕ, zero, suc, List, [], ◌∷◌, ◌++◌, length, map, flat_map, get_or, Option, Some, None, IsSome, IsSomeAnd, IsTrue, IfSome, Result, Ok, Err, refl, sym, ap, ◌∙◌, inl, inr, arith, append_assoc}
use Rattle.std.specs.List.{AllByRecursion}
use Rattle.nm_base.specs.declared.geometry.VPage.{VPage}
use Rattle.nm_base.specs.Geometry.{Geometry}
use Rattle.nm_script.specs.declared.script.Line.{Line}
use Rattle.nm_script.specs.declared.script.Line.TheVariants.{Load, Store, Add, Await}
use Rattle.nm_script.specs.Plain.{Script}
use Rattle.nm_script.specs.Script.{IsScript, IsAccess}
use Rattle.nm_trace.specs.declared.fault.TraceFault.{TraceFault}
use Rattle.nm_trace.specs.declared.fault.TraceFault.TheVariants as faults
use Rattle.nm_trace.specs.declared.reference.Reference.{Reference}
use Rattle.nm_trace.specs.References.{IsReference, record_of, header}
use Rattle.nm_trace.specs.Records.{reference_in}
use Rattle.nm_trace.specs.Traces.{HasTrace, references_by, references_from, trace_text}
use Rattle.nm_trace.specs.Imports.{HasRecords, HasNoHeader, IsFirstBadRow, IsFirstTraceFault, IsImport, IsRowFault, trace_rows, script_for}
use Rattle.nm_trace.specs.Laws.{IsReadAgain}
use Rattle.nm_trace.proofs.Again.{text-rows}
use Rattle.nm_trace.proofs.Outcome.{read-back}
use Rattle.nm_trace.proofs.Whole.{one-list, whole-of}

-- a virtual page that is mapped is in the list
some-lt : (vs : List (Option VPage)) (v : ℕ) → IsSome (get_or vs v None) → v < length vs
some-lt [] v h = cc h
some-lt (o ∷ vs) zero h = omega arith
some-lt (o ∷ vs) (suc v) h = omega (arith, some-lt vs v h)

and-some : (o : Option VPage) → IsSomeAnd o (λ p. IsTrue p.writable) → IsSome o
and-some None h = absurd h
and-some (Some p) h = refl

fits : (g : Geometry) (p v w : ℕ) (x : Option ℕ) → g.words ≡ 512 → length g.vpages ≤ 4096 → p ≤ 15 → v < length g.vpages → w < g.words → IfSome x (λ n. n < 2 ^ 64) → IsReference (record { cpu = p; address = 4096 * v + 8 * w; value = x })
fits g p v w x words few low h k l = record { cpu = low; address = omega (arith, words, few, h, k); aligned = omega arith; value = l }

line-fits : (g : Geometry) (p : ℕ) (l : Line) → g.words ≡ 512 → length g.vpages ≤ 4096 → p ≤ 15 → IsAccess g l → AllByRecursion IsReference (references_by p l)
line-fits g p (Load v w) words few low h = (fits g p v w None words few low (some-lt g.vpages v h.0) h.1 tt, tt)
line-fits g p (Store v w x) words few low h = (fits g p v w (Some x) words few low (some-lt g.vpages v (and-some (get_or g.vpages v None) h.0)) h.1 h.2, tt)
line-fits g p (Add v w x) words few low h = tt
line-fits g p (Await v w x n) words few low h = tt

all-join : (a b : List Reference) → AllByRecursion IsReference a → AllByRecursion IsReference b → AllByRecursion IsReference (a ++ b)
all-join [] b h k = k
all-join (r ∷ a) b h k = (h.0, all-join a b h.1 k)

program-fits : (g : Geometry) (p : ℕ) (ls : List Line) → g.words ≡ 512 → length g.vpages ≤ 4096 → p ≤ 15 → AllByRecursion (IsAccess g) ls → AllByRecursion IsReference (flat_map (references_by p) ls)
program-fits g p [] words few low h = tt
program-fits g p (l ∷ ls) words few low h = all-join (references_by p l) (flat_map (references_by p) ls) (line-fits g p l words few low h.0) (program-fits g p ls words few low h.1)

programs-fit : (g : Geometry) (p : ℕ) (ps : List (List Line)) → g.words ≡ 512 → length g.vpages ≤ 4096 → p + length ps ≤ 16 → AllByRecursion (λ ls. AllByRecursion (IsAccess g) ls) ps → AllByRecursion IsReference (references_from p ps)
programs-fit g p [] words few low h = tt
programs-fit g p (ls ∷ ps) words few low h =
    all-join (flat_map (references_by p) ls) (references_from (p + 1) ps) (program-fits g p ls words few (omega (arith, low)) h.0) (programs-fit g (p + 1) ps words few (omega (arith, low)) h.1)

-- records that are spelled alike are of one reference
same-reference : (q r : Reference) → IsReference q → IsReference r → record_of q ≡ record_of r → q ≡ r
same-reference q r a b e =
    let read : Ok q ≡ Ok r = sym (read-back q a) ∙ ap reference_in e ∙ read-back r b in cc read

same-references : (a b : List Reference) → AllByRecursion IsReference a → AllByRecursion IsReference b → map record_of a ≡ map record_of b → a ≡ b
same-references [] [] h k e = refl
same-references [] (r ∷ b) h k e = cc e
same-references (q ∷ a) [] h k e = cc e
same-references (q ∷ a) (r ∷ b) h k e =
    let first : record_of q ≡ record_of r = cc e in
    let rest : map record_of a ≡ map record_of b = cc e in
    ap (λ x. x ∷ a) (same-reference q r h.0 k.0 first) ∙ ap (λ l. r ∷ l) (same-references a b h.1 k.1 rest)

member : (front refs : List Reference) (row : List (List ℕ)) (rest : List (List (List ℕ))) → AllByRecursion IsReference refs → map record_of front ++ row ∷ rest ≡ map record_of refs → (r : Reference) × (row ≡ record_of r) × IsReference r
member front [] row rest each e = absurd (empty front e)
  where
    empty : (front : List Reference) → map record_of front ++ row ∷ rest ≡ [] → ⊥
    empty [] e = cc e
    empty (q ∷ front) e = cc e
member [] (r ∷ refs) row rest each e = (r, cc e, each.0)
member (q ∷ front) (r ∷ refs) row rest each e = member front refs row rest each.1 (cc e)

row-good : (frames : ℕ) (front : List Reference) (row : List (List ℕ)) (r : Reference) (f : TraceFault) → row ≡ record_of r → IsReference r → IsRowFault frames front row f → f ≡ faults.TooManyPages
row-good frames front row r f is good (inl bad) = let both : ◌≡◌ {A = Result Reference TraceFault} (Ok r) (Err f) = sym (read-back r good) ∙ ap reference_in (sym is) ∙ bad in cc both
row-good frames front row r f is good (inr many) = many.0

row-fault : (bytes : List ℕ) (refs : List Reference) (frames : ℕ) (f : TraceFault) (n : ℕ) → HasRecords bytes (trace_rows refs) → AllByRecursion IsReference refs → IsFirstBadRow bytes frames f n → f ≡ faults.TooManyPages
row-fault bytes refs frames f n rows each i =
    let whole = whole-of bytes (trace_rows i.front ++ i.row ∷ []) i.rows in
    let one : (trace_rows i.front ++ i.row ∷ []) ++ whole.0 ≡ trace_rows refs = one-list bytes (trace_rows refs) ((trace_rows i.front ++ i.row ∷ []) ++ whole.0) rows whole.1 in
    let all : header ∷ (map record_of i.front ++ i.row ∷ whole.0) ≡ trace_rows refs = sym (append_assoc (trace_rows i.front) (i.row ∷ []) whole.0) ∙ one in
    let found = member i.front refs i.row whole.0 each (cc all) in
    row-good frames i.front i.row found.0 f found.1 found.2 i.fault

no-header : (bytes : List ℕ) (refs : List Reference) → HasRecords bytes (trace_rows refs) → HasNoHeader bytes → ⊥
no-header bytes refs rows (inl none) = let e : ◌≡◌ {A = List (List (List ℕ))} [] (trace_rows refs) = one-list bytes (trace_rows refs) [] rows none in cc e
no-header bytes refs rows (inr (row, begins, other)) =
    let whole = whole-of bytes (row ∷ []) begins in
    let e : row ∷ whole.0 ≡ trace_rows refs = one-list bytes (trace_rows refs) (row ∷ whole.0) rows whole.1 in
    other (cc e)

whole-fault : (bytes : List ℕ) (refs : List Reference) (fast slow : ℕ) (f : TraceFault) (n : ℕ) → HasRecords bytes (trace_rows refs) → AllByRecursion IsReference refs → IsFirstTraceFault bytes fast slow f n
    → (f ≡ faults.TooManyPages) ⊎ (f ≡ faults.Empty) ⊎ (f ≡ faults.ScriptTooLong)
whole-fault bytes refs fast slow f n rows each (inl (a, b, h)) = absurd (no-header bytes refs rows h)
whole-fault bytes refs fast slow f n rows each (inr (inl i)) = inl (row-fault bytes refs (fast + slow) f n rows each i)
whole-fault bytes refs fast slow f n rows each (inr (inr (inl (a, b, h)))) = inr (inl a)
whole-fault bytes refs fast slow f n rows each (inr (inr (inr (a, b, h)))) = inr (inr a)

import-is : (bytes : List ℕ) (refs : List Reference) (fast slow : ℕ) (t : Script) → HasRecords bytes (trace_rows refs) → AllByRecursion IsReference refs → IsImport bytes fast slow t → t ≡ script_for fast slow refs
import-is bytes refs fast slow t rows each i =
    let e : trace_rows i.refs ≡ trace_rows refs = one-list bytes (trace_rows refs) (trace_rows i.refs) rows i.trace.rows in
    i.is ∙ ap (script_for fast slow) (same-references i.refs refs i.trace.are.each each (cc e))

pub read-again : (s : Script) → IsScript s → HasTrace s → IsReadAgain s
read-again s is has =
    let each : AllByRecursion IsReference (references_from 0 s.programs) = programs-fit s.geometry 0 s.programs has.0 is.geometry.ranges.3.0 (omega (arith, is.programs, is.geometry.ranges.2.1)) is.lines in
    let rows : HasRecords (trace_text s) (trace_rows (references_from 0 s.programs)) = text-rows (references_from 0 s.programs) each in
    record {
      rows = rows;
      each = each;
      script = λ fast slow t i. import-is (trace_text s) (references_from 0 s.programs) fast slow t rows each i;
      faults = λ fast slow f n i. whole-fault (trace_text s) (references_from 0 s.programs) fast slow f n rows each i;
    }
