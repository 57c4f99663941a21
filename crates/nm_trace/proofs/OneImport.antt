-- Every text is a trace or has a first fault.
use Rattle.std.proofs.Common.{◌≡◌, ◌≢◌, ◌⊎◌, ◌+◌, ◌≤◌, ◌<◌, ℕ, Bool, true, false, nat_lt, List, [], ◌∷◌, ◌++◌, length, map, Result, Ok, Err, refl, sym, ap, subst, ◌∙◌, inl, inr, append_assoc}
use Rattle.std.specs.Str.{bytes_eq}
use Rattle.std.proofs.lemmas.Bool.{cases_Bool, ltb-true, ltb-false}
use Rattle.std.proofs.lemmas.List.{append-nil, map-append}
use Rattle.std.proofs.lemmas.Slice.Eq.{bytes_eq-Decides}
use Rattle.csv.specs.Reading.{Reached, default_config, strip_bom}
use Rattle.csv.specs.declared.parser.State.{State}
use Rattle.csv.specs.declared.parser.State.TheVariants as st
use Rattle.nm_script.specs.Plain.{Script}
use Rattle.nm_script.specs.Script.{script_text}
use Rattle.nm_trace.specs.declared.fault.TraceFault.{TraceFault}
use Rattle.nm_trace.specs.declared.fault.TraceFault.TheVariants as faults
use Rattle.nm_trace.specs.declared.reference.Reference.{Reference}
use Rattle.nm_trace.specs.References.{IsReference, record_of, header}
use Rattle.nm_trace.specs.Records.{reference_in}
use Rattle.nm_trace.specs.Imports.{AreReferences, BeginsWith, HasRecords, IsFirstTraceFault, IsImport, IsTraceOf, frames_for, script_for, trace_rows}
use Rattle.nm_trace.specs.Laws.{HasOneImport}
use Rattle.nm_trace.proofs.Outcome.{fault-says, import-says, one-outcome}
use Rattle.nm_trace.proofs.Pages.{all-push}
use Rattle.nm_trace.proofs.Spelling.{reference_in-ok}
use Rattle.nm_trace.proofs.Whole.{whole-of}

-- the text is a trace, or has a first fault
abbrev Decided : List ℕ → ℕ → ℕ → Type 0
Decided bytes fast slow =
    ((s : Script) × IsImport bytes fast slow s) ⊎ ((f : TraceFault) × (n : ℕ) × IsFirstTraceFault bytes fast slow f n)

-- ---- whether a record is the header

field-eq : (a b : List ℕ) → (a ≡ b) ⊎ (a ≢ b)
field-eq a b = elim (cases_Bool (bytes_eq a b)) [
  | inl e ↦ inl ((bytes_eq-Decides a b).0 e)
  | inr e ↦ inr (λ same. absurd (let bad : true ≡ false = sym ((bytes_eq-Decides a b).1 same) ∙ e in cc bad))
]

both-eq : (x y : List ℕ) (xs ys : List (List ℕ)) → (x ≡ y) ⊎ (x ≢ y) → (xs ≡ ys) ⊎ (xs ≢ ys) → (x ∷ xs ≡ y ∷ ys) ⊎ (x ∷ xs ≢ y ∷ ys)
both-eq x y xs ys (inl e) (inl f) = inl (rw (e, f) refl)
both-eq x y xs ys (inl e) (inr f) = inr (λ same. f (cc same))
both-eq x y xs ys (inr e) f = inr (λ same. e (cc same))

record-eq : (a b : List (List ℕ)) → (a ≡ b) ⊎ (a ≢ b)
record-eq [] [] = inl refl
record-eq [] (y ∷ ys) = inr (λ e. cc e)
record-eq (x ∷ xs) [] = inr (λ e. cc e)
record-eq (x ∷ xs) (y ∷ ys) = both-eq x y xs ys (field-eq x y) (record-eq xs ys)

-- ---- the first records of a text

reached-front : (s t : State) (xs ys : List ℕ) (p rest : List (List (List ℕ))) → Reached default_config s xs (p ++ rest) t ys
    → (u : State) × (zs : List ℕ) × Reached default_config s xs p u zs
unfolding Reached
reached-front s t xs ys [] rest h = (s, xs, (refl, refl))
reached-front s t xs ys (r ∷ p) rest (q, e, same, more) =
    let front = reached-front q.1 t q.2 ys p rest more in (front.0, front.1, (q, e, same, front.2))

begins : (bytes : List ℕ) (p rest : List (List (List ℕ))) → HasRecords bytes (p ++ rest) → BeginsWith bytes p
begins bytes p rest (s, ys, reached, none) = reached-front st.StartRecord s (strip_bom bytes) ys p rest reached

-- ---- the records after the header

moved : (front : List Reference) (row : List (List ℕ)) (rows : List (List (List ℕ))) → trace_rows front ++ row ∷ rows ≡ (trace_rows front ++ row ∷ []) ++ rows
moved front row rows = sym (append_assoc (trace_rows front) (row ∷ []) rows)

pushed : (front : List Reference) (r : Reference) → trace_rows (front ++ r ∷ []) ≡ trace_rows front ++ record_of r ∷ []
pushed front r = ap (λ rs. header ∷ rs) (map-append record_of front (r ∷ []))

measured : (bytes : List ℕ) (fast slow : ℕ) (r : Reference) (refs : List Reference) → HasRecords bytes (trace_rows (r ∷ refs)) → AreReferences (fast + slow) (r ∷ refs) → Decided bytes fast slow
measured bytes fast slow r refs all are =
    let trace : IsTraceOf bytes (fast + slow) (r ∷ refs) = record { rows = all; some = λ none. cc none; are = are } in
    elim (cases_Bool (nat_lt 16777216 (length (script_text (script_for fast slow (r ∷ refs)))))) [
      | inl long ↦ inr (faults.ScriptTooLong, 0, inr (inr (inr (refl, refl, record { refs = r ∷ refs; trace = trace; long = ltb-true 16777216 (length (script_text (script_for fast slow (r ∷ refs)))) long }))))
      | inr short ↦ inl (script_for fast slow (r ∷ refs), record { refs = r ∷ refs; trace = trace; is = refl; short = ltb-false 16777216 (length (script_text (script_for fast slow (r ∷ refs)))) short })
    ]

ended : (bytes : List ℕ) (fast slow : ℕ) (refs : List Reference) → HasRecords bytes (trace_rows refs) → AreReferences (fast + slow) refs → Decided bytes fast slow
ended bytes fast slow [] all are = inr (faults.Empty, 2, inr (inr (inl (refl, refl, all))))
ended bytes fast slow (r ∷ refs) all are = measured bytes fast slow r refs all are

-- the record after these references, as it is read, and what comes where it is one more
decided-row : (bytes : List ℕ) (fast slow : ℕ) (front : List Reference) (row : List (List ℕ)) (rows : List (List (List ℕ))) (read : Result Reference TraceFault) → reference_in row ≡ read
    → HasRecords bytes (trace_rows front ++ row ∷ rows) → AreReferences (fast + slow) front
    → ((r : Reference) → HasRecords bytes (trace_rows (front ++ r ∷ []) ++ rows) → AreReferences (fast + slow) (front ++ r ∷ []) → Decided bytes fast slow) → Decided bytes fast slow
decided-row bytes fast slow front row rows (Err f) e all are more =
    let rows-begin = begins bytes (trace_rows front ++ row ∷ []) rows (subst (HasRecords bytes) (moved front row rows) all) in
    inr (f, length front + 2, inr (inl (record { front = front; row = row; rows = rows-begin; are = are; fault = inl e; count = refl })))
decided-row bytes fast slow front row rows (Ok r) e all are more =
    let one = subst (HasRecords bytes) (moved front row rows) all in
    let read = reference_in-ok row r e in
    elim (cases_Bool (nat_lt (fast + slow) (frames_for (front ++ r ∷ [])))) [
      | inl few ↦ inr (
        faults.TooManyPages,
        length front + 2,
        inr (inl (record {
          front = front;
          row = row;
          rows = begins bytes (trace_rows front ++ row ∷ []) rows one;
          are = are;
          fault = inr (refl, (r, e, ltb-true (fast + slow) (frames_for (front ++ r ∷ [])) few));
          count = refl;
        })),
      )
      | inr room ↦ more r (subst (λ (rs : List (List (List ℕ))). HasRecords bytes (rs ++ rows)) (ap (λ (x : List (List ℕ)). trace_rows front ++ x ∷ []) read.0 ∙ sym (pushed front r)) one)
          (record { each = all-push IsReference front r are.each read.1; room = λ _. ltb-false (fast + slow) (frames_for (front ++ r ∷ [])) room })
    ]

decided-rows : (bytes : List ℕ) (fast slow : ℕ) (rows : List (List (List ℕ))) (front : List Reference) → HasRecords bytes (trace_rows front ++ rows) → AreReferences (fast + slow) front → Decided bytes fast slow
decided-rows bytes fast slow [] front all are = ended bytes fast slow front (subst (HasRecords bytes) (append-nil (trace_rows front)) all) are
decided-rows bytes fast slow (row ∷ rows) front all are =
    decided-row bytes fast slow front row rows (reference_in row) refl all are (λ r. decided-rows bytes fast slow rows (front ++ r ∷ []))

-- ---- all records

decided-first : (bytes : List ℕ) (fast slow : ℕ) (row : List (List ℕ)) (rows : List (List (List ℕ))) → HasRecords bytes (row ∷ rows) → (row ≡ header) ⊎ (row ≢ header) → Decided bytes fast slow
decided-first bytes fast slow row rows all (inl is) =
    decided-rows bytes fast slow rows [] (subst (λ (h : List (List ℕ)). HasRecords bytes (h ∷ rows)) is all) (record { each = tt; room = λ some. absurd (some refl) })
decided-first bytes fast slow row rows all (inr other) =
    inr (faults.BadHeader, 1, inl (refl, refl, inr (row, begins bytes (row ∷ []) rows all, other)))

decided-all : (bytes : List ℕ) (fast slow : ℕ) (rows : List (List (List ℕ))) → HasRecords bytes rows → Decided bytes fast slow
decided-all bytes fast slow [] all = inr (faults.BadHeader, 1, inl (refl, refl, inl all))
decided-all bytes fast slow (row ∷ rows) all = decided-first bytes fast slow row rows all (record-eq row header)

begins-with-none : (bytes : List ℕ) → BeginsWith bytes []
unfolding Reached
begins-with-none bytes = (st.StartRecord, strip_bom bytes, (refl, refl))

decided : (bytes : List ℕ) (fast slow : ℕ) → Decided bytes fast slow
decided bytes fast slow = let whole = whole-of bytes [] (begins-with-none bytes) in decided-all bytes fast slow whole.0 whole.1

-- ---- the law

abbrev tag : Result Script (TraceFault × ℕ) → ℕ
tag (Ok s) = 0
tag (Err e) = 1

abbrev script_in : Script → Result Script (TraceFault × ℕ) → Script
script_in d (Ok s) = s
script_in d (Err e) = d

abbrev fault_in : TraceFault × ℕ → Result Script (TraceFault × ℕ) → TraceFault × ℕ
fault_in d (Ok s) = d
fault_in d (Err e) = e

two-values : (s : Script) (e : TraceFault × ℕ) → ◌≡◌ {A = Result Script (TraceFault × ℕ)} (Ok s) (Err e) → ⊥
two-values s e h = let bad : 0 ≡ 1 = ap tag h in cc bad

pub one-import : (bytes : List ℕ) (fast slow : ℕ) → HasOneImport bytes fast slow
one-import bytes fast slow = record {
  some = decided bytes fast slow;
  apart = λ s f n i h. two-values s (f, n) (one-outcome bytes fast slow (Ok s) (Err (f, n)) (import-says bytes fast slow s i) (fault-says bytes fast slow f n h));
  one_script = λ s t i j. ap (script_in s) (one-outcome bytes fast slow (Ok s) (Ok t) (import-says bytes fast slow s i) (import-says bytes fast slow t j));
  one_fault = λ f g n m h k.
      let same : (f, n) ≡ (g, m) = ap (fault_in (f, n)) (one-outcome bytes fast slow (Err (f, n)) (Err (g, m)) (fault-says bytes fast slow f n h) (fault-says bytes fast slow g m k)) in
      (ap (λ (e : TraceFault × ℕ). e.0) same, ap (λ (e : TraceFault × ℕ). e.1) same);
}
