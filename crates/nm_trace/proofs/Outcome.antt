-- What a text gives, as one value: so it gives no other.
use Rattle.std.proofs.Common.{◌≡◌, ◌≢◌, ◌⊎◌, ◌+◌, ◌%◌, ◌≤◌, ◌<◌, ◌^◌, ◌==◌, ℕ, Bool, true, false, cond, nat_lt, nat_eq, List, [], ◌∷◌, ◌++◌, length, map, Option, Some, None, Result, Ok, Err, IfOk, IfErr, IfSome, option_map, refl, sym, ap, subst, ◌∙◌, inl, inr, arith, append_assoc, length-append}
use Rattle.std.specs.List.{AllByRecursion, list_any}
use Rattle.std.specs.Fmt.{decimal}
use Rattle.std.proofs.lemmas.Bool.{cases_Bool, eq-eqb, ltb-true, ltb-false}
use Rattle.std.proofs.lemmas.List.{append-nil}
use Rattle.nm_text.proofs.NumberLemmas.{number_of-decimal}
use Rattle.nm_script.specs.Plain.{Script}
use Rattle.nm_script.specs.Script.{script_text}
use Rattle.nm_trace.specs.declared.fault.TraceFault.{TraceFault}
use Rattle.nm_trace.specs.declared.fault.TraceFault.TheVariants as faults
use Rattle.nm_trace.specs.declared.fault.TraceRefusal.{TraceRefusal}
use Rattle.nm_trace.specs.declared.fault.TraceRefusal.TheVariants as refusals
use Rattle.nm_trace.specs.declared.reference.Reference.{Reference}
use Rattle.nm_trace.specs.References.{IsReference, record_of, header}
use Rattle.nm_trace.specs.Records.{fields_in, numbers_in, reference_in}
use Rattle.nm_trace.specs.Imports.{referenced_page, AreReferences, IsTraceOf, IsImport, IsFirstBadRow, IsRowFault, IsFirstTraceFault, IsTraceRefusal, IsTooLong, HasNoHeader, HasRecords, pages_seen, frames_for, trace_rows, script_for}
use Rattle.nm_trace.specs.Replies.{GivesImport}
use Rattle.nm_trace.proofs.Pages.{pages_seen-push, cpus_seen-push}
use Rattle.nm_trace.proofs.Whole.{one-list, whole-of}

-- ---- the record of a reference is read as it

read-fields : (c a : ℕ) (v : Option ℕ) → fields_in (record_of (record { cpu = c; address = a; value = v })) ≡ Some (decimal c, decimal a, option_map decimal v)
unfolding fields_in
read-fields c a None = refl
read-fields c a (Some x) = refl

read-numbers : (c a : ℕ) (v : Option ℕ) → c < 2 ^ 64 → a < 2 ^ 64 → IfSome v (λ x. x < 2 ^ 64) → ◌≡◌ {A = Option Reference} (numbers_in (decimal c, decimal a, option_map decimal v)) (Some (record { cpu = c; address = a; value = v }))
unfolding numbers_in
read-numbers c a None h k l = rw (number_of-decimal c h, number_of-decimal a k) refl
read-numbers c a (Some x) h k l = rw (number_of-decimal c h, number_of-decimal a k, number_of-decimal x l) refl

lt-true : (a b : ℕ) → a < b → nat_lt a b ≡ true
lt-true a b h = elim (cases_Bool (nat_lt a b)) [
  | inl e ↦ e
  | inr e ↦ absurd (omega (arith, h, ltb-false a b e))
]

pub read-back : (r : Reference) → IsReference r → reference_in (record_of r) ≡ Ok r
read-back r is =
    let small : r.cpu < 2 ^ 64 = omega (arith, is.cpu) in
    let below : nat_lt r.cpu 16 ≡ true = lt-true r.cpu 16 (omega (arith, is.cpu)) in
    let even : (r.address % 8 == 0) ≡ true = eq-eqb (r.address % 8) 0 is.aligned in
    rw (read-fields r.cpu r.address r.value, read-numbers r.cpu r.address r.value small is.address is.value, below, even) refl

-- ---- the rows after the header

abbrev pub taken : Bool → Result (List Reference) (TraceFault × ℕ) → ℕ → Result (List Reference) (TraceFault × ℕ)
taken true more n = Err (faults.TooManyPages, n)
taken false more n = more

abbrev pub row-step : (Reference → Bool) → (Reference → Result (List Reference) (TraceFault × ℕ)) → ℕ → Result Reference TraceFault → Result (List Reference) (TraceFault × ℕ)
row-step few more n (Err f) = Err (f, n)
row-step few more n (Ok r) = taken (few r) (more r) n

-- the references of all rows after these, or the first fault and its record
unfoldable pub rows-read : ℕ → List Reference → List (List (List ℕ)) → Result (List Reference) (TraceFault × ℕ)
rows-read frames front [] = Ok front
rows-read frames front (row ∷ rows) = row-step (λ r. nat_lt frames (frames_for (front ++ r ∷ []))) (λ r. rows-read frames (front ++ r ∷ []) rows) (length front + 2) (reference_in row)

not-lt : (a b : ℕ) → b ≤ a → nat_lt a b ≡ false
not-lt a b h = elim (cases_Bool (nat_lt a b)) [
  | inl e ↦ absurd (omega (arith, h, ltb-true a b e))
  | inr e ↦ e
]

insert-longer : (b : Bool) (ks : List ℕ) (k : ℕ) → length ks ≤ length (cond b ks (ks ++ k ∷ []))
insert-longer true ks k = omega arith
insert-longer false ks k = omega (arith, length-append ks (k ∷ []))

frames-push : (refs : List Reference) (r : Reference) → frames_for refs ≤ frames_for (refs ++ r ∷ [])
frames-push refs r = omega (arith, ap length (pages_seen-push refs r), insert-longer (list_any (nat_eq (referenced_page r)) (pages_seen refs)) (pages_seen refs) (referenced_page r), cpus_seen-push refs r)

frames-more : (front refs : List Reference) → frames_for front ≤ frames_for (front ++ refs)
frames-more front [] = let same : frames_for (front ++ []) ≡ frames_for front = ap frames_for (append-nil front) in omega (arith, same)
frames-more front (r ∷ refs) =
    let same : frames_for ((front ++ r ∷ []) ++ refs) ≡ frames_for (front ++ r ∷ refs) = ap frames_for (append_assoc front (r ∷ []) refs) in
    omega (arith, same, frames-push front r, frames-more (front ++ r ∷ []) refs)

-- the records of references are read as these
refs-read : (frames : ℕ) (front refs : List Reference) (rest : List (List (List ℕ))) → AllByRecursion IsReference refs → frames_for (front ++ refs) ≤ frames
    → rows-read frames front (map record_of refs ++ rest) ≡ rows-read frames (front ++ refs) rest
unfolding rows-read
refs-read frames front [] rest each room = ap (λ l. rows-read frames l rest) (sym (append-nil front))
refs-read frames front (r ∷ refs) rest each room =
    let same : (front ++ r ∷ []) ++ refs ≡ front ++ r ∷ refs = append_assoc front (r ∷ []) refs in
    let few : nat_lt frames (frames_for (front ++ r ∷ [])) ≡ false = not-lt frames (frames_for (front ++ r ∷ [])) (omega (arith, room, ap frames_for same, frames-more (front ++ r ∷ []) refs)) in
    rw (read-back r each.0, few) (refs-read frames (front ++ r ∷ []) refs rest each.1 (rw same room) ∙ ap (λ l. rows-read frames l rest) same)

refs-read-any : (frames : ℕ) (refs : List Reference) (rest : List (List (List ℕ))) → AreReferences frames refs → rows-read frames [] (map record_of refs ++ rest) ≡ rows-read frames refs rest
refs-read-any frames [] rest are = refl
refs-read-any frames (r ∷ refs) rest are = refs-read frames [] (r ∷ refs) rest are.each (are.room (λ e. cc e))

fault-read : (frames : ℕ) (front : List Reference) (row : List (List ℕ)) (rest : List (List (List ℕ))) (f : TraceFault) → IsRowFault frames front row f → rows-read frames front (row ∷ rest) ≡ Err (f, length front + 2)
unfolding rows-read
fault-read frames front row rest f (inl e) = rw e refl
fault-read frames front row rest f (inr (is, (r, e, few))) = rw (e, lt-true frames (frames_for (front ++ r ∷ [])) few, is) refl

-- ---- the script

abbrev pub measured : Bool → Script → Result Script (TraceFault × ℕ)
measured true s = Err (faults.ScriptTooLong, 0)
measured false s = Ok s

abbrev pub script-of : ℕ → ℕ → Result (List Reference) (TraceFault × ℕ) → Result Script (TraceFault × ℕ)
script-of fast slow (Err e) = Err e
script-of fast slow (Ok []) = Err (faults.Empty, 2)
script-of fast slow (Ok (r ∷ refs)) = measured (nat_lt 16777216 (length (script_text (script_for fast slow (r ∷ refs))))) (script_for fast slow (r ∷ refs))

-- the rows give this value: there is no header, or what stands after it gives it
abbrev pub Says : ℕ → ℕ → List (List (List ℕ)) → Result Script (TraceFault × ℕ) → Type 0
Says fast slow rows x =
    (((body : List (List (List ℕ))) → rows ≢ header ∷ body) × (x ≡ Err (faults.BadHeader, 1)))
    ⊎ ((body : List (List (List ℕ))) × (rows ≡ header ∷ body) × (script-of fast slow (rows-read (fast + slow) [] body) ≡ x))

-- the text gives this value
abbrev pub TextSays : List ℕ → ℕ → ℕ → Result Script (TraceFault × ℕ) → Type 0
TextSays bytes fast slow x = (rows : List (List (List ℕ))) × HasRecords bytes rows × Says fast slow rows x

same-tail : (a b : List (List (List ℕ))) → header ∷ a ≡ header ∷ b → a ≡ b
same-tail a b e = cc e

same-says : (fast slow : ℕ) (rows : List (List (List ℕ))) (x y : Result Script (TraceFault × ℕ)) → Says fast slow rows x → Says fast slow rows y → x ≡ y
same-says fast slow rows x y (inl (without, a)) (inl (without2, b)) = a ∙ sym b
same-says fast slow rows x y (inl (without, a)) (inr (body, is, b)) = absurd (without body is)
same-says fast slow rows x y (inr (body, is, a)) (inl (without, b)) = absurd (without body is)
same-says fast slow rows x y (inr (body, is, a)) (inr (other, is2, b)) =
    sym a ∙ ap (λ l. script-of fast slow (rows-read (fast + slow) [] l)) (same-tail body other (sym is ∙ is2)) ∙ b

-- a text gives one value
pub one-outcome : (bytes : List ℕ) (fast slow : ℕ) (x y : Result Script (TraceFault × ℕ)) → TextSays bytes fast slow x → TextSays bytes fast slow y → x ≡ y
one-outcome bytes fast slow x y (a, h, s) (b, k, t) = same-says fast slow a x y s (subst (λ l. Says fast slow l y) (one-list bytes a b h k) t)

trace-read : (bytes : List ℕ) (frames : ℕ) (refs : List Reference) → IsTraceOf bytes frames refs → rows-read frames [] (map record_of refs) ≡ Ok refs
unfolding rows-read
trace-read bytes frames refs t = ap (rows-read frames []) (sym (append-nil (map record_of refs))) ∙ refs-read-any frames refs [] t.are

script-value : (fast slow : ℕ) (refs : List Reference) (b : Bool) → refs ≢ [] → nat_lt 16777216 (length (script_text (script_for fast slow refs))) ≡ b → script-of fast slow (Ok refs) ≡ measured b (script_for fast slow refs)
script-value fast slow [] b some e = absurd (some refl)
script-value fast slow (r ∷ refs) b some e = rw e refl

pub import-says : (bytes : List ℕ) (fast slow : ℕ) (s : Script) → IsImport bytes fast slow s → TextSays bytes fast slow (Ok s)
import-says bytes fast slow s i =
    let short : nat_lt 16777216 (length (script_text (script_for fast slow i.refs))) ≡ false = not-lt 16777216 (length (script_text (script_for fast slow i.refs))) (subst (λ t. length (script_text t) ≤ 16777216) i.is i.short) in
    (trace_rows i.refs, i.trace.rows, inr (map record_of i.refs, refl, ap (script-of fast slow) (trace-read bytes (fast + slow) i.refs i.trace) ∙ script-value fast slow i.refs false i.trace.some short ∙ ap (λ t. Ok t) (sym i.is)))

long-says : (bytes : List ℕ) (fast slow : ℕ) → IsTooLong bytes fast slow → TextSays bytes fast slow (Err (faults.ScriptTooLong, 0))
long-says bytes fast slow i =
    let long : nat_lt 16777216 (length (script_text (script_for fast slow i.refs))) ≡ true = lt-true 16777216 (length (script_text (script_for fast slow i.refs))) i.long in
    (trace_rows i.refs, i.trace.rows, inr (map record_of i.refs, refl, ap (script-of fast slow) (trace-read bytes (fast + slow) i.refs i.trace) ∙ script-value fast slow i.refs true i.trace.some long))

header-says : (bytes : List ℕ) (fast slow : ℕ) → HasNoHeader bytes → TextSays bytes fast slow (Err (faults.BadHeader, 1))
header-says bytes fast slow (inl none) = ([], none, inl (λ body e. cc e, refl))
header-says bytes fast slow (inr (row, begins, other)) =
    let whole = whole-of bytes (row ∷ []) begins in
    (row ∷ whole.0, whole.1, inl (λ body e. other (cc e), refl))

row-says : (bytes : List ℕ) (fast slow : ℕ) (f : TraceFault) (n : ℕ) → IsFirstBadRow bytes (fast + slow) f n → TextSays bytes fast slow (Err (f, n))
row-says bytes fast slow f n i =
    let whole = whole-of bytes (trace_rows i.front ++ i.row ∷ []) i.rows in
    let body = map record_of i.front ++ i.row ∷ whole.0 in
    let is : (trace_rows i.front ++ i.row ∷ []) ++ whole.0 ≡ header ∷ body = append_assoc (trace_rows i.front) (i.row ∷ []) whole.0 in (
      (trace_rows i.front ++ i.row ∷ []) ++ whole.0,
      whole.1,
      inr (
        body,
        is,
        ap (script-of fast slow) (refs-read-any (fast + slow) i.front (i.row ∷ whole.0) i.are ∙ fault-read (fast + slow) i.front i.row whole.0 f i.fault)
            ∙ ap (λ k. Err (f, k)) (sym i.count),
      ),
    )

pub fault-says : (bytes : List ℕ) (fast slow : ℕ) (f : TraceFault) (n : ℕ) → IsFirstTraceFault bytes fast slow f n → TextSays bytes fast slow (Err (f, n))
unfolding rows-read
fault-says bytes fast slow f n (inl (a, b, h)) = rw (a, b) (header-says bytes fast slow h)
fault-says bytes fast slow f n (inr (inl i)) = row-says bytes fast slow f n i
fault-says bytes fast slow f n (inr (inr (inl (a, b, h)))) = rw (a, b) (header ∷ [], h, inr ([], refl, refl))
fault-says bytes fast slow f n (inr (inr (inr (a, b, h)))) = rw (a, b) (long-says bytes fast slow h)

-- so an answer that is right is the one
pub gives : (bytes : List ℕ) (fast slow : ℕ) (answer : Result Script TraceRefusal) (x : Result Script (TraceFault × ℕ)) → IfOk answer (IsImport bytes fast slow) → IfErr answer (IsTraceRefusal bytes fast slow)
    → TextSays bytes fast slow x → GivesImport answer x
gives bytes fast slow (Ok s) x ok err says = one-outcome bytes fast slow x (Ok s) says (import-says bytes fast slow s ok)
gives bytes fast slow (Err refusals.Memory) x ok err says = tt
gives bytes fast slow (Err (refusals.At f n)) x ok err says = one-outcome bytes fast slow x (Err (f, n)) says (fault-says bytes fast slow f n err)
