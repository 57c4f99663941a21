-- The trace of a script is read as the references of its lines.
use Rattle.std.proofs.Common.{◌≡◌, ◌+◌, ◌%◌, ◌<◌, ◌^◌, ℕ, false, List, [], ◌∷◌, ◌++◌, map, flat_map, Option, Some, None, IfSome, codes, refl, subst, ◌∙◌, arith, append_assoc}
use Rattle.std.specs.Fmt.{decimal}
use Rattle.std.specs.List.{AllByRecursion, list_any}
use Rattle.std.proofs.lemmas.Bool.{ne_eqb}
use Rattle.std.proofs.lemmas.Fmt.{decimal_by_steps}
use Rattle.std.proofs.lemmas.List.{append-nil}
use Rattle.std.proofs.lemmas.List.Folds.{list_any-append}
use Rattle.csv.specs.Machine.{next_record}
use Rattle.csv.specs.Reading.{Reached, default_config, strip_bom}
use Rattle.csv.specs.Writing.{default_writer, needs_byte, row_text, fields_text, is_blank, field_text, escaped}
use Rattle.csv.specs.declared.parser.State.TheVariants as st
use Rattle.csv.proofs.RoundTrip.{read-write-many}
use Rattle.nm_trace.specs.declared.reference.Reference.{Reference}
use Rattle.nm_trace.specs.References.{IsReference, record_of, reference_text, kind_field, value_field, header}
use Rattle.nm_trace.specs.Imports.{HasRecords, trace_rows}

plain-digit : (d : ℕ) → d < 10 → needs_byte default_writer (48 + d) ≡ false
plain-digit d h =
    rw (ne_eqb (48 + d) 44 (λ e. omega (arith, e)), ne_eqb (48 + d) 34 (λ e. omega (arith, e)), ne_eqb (48 + d) 13 (λ e. omega (arith, e)), ne_eqb (48 + d) 10 (λ e. omega (arith, e))) refl

-- a number calls for no quotes
plain-number : (n : ℕ) → n < 2 ^ 64 → list_any (needs_byte default_writer) (decimal n) ≡ false
plain-number n h = decimal_by_steps (λ k ds. list_any (needs_byte default_writer) ds ≡ false)
    (λ k few. rw (plain-digit k few) refl)
    (λ k ds some before. list_any-append (needs_byte default_writer) ds ((48 + k % 10) ∷ []) ∙ rw (before, plain-digit (k % 10) (omega arith)) refl)
    n h

field-plain : (x : List ℕ) → list_any (needs_byte default_writer) x ≡ false → field_text default_writer x ≡ x
field-plain x h = rw h refl

plain-value : (v : Option ℕ) → IfSome v (λ x. x < 2 ^ 64) → field_text default_writer (value_field v) ≡ value_field v
plain-value None h = refl
plain-value (Some x) h = field-plain (decimal x) (plain-number x h)

plain-kind : (v : Option ℕ) → field_text default_writer (kind_field v) ≡ kind_field v
plain-kind None = refl
plain-kind (Some x) = refl

four-text : (a b c d : List ℕ) → field_text default_writer a ≡ a → field_text default_writer b ≡ b → field_text default_writer c ≡ c → field_text default_writer d ≡ d
    → row_text default_writer (a ∷ b ∷ c ∷ d ∷ []) ≡ a ++ 44 ∷ (b ++ 44 ∷ (c ++ 44 ∷ (d ++ 10 ∷ [])))
unfolding fields_text is_blank
four-text a b c d h k l m = rw (h, k, l, m) (simp (append_assoc, append-nil))

row-is : (r : Reference) → IsReference r → row_text default_writer (record_of r) ≡ reference_text r
row-is r is =
    four-text (decimal r.cpu) (kind_field r.value) (decimal r.address) (value_field r.value) (field-plain (decimal r.cpu) (plain-number r.cpu (omega (arith, is.cpu)))) (plain-kind r.value)
    (field-plain (decimal r.address) (plain-number r.address is.address)) (plain-value r.value is.value)

record-read : (r : Reference) (tail : List ℕ) → IsReference r → next_record default_config st.StartRecord [] [] (reference_text r ++ tail) ≡ Some (record_of r, st.StartRecord, tail)
record-read r tail is =
    subst (λ t. next_record default_config st.StartRecord [] [] (t ++ tail) ≡ Some (record_of r, st.StartRecord, tail)) (row-is r is)
    (read-write-many (decimal r.cpu) (kind_field r.value) (decimal r.address ∷ value_field r.value ∷ []) tail)

header-is : row_text default_writer header ≡ codes "cpu,kind,address,value\n"
unfolding fields_text is_blank escaped
header-is = refl

header-read : (tail : List ℕ) → next_record default_config st.StartRecord [] [] (codes "cpu,kind,address,value\n" ++ tail) ≡ Some (header, st.StartRecord, tail)
header-read tail =
    subst (λ t. next_record default_config st.StartRecord [] [] (t ++ tail) ≡ Some (header, st.StartRecord, tail)) header-is
    (read-write-many (codes "cpu") (codes "kind") (codes "address" ∷ codes "value" ∷ []) tail)

references-read : (refs : List Reference) → AllByRecursion IsReference refs → Reached default_config st.StartRecord (flat_map reference_text refs) (map record_of refs) st.StartRecord []
unfolding Reached
references-read [] each = (refl, refl)
references-read (r ∷ refs) each = ((record_of r, st.StartRecord, flat_map reference_text refs), record-read r (flat_map reference_text refs) each.0, refl, references-read refs each.1)

nothing-more : next_record default_config st.StartRecord [] [] [] ≡ None
unfolding next_record
nothing-more = refl

-- the records of the text of references
pub text-rows : (refs : List Reference) → AllByRecursion IsReference refs → HasRecords (codes "cpu,kind,address,value\n" ++ flat_map reference_text refs) (trace_rows refs)
unfolding Reached strip_bom
text-rows refs each =
    (st.StartRecord, [], ((header, st.StartRecord, flat_map reference_text refs), header-read (flat_map reference_text refs), refl, references-read refs each), nothing-more)
