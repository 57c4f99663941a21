-- What is true of every text, of every import, and of a trace that is read again.
use Rattle.std.specs.Prelude.{◌≡◌, ℕ, ◌<◌, ◌↔◌, ◌⊎◌, List, length, slice_index_or}
use Rattle.std.specs.List.{AllByRecursion}
use Rattle.nm_script.specs.Plain.{Script}
use Rattle.nm_trace.specs.declared.fault.TraceFault.{TraceFault}
use Rattle.nm_trace.specs.declared.fault.TraceFault.TheVariants as faults
use Rattle.nm_trace.specs.declared.reference.Reference.{Reference}
use Rattle.nm_trace.specs.References.{IsReference}
use Rattle.nm_trace.specs.Traces.{references_from, trace_text}
use Rattle.nm_trace.specs.Imports.{referenced_page, page_number, pages_seen, HasRecords, trace_rows, IsFirstTraceFault, IsImport, script_for}

-- two references have one page number exactly where their addresses have one page
abbrev pub HasOwnNumbers : List Reference → Type 0
HasOwnNumbers refs = (i j : ℕ) (d : Reference) → i < length refs → j < length refs
    → (page_number (pages_seen refs) (referenced_page (slice_index_or refs i d)) ≡ page_number (pages_seen refs) (referenced_page (slice_index_or refs j d)))
    ↔ (referenced_page (slice_index_or refs i d) ≡ referenced_page (slice_index_or refs j d))

-- the trace of the script has the records of the references of its lines, so its import is the script of these, or has a
-- fault of the whole
pub record IsReadAgain (s : Script) : Type 0 where
  pub rows : HasRecords (trace_text s) (trace_rows (references_from 0 s.programs))
  pub each : AllByRecursion IsReference (references_from 0 s.programs)
  pub script : (fast slow : ℕ) (t : Script) → IsImport (trace_text s) fast slow t → t ≡ script_for fast slow (references_from 0 s.programs)
  pub faults : (fast slow : ℕ) (f : TraceFault) (n : ℕ) → IsFirstTraceFault (trace_text s) fast slow f n → (f ≡ faults.TooManyPages) ⊎ (f ≡ faults.Empty) ⊎ (f ≡ faults.ScriptTooLong)

-- the bytes are the trace of one script, or have one first fault at one record, and never both
pub record HasOneImport (bytes : List ℕ) (fast slow : ℕ) : Type 0 where
  pub some : ((s : Script) × IsImport bytes fast slow s) ⊎ ((f : TraceFault) × (n : ℕ) × IsFirstTraceFault bytes fast slow f n)
  pub apart : (s : Script) (f : TraceFault) (n : ℕ) → IsImport bytes fast slow s → IsFirstTraceFault bytes fast slow f n → ⊥
  pub one_script : (s t : Script) → IsImport bytes fast slow s → IsImport bytes fast slow t → s ≡ t
  pub one_fault : (f g : TraceFault) (n m : ℕ) → IsFirstTraceFault bytes fast slow f n → IsFirstTraceFault bytes fast slow g m → (f ≡ g) × (n ≡ m)
