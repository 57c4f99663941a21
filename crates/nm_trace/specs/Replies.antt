-- What is answered to a text: the script, or the first fault and its record.
use Rattle.std.specs.Prelude.{◌≡◌, ℕ, Result, Ok, Err}
use Rattle.nm_script.specs.Plain.{Script}
use Rattle.nm_trace.specs.declared.fault.TraceFault.{TraceFault}
use Rattle.nm_trace.specs.declared.fault.TraceRefusal.{TraceRefusal}
use Rattle.nm_trace.specs.declared.fault.TraceRefusal.TheVariants as refusals

-- the answer is this script, or this fault at this record, or want of memory
abbrev pub GivesImport : Result Script TraceRefusal → Result Script (TraceFault × ℕ) → Type 0
GivesImport (Ok s) wanted = wanted ≡ Ok s
GivesImport (Err refusals.Memory) wanted = Unit {0}
GivesImport (Err (refusals.At f n)) wanted = wanted ≡ Err (f, n)
