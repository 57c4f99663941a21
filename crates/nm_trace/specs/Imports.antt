-- The script of a trace, and the first fault of a text that has none.
use Rattle.std.specs.Prelude.{◌≡◌, ◌≢◌, ℕ, ◌+◌, ◌/◌, ◌%◌, ◌<◌, ◌≤◌, ◌==◌, ◌⊎◌, max, nat_eq, true, List, [], ◌∷◌, ◌++◌, length, map, filter, Option, Some, None, Ok, Err}
use Rattle.std.specs.List.{AllByRecursion, range_with_len, position_or_len}
use Rattle.csv.specs.Reading.{AreRecords, Reached, default_config, strip_bom}
use Rattle.csv.specs.declared.parser.State.{State}
use Rattle.csv.specs.declared.parser.State.TheVariants as st
use Rattle.indexmap.specs.IndexSet.{insert_all}
use Rattle.nm_base.specs.declared.geometry.VPage.{VPage}
use Rattle.nm_base.specs.Geometry.{made}
use Rattle.nm_script.specs.declared.limits.TheConstants.{MOST_TURNS}
use Rattle.nm_script.specs.declared.script.Line.{Line}
use Rattle.nm_script.specs.declared.script.Line.TheVariants.{Load, Store}
use Rattle.nm_script.specs.declared.schedule.Schedule.TheVariants.{Serial}
use Rattle.nm_script.specs.Plain.{Script}
use Rattle.nm_script.specs.Script.{script_text}
use Rattle.nm_trace.specs.declared.fault.TraceFault.{TraceFault}
use Rattle.nm_trace.specs.declared.fault.TraceFault.TheVariants as faults
use Rattle.nm_trace.specs.declared.fault.TraceRefusal.{TraceRefusal}
use Rattle.nm_trace.specs.declared.fault.TraceRefusal.TheVariants as refusals
use Rattle.nm_trace.specs.declared.reference.Reference.{Reference}
use Rattle.nm_trace.specs.References.{IsReference, record_of, header}
use Rattle.nm_trace.specs.Records.{reference_in}

-- ---- the script of references

-- an address lies in a page of 4,096 bytes, at a word of 8
abbrev pub referenced_page : Reference → ℕ
referenced_page r = r.address / 4096

abbrev pub referenced_word : Reference → ℕ
referenced_word r = r.address % 4096 / 8

-- the pages of the references, each once, in the order in which they are first seen
abbrev pub pages_seen : List Reference → List ℕ
pages_seen refs = insert_all nat_eq [] (map referenced_page refs)

-- the number of a page is its place among these
abbrev pub page_number : List ℕ → ℕ → ℕ
page_number pages page = position_or_len (nat_eq page) pages

-- one more than the greatest processor, or 0 where there is no reference
abbrev pub cpus_seen : List Reference → ℕ
cpus_seen [] = 0
cpus_seen (r ∷ refs) = max (r.cpu + 1) (cpus_seen refs)

-- a load where there is no value, else a store of it
abbrev pub access_with : ℕ → ℕ → Option ℕ → Line
access_with v w None = Load v w
access_with v w (Some x) = Store v w x

-- the line of a reference, among these pages
abbrev pub line_for : List ℕ → Reference → Line
line_for pages r = access_with (page_number pages (referenced_page r)) (referenced_word r) r.value

-- the lines of a processor: those of its references, in their order
abbrev pub program_for : List ℕ → List Reference → ℕ → List Line
program_for pages refs p = map (line_for pages) (filter (λ r. r.cpu == p) refs)

-- the programs of this many processors
abbrev pub programs_for : List ℕ → List Reference → ℕ → List (List Line)
programs_for pages refs n = map (program_for pages refs) (range_with_len 0 n)

-- a virtual page that is mapped to the backing page of its number
abbrev pub own_page : ℕ → Option VPage
own_page i = Some (record { page = i; writable = true })

-- the script of the references with two tiers of these sizes
abbrev pub script_for : ℕ → ℕ → List Reference → Script
script_for fast slow refs = record {
  version = 1;
  geometry = made 512 (fast ∷ slow ∷ []) (cpus_seen refs) (map own_page (range_with_len 0 (length (pages_seen refs))));
  programs = programs_for (pages_seen refs) refs (cpus_seen refs);
  schedule = Serial MOST_TURNS;
  nodes = [];
  retry = None;
}

-- the frames that a machine for the references needs
abbrev pub frames_for : List Reference → ℕ
frames_for refs = length (pages_seen refs) + cpus_seen refs + 9

-- ---- the text

-- the records of the text begin with these
abbrev pub BeginsWith : List ℕ → List (List (List ℕ)) → Type 0
BeginsWith bytes rows = (s : State) × (rest : List ℕ) × Reached default_config st.StartRecord (strip_bom bytes) rows s rest

-- these are all records of the text
abbrev pub HasRecords : List ℕ → List (List (List ℕ)) → Type 0
HasRecords bytes rows = AreRecords default_config st.StartRecord (strip_bom bytes) rows

-- the records of a trace of these references
abbrev pub trace_rows : List Reference → List (List (List ℕ))
trace_rows refs = header ∷ map record_of refs

-- the references can stand in a trace, and some frames are enough for a machine for them
pub record AreReferences (frames : ℕ) (refs : List Reference) : Type 0 where
  pub each : AllByRecursion IsReference refs
  pub room : refs ≢ [] → frames_for refs ≤ frames

-- the bytes are a trace of these references
pub record IsTraceOf (bytes : List ℕ) (frames : ℕ) (refs : List Reference) : Type 0 where
  pub rows : HasRecords bytes (trace_rows refs)
  pub some : refs ≢ []
  pub are : AreReferences frames refs

-- the script is that of the trace, and its text is not too long
pub record IsImport (bytes : List ℕ) (fast slow : ℕ) (s : Script) : Type 0 where
  pub refs : List Reference
  pub trace : IsTraceOf bytes (fast + slow) refs
  pub is : s ≡ script_for fast slow refs
  pub short : length (script_text s) ≤ 16777216

-- ---- the first fault

-- after these references a record has the fault: by itself, or as the one for which the frames are too few
abbrev pub IsRowFault : ℕ → List Reference → List (List ℕ) → TraceFault → Type 0
IsRowFault frames front row f =
    (reference_in row ≡ Err f)
    ⊎ ((f ≡ faults.TooManyPages) × ((r : Reference) × (reference_in row ≡ Ok r) × (frames < frames_for (front ++ r ∷ []))))

-- the record after the header and these references is the first with a fault; the header is record 1
pub record IsFirstBadRow (bytes : List ℕ) (frames : ℕ) (f : TraceFault) (n : ℕ) : Type 0 where
  pub front : List Reference
  pub row : List (List ℕ)
  pub rows : BeginsWith bytes (trace_rows front ++ row ∷ [])
  pub are : AreReferences frames front
  pub fault : IsRowFault frames front row f
  pub count : n ≡ length front + 2

-- there is no record, or the first is not the header
abbrev pub HasNoHeader : List ℕ → Type 0
HasNoHeader bytes = HasRecords bytes [] ⊎ ((row : List (List ℕ)) × BeginsWith bytes (row ∷ []) × (row ≢ header))

-- the script of the trace has a text that is too long
pub record IsTooLong (bytes : List ℕ) (fast slow : ℕ) : Type 0 where
  pub refs : List Reference
  pub trace : IsTraceOf bytes (fast + slow) refs
  pub long : 16777216 < length (script_text (script_for fast slow refs))

-- the first fault of the bytes is f at record n
abbrev pub IsFirstTraceFault : List ℕ → ℕ → ℕ → TraceFault → ℕ → Type 0
IsFirstTraceFault bytes fast slow f n =
    ((f ≡ faults.BadHeader) × (n ≡ 1) × HasNoHeader bytes)
    ⊎ IsFirstBadRow bytes (fast + slow) f n
    ⊎ ((f ≡ faults.Empty) × (n ≡ 2) × HasRecords bytes (trace_rows []))
    ⊎ ((f ≡ faults.ScriptTooLong) × (n ≡ 0) × IsTooLong bytes fast slow)

-- a refusal says the first fault, or want of memory
abbrev pub IsTraceRefusal : List ℕ → ℕ → ℕ → TraceRefusal → Type 0
IsTraceRefusal bytes fast slow refusals.Memory = Unit {0}
IsTraceRefusal bytes fast slow (refusals.At f n) = IsFirstTraceFault bytes fast slow f n
