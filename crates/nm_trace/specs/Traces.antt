-- The trace of a script.
use Rattle.std.specs.Prelude.{◌≡◌, ℕ, ◌+◌, ◌*◌, List, [], ◌∷◌, ◌++◌, flat_map, All, Some, None, codes}
use Rattle.nm_script.specs.declared.script.Line.{Line}
use Rattle.nm_script.specs.declared.script.Line.TheVariants.{Load, Store, Add, Await}
use Rattle.nm_script.specs.Plain.{Script}
use Rattle.nm_trace.specs.declared.reference.Reference.{Reference}
use Rattle.nm_trace.specs.References.{reference_text}

-- a line that a trace can say
abbrev pub IsTraced : Line → Type 0
IsTraced (Load v w) = Unit {0}
IsTraced (Store v w x) = Unit {0}
IsTraced (Add v w x) = ⊥
IsTraced (Await v w x n) = ⊥

-- the script has a trace: its pages are of 4,096 bytes, and each line loads or stores
abbrev pub HasTrace : Script → Type 0
HasTrace s = (s.geometry.words ≡ 512) × All (λ program. All IsTraced program) s.programs

-- the reference of a processor's line: virtual page v begins at byte 4096 * v, and its words are 8 bytes apart
abbrev pub references_by : ℕ → Line → List Reference
references_by p (Load v w) = record { cpu = p; address = 4096 * v + 8 * w; value = None } ∷ []
references_by p (Store v w x) = record { cpu = p; address = 4096 * v + 8 * w; value = Some x } ∷ []
references_by p (Add v w x) = []
references_by p (Await v w x n) = []

-- the references of the programs of the processors from p on, one program after the other
abbrev pub references_from : ℕ → List (List Line) → List Reference
references_from p [] = []
references_from p (lines ∷ programs) = flat_map (references_by p) lines ++ references_from (p + 1) programs

-- the header, and a record for each line
abbrev pub trace_text : Script → List ℕ
trace_text s = codes "cpu,kind,address,value\n" ++ flat_map reference_text (references_from 0 s.programs)
