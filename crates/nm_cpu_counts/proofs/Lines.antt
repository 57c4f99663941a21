-- The lines of a program count what the ends of their faults say.
use Rattle.std.proofs.Common.{ℕ, zero, suc, ◌+◌, ◌==◌, List, [], ◌∷◌, ◌++◌, refl}
use Rattle.nm_base.specs.Geometry.{Geometry}
use Rattle.nm_action.specs.declared.action.AckTo.TheVariants.{End}
use Rattle.nm_action.specs.declared.action.Action.TheVariants.{Ack}
use Rattle.nm_action.specs.declared.turn.Turn.TheVariants.{Do}
use Rattle.nm_part.specs.Patterns.{Ends, Follows, Either}
use Rattle.nm_actor.specs.Turns.{Turns}
use Rattle.nm_catchup.specs.CatchUp.{Kept, CatchesUp}
use Rattle.nm_access.specs.declared.made.AccessMade.{AccessMade}
use Rattle.nm_access.specs.declared.made.Touch.TheVariants as touches
use Rattle.nm_access.specs.Turning.{Hears, Acts}
use Rattle.nm_access.specs.Faults.{FaultKinds}
use Rattle.nm_access.specs.Accesses.{Carried, Accessed, IsWholeAccess}
use Rattle.nm_script.specs.declared.script.Line.{Line}
use Rattle.nm_script.specs.declared.script.Line.TheVariants.{Load, Store, Add, Await}
use Rattle.nm_report.specs.declared.line_result.LineResult.{LineResult}
use Rattle.nm_report.specs.declared.line_result.LineResult.TheVariants.{Loaded, Stored, Added, Met, Missed}
use Rattle.nm_shadow_fault.specs.declared.fault.FaultEnd.{FaultEnd}
use Rattle.nm_cpu.specs.Programs.{access_to, line_access, CpuEnd, AfterLine, Awaits, LineMade, LinesMade, fresh_kept, carried_with, IsProgramMade}
use Rattle.nm_cpu.specs.Lines.{after_access, after_line, AccessLeft}
use Rattle.nm_fault_counts.specs.Counted.{AreFaultsCounted}
use Rattle.nm_cpu_counts.proofs.Turning.{TurnsCount, turn-follows, turn-ends, turn-either, turn-acts, turn-then}
use Rattle.nm_cpu_counts.proofs.Accessing.{catches-silent, whole-access}

-- what is left of a sequence counts, from what is held on, what its outcome has
abbrev pub SequenceCounts : {X : Type 0} → (X → List FaultEnd) → Carried X → (Turns → CpuEnd X → Type 0) → Type 0
SequenceCounts counted held pattern = TurnsCount counted held.ends (λ end. end.ends) pattern

-- so does what comes after a line
abbrev pub LineCounts : {X : Type 0} → (X → List FaultEnd) → AfterLine X → Type 0
LineCounts {X} counted after = (result : LineResult) (held : Carried X) → SequenceCounts counted held (after result held)

-- the end is acknowledged
pub last-counts : {X : Type 0} (c : X → List FaultEnd) (g : Geometry) (results : List LineResult) (ends : List X) → TurnsCount c ends (λ (end : CpuEnd X). end.ends) (Follows (Hears g (Do (Ack End))) (λ heard. Ends (record { results = results; ends = ends })))
last-counts {X} c g results ends =
    let now : CpuEnd X → List X = λ end. end.ends in
    turn-then c ends now g (Ack End) (λ heard. Ends (record { results = results; ends = ends })) tt (λ heard. turn-ends c ends now (record { results = results; ends = ends }) refl)

-- an access, and what follows it
access-then : {M X : Type 0} (c : X → List FaultEnd) (kinds : FaultKinds M X) (g : Geometry) (access : AccessMade) (held : Carried X) (after : Accessed X → Turns → CpuEnd X → Type 0) → AreFaultsCounted kinds.shape c
    → ((end : Accessed X) → SequenceCounts c end.held (after end)) → SequenceCounts c held (Follows (IsWholeAccess kinds g access held) after)
access-then {M} {X} c kinds g access held after law rest = turn-follows c held.ends (λ (end : Accessed X). end.held.ends) (λ (end : CpuEnd X). end.ends) (IsWholeAccess kinds g access held) after (whole-access c kinds g access held law) rest

awaits : {M X : Type 0} (c : X → List FaultEnd) (kinds : FaultKinds M X) (g : Geometry) (access : AccessMade) (x made more : ℕ) (after : AfterLine X) (held : Carried X) → AreFaultsCounted kinds.shape c → LineCounts c after → SequenceCounts c held (Awaits kinds g access x made more after held)
awaits c kinds g access x made zero after held law rest = rest (Missed made) held
awaits {M} {X} c kinds g access x made (suc more) after held law rest =
    access-then c kinds g access held (λ end. Either (end.word == x) (after (Met (made + 1)) end.held) (Awaits kinds g access x (made + 1) more after end.held)) law
    (λ end. turn-either c end.held.ends (λ (end : CpuEnd X). end.ends) (end.word == x) (after (Met (made + 1)) end.held) (Awaits kinds g access x (made + 1) more after end.held) (rest (Met (made + 1)) end.held) (awaits c kinds g access x (made + 1) more after end.held law rest))

line-counts : {M X : Type 0} (c : X → List FaultEnd) (kinds : FaultKinds M X) (g : Geometry) (line : Line) (after : AfterLine X) (held : Carried X) → AreFaultsCounted kinds.shape c → LineCounts c after → SequenceCounts c held (LineMade kinds g line after held)
line-counts c kinds g (Load v w) after held law rest = access-then c kinds g (access_to g v w touches.Load) held (λ end. after (Loaded end.word) end.held) law (λ end. rest (Loaded end.word) end.held)
line-counts c kinds g (Store v w x) after held law rest = access-then c kinds g (access_to g v w (touches.Store x)) held (λ end. after Stored end.held) law (λ end. rest Stored end.held)
line-counts c kinds g (Add v w x) after held law rest = access-then c kinds g (access_to g v w (touches.Add x)) held (λ end. after (Added end.word) end.held) law (λ end. rest (Added end.word) end.held)
line-counts c kinds g (Await v w x max) after held law rest = awaits c kinds g (access_to g v w touches.Load) x 0 max after held law rest

lines-count : {M X : Type 0} (c : X → List FaultEnd) (kinds : FaultKinds M X) (g : Geometry) (lines : List Line) (results : List LineResult) (held : Carried X) → AreFaultsCounted kinds.shape c → SequenceCounts c held (LinesMade kinds g lines results held)
lines-count c kinds g [] results held law = last-counts c g results held.ends
lines-count c kinds g (line ∷ lines) results held law = line-counts c kinds g line (λ result now. LinesMade kinds g lines (results ++ result ∷ []) now) held law (λ result now. lines-count c kinds g lines (results ++ result ∷ []) now law)

-- the whole sequence
pub program-counts : {M X : Type 0} (c : X → List FaultEnd) (kinds : FaultKinds M X) (g : Geometry) (program : List Line) → AreFaultsCounted kinds.shape c → TurnsCount c [] (λ (end : CpuEnd X). end.ends) (IsProgramMade kinds g program)
program-counts {M} {X} c kinds g program law =
    turn-follows c [] (λ (kept : Kept). []) (λ (end : CpuEnd X). end.ends) (Acts (CatchesUp g fresh_kept)) (λ kept. LinesMade kinds g program [] (carried_with kept [])) (turn-acts c [] (CatchesUp g fresh_kept) (catches-silent g fresh_kept))
    (λ kept. lines-count c kinds g program [] (carried_with kept []) law)

-- what is left after an access of a line
after-counts : {M X : Type 0} (c : X → List FaultEnd) (kinds : FaultKinds M X) (g : Geometry) (line : Line) (lines : List Line) (results : List LineResult) (loads more : ℕ) (end : Accessed X) → AreFaultsCounted kinds.shape c
    → SequenceCounts c end.held (after_access kinds g line loads more (after_line kinds g lines results) end)
after-counts c kinds g (Load v w) lines results loads more end law = lines-count c kinds g lines (results ++ Loaded end.word ∷ []) end.held law
after-counts c kinds g (Store v w x) lines results loads more end law = lines-count c kinds g lines (results ++ Stored ∷ []) end.held law
after-counts c kinds g (Add v w x) lines results loads more end law = lines-count c kinds g lines (results ++ Added end.word ∷ []) end.held law
after-counts {M} {X} c kinds g (Await v w x max) lines results loads more end law =
    turn-either c end.held.ends (λ (end : CpuEnd X). end.ends) (end.word == x) (after_line kinds g lines results (Met (loads + 1)) end.held) (Awaits kinds g (access_to g v w touches.Load) x (loads + 1) more (after_line kinds g lines results) end.held)
    (lines-count c kinds g lines (results ++ Met (loads + 1) ∷ []) end.held law)
    (awaits c kinds g (access_to g v w touches.Load) x (loads + 1) more (after_line kinds g lines results) end.held law (λ result now. lines-count c kinds g lines (results ++ result ∷ []) now law))

-- an access of a line, and what comes after it
pub left-of-access : {M X : Type 0} (c : X → List FaultEnd) (kinds : FaultKinds M X) (g : Geometry) (line : Line) (lines : List Line) (results : List LineResult) (loads more : ℕ) (held : Carried X) → AreFaultsCounted kinds.shape c
    → SequenceCounts c held (AccessLeft kinds g line lines results loads more held)
left-of-access c kinds g line lines results loads more held law =
    access-then c kinds g (line_access g line) held (after_access kinds g line loads more (after_line kinds g lines results)) law (λ end. after-counts c kinds g line lines results loads more end law)
