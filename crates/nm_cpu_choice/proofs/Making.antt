-- The sequence of a processor leaves no choice.
use Rattle.std.proofs.Common.{ℕ, zero, suc, ◌+◌, ◌==◌, List, [], ◌∷◌, ◌++◌}
use Rattle.nm_base.specs.Geometry.{Geometry}
use Rattle.nm_action.specs.declared.action.AckTo.TheVariants as ack
use Rattle.nm_action.specs.declared.action.Action.TheVariants.{Ack}
use Rattle.nm_action.specs.declared.turn.Turn.TheVariants.{Do}
use Rattle.nm_part.specs.Patterns.{Ends, Either}
use Rattle.nm_catchup.specs.CatchUp.{CatchesUp}
use Rattle.nm_access.specs.declared.made.Touch.TheVariants as touches
use Rattle.nm_access.specs.declared.made.AccessMade.{AccessMade}
use Rattle.nm_access.specs.Turning.{Acts}
use Rattle.nm_access.specs.Faults.{FaultKinds}
use Rattle.nm_access.specs.Accesses.{Carried, IsWholeAccess}
use Rattle.nm_script.specs.declared.script.Line.{Line}
use Rattle.nm_script.specs.declared.script.Line.TheVariants.{Load, Store, Add, Await}
use Rattle.nm_report.specs.declared.line_result.LineResult.{LineResult}
use Rattle.nm_report.specs.declared.line_result.LineResult.TheVariants.{Loaded, Stored, Added, Met, Missed}
use Rattle.nm_cpu.specs.Programs.{AfterLine, access_to, Awaits, LineMade, LinesMade, fresh_kept, carried_with, IsProgramMade}
use Rattle.nm_choice.specs.Deterministic.{AreAnswersApart, IsDeterministicActor}
use Rattle.nm_choice.proofs.Patterns.{one-ends, one-follows, one-either}
use Rattle.nm_cpu_choice.proofs.Turning.{hears-then}
use Rattle.nm_cpu_choice.proofs.Accessing.{FaultsOne, catches-turns, whole-access}

-- what comes after a line leaves no choice
abbrev AfterOne : {X : Type 0} → AfterLine X → Type 0
AfterOne {X} after = (result : LineResult) (held : Carried X) → IsDeterministicActor (after result held)

awaits_one : {M X : Type 0} (kinds : FaultKinds M X) (g : Geometry) (access : AccessMade) (x made more : ℕ) (after : AfterLine X) (held : Carried X) → FaultsOne kinds → AfterOne after → IsDeterministicActor (Awaits kinds g access x made more after held)
awaits_one kinds g access x made zero after held faults rest = rest (Missed made) held
awaits_one kinds g access x made (suc more) after held faults rest =
    one-follows AreAnswersApart (IsWholeAccess kinds g access held) (λ end. Either (end.word == x) (after (Met (made + 1)) end.held) (Awaits kinds g access x (made + 1) more after end.held)) (whole-access kinds g access held faults)
    (λ end. one-either AreAnswersApart (end.word == x) (after (Met (made + 1)) end.held) (Awaits kinds g access x (made + 1) more after end.held) (rest (Met (made + 1)) end.held) (awaits_one kinds g access x (made + 1) more after end.held faults rest))

line_one : {M X : Type 0} (kinds : FaultKinds M X) (g : Geometry) (line : Line) (after : AfterLine X) (held : Carried X) → FaultsOne kinds → AfterOne after → IsDeterministicActor (LineMade kinds g line after held)
line_one kinds g (Load v w) after held faults rest =
    one-follows AreAnswersApart (IsWholeAccess kinds g (access_to g v w touches.Load) held) (λ end. after (Loaded end.word) end.held) (whole-access kinds g (access_to g v w touches.Load) held faults) (λ end. rest (Loaded end.word) end.held)
line_one kinds g (Store v w x) after held faults rest =
    one-follows AreAnswersApart (IsWholeAccess kinds g (access_to g v w (touches.Store x)) held) (λ end. after Stored end.held) (whole-access kinds g (access_to g v w (touches.Store x)) held faults) (λ end. rest Stored end.held)
line_one kinds g (Add v w x) after held faults rest =
    one-follows AreAnswersApart (IsWholeAccess kinds g (access_to g v w (touches.Add x)) held) (λ end. after (Added end.word) end.held) (whole-access kinds g (access_to g v w (touches.Add x)) held faults) (λ end. rest (Added end.word) end.held)
line_one kinds g (Await v w x max) after held faults rest = awaits_one kinds g (access_to g v w touches.Load) x 0 max after held faults rest

lines_one : {M X : Type 0} (kinds : FaultKinds M X) (g : Geometry) (lines : List Line) (results : List LineResult) (held : Carried X) → FaultsOne kinds → IsDeterministicActor (LinesMade kinds g lines results held)
lines_one kinds g [] results held faults =
    hears-then g (Do (Ack ack.End)) (λ heard. Ends (record { results = results; ends = held.ends })) (λ heard. Ends (record { results = results; ends = held.ends })) (λ heard. one-ends AreAnswersApart (record { results = results; ends = held.ends }))
lines_one kinds g (line ∷ lines) results held faults =
    line_one kinds g line (λ result now. LinesMade kinds g lines (results ++ result ∷ []) now) held faults (λ result now. lines_one kinds g lines (results ++ result ∷ []) now faults)

pub program-one : {M X : Type 0} (kinds : FaultKinds M X) (g : Geometry) (program : List Line) → FaultsOne kinds → IsDeterministicActor (IsProgramMade kinds g program)
program-one kinds g program faults =
    one-follows AreAnswersApart (Acts (CatchesUp g fresh_kept)) (λ kept. LinesMade kinds g program [] (carried_with kept [])) (catches-turns g fresh_kept) (λ kept. lines_one kinds g program [] (carried_with kept []) faults)
