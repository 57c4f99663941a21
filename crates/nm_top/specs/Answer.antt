-- What a call of the program answers, and why: one record for each command.
use Rattle.std.specs.Prelude.{◌≡◌, ℕ, ◌<◌, ◌≤◌, ◌⊎◌, List, Option, length, IfSome, Result, Ok, Err, MatchResult}
use Rattle.nm_io.specs.Count.{Rose}
use Rattle.nm_io.specs.Whole.{SourceTells, SinkTells, ReadsWhole, ReadsUpToFault, ReadsSome, WritesWhole, WritesPart}
use Rattle.nm_io.specs.declared.sources.TheConstants.{MOST_BYTES}
use Rattle.nm_script.specs.declared.fault.ScriptFault.TheVariants.{TooLong}
use Rattle.nm_script.specs.Plain as plain
use Rattle.nm_script.specs.Script.{IsScript, script_text}
use Rattle.nm_script.specs.Grammar.{IsScriptText}
use Rattle.nm_gen.specs.Generated.{generated}
use Rattle.nm_trace.specs.declared.fault.TraceFault.{TraceFault}
use Rattle.nm_trace.specs.declared.fault.TraceFault.TheVariants.{TooManyPages, Empty, ScriptTooLong}
use Rattle.nm_trace.specs.Traces.{HasTrace, trace_text}
use Rattle.nm_trace.specs.Imports.{IsImport, IsFirstTraceFault}
use Rattle.nm_trace.specs.Laws.{HasOwnNumbers}
use Rattle.nm_command.specs.declared.form.Form.{Form}
use Rattle.nm_command.specs.declared.form.Form.TheVariants.{Sim, Gen, Drill, Import, Run, Journal, Check, Lab}
use Rattle.nm_check_call.specs.Checking.{IsCheckCall}
use Rattle.nm_lab_run.specs.LabRuns.{IsLabOf}
use Rattle.nm_answer.specs.Answer.{IsOrMemory, IsScriptCommand, IsTooMany, IsUnreadCall, IsUsageCall, IsWanting}
use Rattle.nm_answer.specs.declared.status.Status.{Status}
use Rattle.nm_answer.specs.declared.status.Status.TheVariants.{Done, Usage, Script, ReadFault, WriteFault, Memory, Trace}
use Rattle.nm_top.specs.Output.{IsJournalOf, IsReportOf, IsSummary, IsThreadReportOf}

-- ---- sim, run, journal, lab WORD .., gen N SIZE, drill N SIZE

-- a script was read, and the report of its run was written
abbrev pub IsSimCall : {S K : Type 0} → SourceTells S → SinkTells K → S → S → K → K → Status → Type 0
IsSimCall m k = IsScriptCommand m k IsReportOf

-- a script was read, and the report of a run that threads made of it was written
abbrev pub IsRunCall : {S K : Type 0} → SourceTells S → SinkTells K → S → S → K → K → Status → Type 0
IsRunCall m k = IsScriptCommand m k IsThreadReportOf

-- a script was read, and the journal of its run was written
abbrev pub IsJournalCall : {S K : Type 0} → SourceTells S → SinkTells K → S → S → K → K → Status → Type 0
IsJournalCall m k = IsScriptCommand m k IsJournalOf

-- a script was read, and the table of its runs with these retries was written
abbrev pub IsLabCall : {S K : Type 0} → SourceTells S → SinkTells K → List (Option ℕ) → S → S → K → K → Status → Type 0
IsLabCall m k retries = IsScriptCommand m k (IsLabOf retries)

-- the text of the script of N with SIZE lines was written
abbrev pub IsGenCall : {K : Type 0} → SinkTells K → ℕ → ℕ → K → K → Status → Type 0
IsGenCall k n size sink sink' status = IsUnreadCall k sink sink' (λ text. text ≡ script_text (generated n size)) status

-- the summary of the run of the script of N with SIZE lines was written
abbrev pub IsDrillCall : {K : Type 0} → SinkTells K → ℕ → ℕ → K → K → Status → Type 0
IsDrillCall k n size sink sink' status = IsUnreadCall k sink sink' (IsSummary n size) status

-- ---- import F S

-- The text is the canonical one of the script of the trace that the bytes are, and is read as that script. Two references of
-- the trace have one page number exactly where their addresses have one page.
pub record IsImported (bytes : List ℕ) (fast slow : ℕ) (text : List ℕ) : Type 0 where
  pub script : plain.Script
  pub says : IsImport bytes fast slow script
  pub numbers : HasOwnNumbers says.refs
  pub is : text ≡ script_text script
  pub read : IsScriptText text script

-- the script of the trace that was read, or why there is none
abbrev pub TraceCause : {S : Type 0} → SourceTells S → ℕ → ℕ → S → S → Result plain.Script Status → Type 0
TraceCause m fast slow old new (Ok s) = ReadsWhole m old new (λ bytes. IsImport bytes fast slow s)
TraceCause m fast slow old new (Err (Script fault line)) = IsTooMany m old new fault line
TraceCause m fast slow old new (Err (Trace fault row)) = ReadsWhole m old new (λ bytes. IsFirstTraceFault bytes fast slow fault row)
TraceCause m fast slow old new (Err ReadFault) = ReadsUpToFault m old new
TraceCause m fast slow old new (Err Memory) = ReadsSome m old new
TraceCause m fast slow old new (Err status) = ⊥

-- the fault is one that the trace of a script can have
abbrev pub IsFaultOfWritten : TraceFault → Type 0
IsFaultOfWritten fault = (fault ≡ TooManyPages) ⊎ (fault ≡ Empty) ⊎ (fault ≡ ScriptTooLong)

-- the status is one of a trace that was written of a script
abbrev pub IsStatusOfWritten : Status → Type 0
IsStatusOfWritten (Trace fault row) = IsFaultOfWritten fault
IsStatusOfWritten status = (status ≡ Done) ⊎ (status ≡ WriteFault) ⊎ (status ≡ Memory)

-- what reading a trace gives for these bytes, but for want of memory
pub record TraceAnswers (bytes : List ℕ) (fast slow : ℕ) (result : Result plain.Script Status) : Type 0 where
  pub long : MOST_BYTES < length bytes → MatchResult result (λ _. ⊥) (λ status. IsOrMemory status (Script TooLong 0))
  pub first : length bytes ≤ MOST_BYTES → (fault : TraceFault) (row : ℕ) → IsFirstTraceFault bytes fast slow fault row
      → MatchResult result (λ _. ⊥) (λ status. IsOrMemory status (Trace fault row))
  pub only : length bytes ≤ MOST_BYTES → (s : plain.Script) → IsImport bytes fast slow s → MatchResult result (λ t. t ≡ s) (λ status. status ≡ Memory)
  pub written : length bytes ≤ MOST_BYTES → (s : plain.Script) → IsScript s → HasTrace s → bytes ≡ trace_text s
      → MatchResult result (λ _. Unit {0}) IsStatusOfWritten

pub record IsTraceReading {S : Type 0} (m : SourceTells S) (fast slow : ℕ) (old new : S) (result : Result plain.Script Status) : Type 0 where
  pub cause : TraceCause m fast slow old new result
  pub answers : (Rose (m.faults old) (m.faults new) → ⊥) → IfSome (m.left old) (λ bytes. TraceAnswers bytes fast slow result)

-- why `import` answers this, what it read and what it wrote
abbrev pub ImportCause : {S K : Type 0} → SourceTells S → SinkTells K → ℕ → ℕ → S → S → K → K → Status → Type 0
ImportCause m k fast slow old new sink sink' Done =
    ReadsWhole m old new (λ bytes. (text : List ℕ) × IsImported bytes fast slow text × WritesWhole k sink sink' text)
ImportCause m k fast slow old new sink sink' Usage = ⊥
ImportCause m k fast slow old new sink sink' (Script fault line) = IsTooMany m old new fault line × (sink' ≡ sink)
ImportCause m k fast slow old new sink sink' ReadFault = ReadsUpToFault m old new × (sink' ≡ sink)
ImportCause m k fast slow old new sink sink' WriteFault =
    ReadsWhole m old new (λ bytes. (text : List ℕ) × IsImported bytes fast slow text × WritesPart k sink sink' text)
ImportCause m k fast slow old new sink sink' Memory = IsWanting m old new sink sink'
ImportCause m k fast slow old new sink sink' (Trace fault row) = ReadsWhole m old new (λ bytes. IsFirstTraceFault bytes fast slow fault row) × (sink' ≡ sink)

-- what is answered to bytes that could be read to their end, but for want of memory
pub record ImportAnswers (bytes : List ℕ) (fast slow : ℕ) (status : Status) : Type 0 where
  pub long : MOST_BYTES < length bytes → IsOrMemory status (Script TooLong 0)
  pub first : length bytes ≤ MOST_BYTES → (fault : TraceFault) (row : ℕ) → IsFirstTraceFault bytes fast slow fault row → IsOrMemory status (Trace fault row)
  pub accepted : length bytes ≤ MOST_BYTES → (s : plain.Script) → IsImport bytes fast slow s → (status ≡ Done) ⊎ (status ≡ WriteFault) ⊎ (status ≡ Memory)
  -- the trace of a script
  pub written : length bytes ≤ MOST_BYTES → (s : plain.Script) → IsScript s → HasTrace s → bytes ≡ trace_text s → IsStatusOfWritten status

pub record IsImportCall {S K : Type 0} (m : SourceTells S) (k : SinkTells K) (fast slow : ℕ) (old new : S) (sink sink' : K) (status : Status) : Type 0 where
  pub cause : ImportCause m k fast slow old new sink sink' status
  -- where no read fails, the bytes decide the answer
  pub answers : (Rose (m.faults old) (m.faults new) → ⊥) → IfSome (m.left old) (λ bytes. ImportAnswers bytes fast slow status)
  -- where no call fails, a trace is imported, unless memory is wanting
  pub complete : IfSome (m.left old) (λ bytes. (s : plain.Script) → IsImport bytes fast slow s → length bytes ≤ MOST_BYTES → (Rose (m.faults old) (m.faults new) → ⊥)
      → (Rose (k.faults sink) (k.faults sink') → ⊥) → IsOrMemory status Done)

-- ---- all commands

-- words of no form, or of a form that is not served here, are answered by Usage; nothing was read
pub record IsUnserved {S K : Type 0} (old new : S) (sink sink' : K) (status : Status) : Type 0 where
  pub usage : IsUsageCall sink sink' status
  pub unread : new ≡ old

-- a command that reads nothing
pub record IsUnreadForm {S : Type 0} (old new : S) (Call : Type 0) : Type 0 where
  pub answered : Call
  pub unread : new ≡ old

-- what is answered to words of a form by a call that has no threads
abbrev pub IsPlainForm : {S K : Type 0} → SourceTells S → SinkTells K → Form → S → S → K → K → Status → Type 0
IsPlainForm m k Sim old new sink sink' status = IsSimCall m k old new sink sink' status
IsPlainForm m k (Gen n size) old new sink sink' status = IsUnreadForm old new (IsGenCall k n size sink sink' status)
IsPlainForm m k (Drill n size) old new sink sink' status = IsUnreadForm old new (IsDrillCall k n size sink sink' status)
IsPlainForm m k (Import fast slow) old new sink sink' status = IsImportCall m k fast slow old new sink sink' status
IsPlainForm m k Run old new sink sink' status = IsUnserved old new sink sink' status
IsPlainForm m k Journal old new sink sink' status = IsJournalCall m k old new sink sink' status
IsPlainForm m k Check old new sink sink' status = IsCheckCall m k old new sink sink' status
IsPlainForm m k (Lab retries) old new sink sink' status = IsLabCall m k retries old new sink sink' status

-- what is answered to words of a form by the program
abbrev pub IsProgramForm : {S K : Type 0} → SourceTells S → SinkTells K → Form → S → S → K → K → Status → Type 0
IsProgramForm m k Run old new sink sink' status = IsRunCall m k old new sink sink' status
IsProgramForm m k form old new sink sink' status = IsPlainForm m k form old new sink sink' status
