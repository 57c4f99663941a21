-- What a command of the program answers, and why, whatever it reads and writes.
use Rattle.std.specs.Prelude.{◌≡◌, ℕ, ◌<◌, ◌≤◌, ◌⊎◌, List, length, IfSome, Result, Ok, Err, MatchResult}
use Rattle.nm_io.specs.Count.{Rose}
use Rattle.nm_io.specs.Whole.{SourceTells, SinkTells, ReadsWhole, ReadsTooMany, ReadsUpToFault, ReadsSome, WritesWhole, WritesPart}
use Rattle.nm_io.specs.declared.sources.TheConstants.{MOST_BYTES}
use Rattle.nm_script.specs.declared.fault.ScriptFault.{ScriptFault}
use Rattle.nm_script.specs.declared.fault.ScriptFault.TheVariants.{TooLong}
use Rattle.nm_script.specs.Plain as plain
use Rattle.nm_script.specs.Grammar.{IsScriptText}
use Rattle.nm_script.specs.Faults.{IsFirstFault}
use Rattle.nm_answer.specs.declared.status.Status.{Status}
use Rattle.nm_answer.specs.declared.status.Status.TheVariants.{Done, Usage, Script, ReadFault, WriteFault, Memory, Trace}

-- the bytes are a script
abbrev pub IsAccepted : List ℕ → Type 0
IsAccepted bytes = (s : plain.Script) × IsScriptText bytes s

-- the status is this one, or memory is wanting
abbrev pub IsOrMemory : Status → Status → Type 0
IsOrMemory status wanted = (status ≡ wanted) ⊎ (status ≡ Memory)

-- memory is wanting: nothing was written, and no read failed
pub record IsWanting {S K : Type 0} (m : SourceTells S) (old new : S) (sink sink' : K) : Type 0 where
  pub unwritten : sink' ≡ sink
  pub read : ReadsSome m old new

-- ---- words of no form

-- they are answered by Usage, and nothing is written
pub record IsUsageCall {K : Type 0} (sink sink' : K) (status : Status) : Type 0 where
  pub unwritten : sink' ≡ sink
  pub answer : IsOrMemory status Usage

-- ---- writing

-- how the writing of a text ended: it was written, or a write failed
abbrev pub IsWritten : {K : Type 0} → SinkTells K → K → K → List ℕ → Status → Type 0
IsWritten k sink sink' text Done = WritesWhole k sink sink' text
IsWritten k sink sink' text WriteFault = WritesPart k sink sink' text
IsWritten k sink sink' text status = ⊥

-- a text was written, a write failed, or memory is wanting
abbrev pub TextCause : {K : Type 0} → SinkTells K → K → K → List ℕ → Status → Type 0
TextCause k sink sink' text Memory = sink' ≡ sink
TextCause k sink sink' text status = IsWritten k sink sink' text status

-- a text of this kind was written, a write failed, or memory is wanting
abbrev pub SomeTextCause : {K : Type 0} → SinkTells K → K → K → (List ℕ → Type 0) → Status → Type 0
SomeTextCause k sink sink' Is Memory = sink' ≡ sink
SomeTextCause k sink sink' Is status = (text : List ℕ) × Is text × IsWritten k sink sink' text status

-- a text of this kind was written and nothing was read: why this is answered, and that it is done where no write fails, unless memory is
-- wanting
pub record IsUnreadCall {K : Type 0} (k : SinkTells K) (sink sink' : K) (Is : List ℕ → Type 0) (status : Status) : Type 0 where
  pub cause : SomeTextCause k sink sink' Is status
  pub complete : (Rose (k.faults sink) (k.faults sink') → ⊥) → IsOrMemory status Done

-- ---- reading

-- more bytes than the limit were read, which is told at line 0
abbrev pub IsTooMany : {S : Type 0} → SourceTells S → S → S → ScriptFault → ℕ → Type 0
IsTooMany m old new fault line = (fault ≡ TooLong) × (line ≡ 0) × ReadsTooMany m old new

-- what is told of a text with this fault: more bytes than the limit were read, or all of them have this first fault
abbrev pub IsRefusedBy : {S : Type 0} → SourceTells S → (List ℕ → ScriptFault → ℕ → Type 0) → S → S → ScriptFault → ℕ → Type 0
IsRefusedBy m Refuses old new fault line =
    IsTooMany m old new fault line
    ⊎ ((1 ≤ line) × ReadsWhole m old new (λ bytes. Refuses bytes fault line))

-- the script that was read, or why there is none
abbrev pub ReadCause : {S : Type 0} → SourceTells S → S → S → Result plain.Script Status → Type 0
ReadCause m old new (Ok s) = ReadsWhole m old new (λ bytes. IsScriptText bytes s)
ReadCause m old new (Err (Script fault line)) = IsRefusedBy m IsFirstFault old new fault line
ReadCause m old new (Err ReadFault) = ReadsUpToFault m old new
ReadCause m old new (Err Memory) = ReadsSome m old new
ReadCause m old new (Err status) = ⊥

-- what reading gives for these bytes, but for want of memory
pub record ReadAnswers (bytes : List ℕ) (result : Result plain.Script Status) : Type 0 where
  pub long : MOST_BYTES < length bytes → MatchResult result (λ _. ⊥) (λ status. IsOrMemory status (Script TooLong 0))
  pub first : length bytes ≤ MOST_BYTES → (fault : ScriptFault) (line : ℕ) → IsFirstFault bytes fault line
      → MatchResult result (λ _. ⊥) (λ status. IsOrMemory status (Script fault line))
  pub only : length bytes ≤ MOST_BYTES → (s : plain.Script) → IsScriptText bytes s → MatchResult result (λ t. t ≡ s) (λ status. status ≡ Memory)

pub record IsReading {S : Type 0} (m : SourceTells S) (old new : S) (result : Result plain.Script Status) : Type 0 where
  pub cause : ReadCause m old new result
  pub answers : (Rose (m.faults old) (m.faults new) → ⊥) → IfSome (m.left old) (λ bytes. ReadAnswers bytes result)

-- ---- a command that reads a text and writes one

-- why it answers this, what it read and what it wrote: which texts have which fault, and what is written of which text
abbrev pub TextCallCause : {S K : Type 0} → SourceTells S → SinkTells K → (List ℕ → ScriptFault → ℕ → Type 0) → (List ℕ → List ℕ → Type 0) → S → S → K → K → Status → Type 0
TextCallCause m k Refuses Writes old new sink sink' Done = ReadsWhole m old new (λ bytes. (text : List ℕ) × Writes bytes text × WritesWhole k sink sink' text)
TextCallCause m k Refuses Writes old new sink sink' Usage = ⊥
TextCallCause m k Refuses Writes old new sink sink' (Script fault line) = IsRefusedBy m Refuses old new fault line × (sink' ≡ sink)
TextCallCause m k Refuses Writes old new sink sink' ReadFault = ReadsUpToFault m old new × (sink' ≡ sink)
TextCallCause m k Refuses Writes old new sink sink' WriteFault = ReadsWhole m old new (λ bytes. (text : List ℕ) × Writes bytes text × WritesPart k sink sink' text)
TextCallCause m k Refuses Writes old new sink sink' Memory = IsWanting m old new sink sink'
TextCallCause m k Refuses Writes old new sink sink' (Trace fault row) = ⊥

-- what is answered to bytes that could be read to their end, but for want of memory
pub record TextAnswers (Accepts : List ℕ → Type 0) (Refuses : List ℕ → ScriptFault → ℕ → Type 0) (bytes : List ℕ) (status : Status) : Type 0 where
  pub long : MOST_BYTES < length bytes → IsOrMemory status (Script TooLong 0)
  pub first : length bytes ≤ MOST_BYTES → (fault : ScriptFault) (line : ℕ) → Refuses bytes fault line → IsOrMemory status (Script fault line)
  pub accepted : length bytes ≤ MOST_BYTES → Accepts bytes → (status ≡ Done) ⊎ (status ≡ WriteFault) ⊎ (status ≡ Memory)

pub record IsTextCall {S K : Type 0} (m : SourceTells S) (k : SinkTells K) (Accepts : List ℕ → Type 0) (Refuses : List ℕ → ScriptFault → ℕ → Type 0) (Writes : List ℕ → List ℕ → Type 0) (old new : S) (sink sink' : K) (status : Status) : Type 0 where
  pub cause : TextCallCause m k Refuses Writes old new sink sink' status
  -- where no read fails, the bytes decide the answer
  pub answers : (Rose (m.faults old) (m.faults new) → ⊥) → IfSome (m.left old) (λ bytes. TextAnswers Accepts Refuses bytes status)
  -- where no call fails, what is accepted is done, unless memory is wanting
  pub complete : IfSome (m.left old) (λ bytes. Accepts bytes → length bytes ≤ MOST_BYTES → (Rose (m.faults old) (m.faults new) → ⊥)
      → (Rose (k.faults sink) (k.faults sink') → ⊥) → IsOrMemory status Done)

-- ---- a command that reads a script

-- the bytes are a script, and the text is what is written of it
pub record IsToldOf (Of : plain.Script → List ℕ → Type 0) (bytes text : List ℕ) : Type 0 where
  pub script : plain.Script
  pub says : IsScriptText bytes script
  pub told : Of script text

-- it reads a script, and writes such a text of it
abbrev pub IsScriptCommand : {S K : Type 0} → SourceTells S → SinkTells K → (plain.Script → List ℕ → Type 0) → S → S → K → K → Status → Type 0
IsScriptCommand m k Of = IsTextCall m k IsAccepted IsFirstFault (IsToldOf Of)
