-- What the command `check` answers, and why.
use Rattle.std.specs.Prelude.{◌≡◌, ℕ, ◌<◌, ◌≤◌, ◌⊎◌, List, [], ◌∷◌, ◌++◌, length, codes, IfSome, Result, Ok, Err, MatchResult}
use Rattle.std.specs.Fmt.{decimal}
use Rattle.nm_io.specs.Count.{Rose}
use Rattle.nm_io.specs.Whole.{SourceTells, SinkTells, ReadsWhole, ReadsUpToFault, ReadsSome}
use Rattle.nm_io.specs.declared.sources.TheConstants.{MOST_BYTES}
use Rattle.nm_script.specs.declared.fault.ScriptFault.{ScriptFault}
use Rattle.nm_script.specs.declared.fault.ScriptFault.TheVariants.{TooLong}
use Rattle.nm_script.specs.Plain as plain
use Rattle.nm_script.specs.Items.{line}
use Rattle.nm_script.specs.Grammar.{IsScriptText}
use Rattle.nm_journal_text.specs.Verdicts.{IsScriptPart, IsWrongAt, IsRefusedAt}
use Rattle.nm_journal.specs.declared.check.Verdict.{Verdict}
use Rattle.nm_journal.specs.declared.check.Verdict.TheVariants.{Yes, No}
use Rattle.nm_journal.specs.Answers.{CheckCause}
use Rattle.nm_run_facts.specs.RunFacts.{HoldsOfJournal}
use Rattle.nm_answer.specs.Answer.{IsOrMemory, IsRefusedBy, IsTextCall}
use Rattle.nm_answer.specs.declared.status.Status.{Status}
use Rattle.nm_answer.specs.declared.status.Status.TheVariants.{Script, ReadFault, Memory}

-- the script part of the bytes is the text of a script
pub record HasScriptPart (bytes : List ℕ) : Type 0 where
  pub part : List ℕ
  pub body : List ℕ
  pub script : plain.Script
  pub cut : IsScriptPart bytes part body
  pub says : IsScriptText part script

-- the line of a verdict
abbrev pub verdict_text : Verdict → List ℕ
verdict_text Yes = line (codes "yes")
verdict_text (No n) = line (codes "no " ++ decimal n)

-- the bytes are a journal that holds, of whose run the facts are true, or it is this line that is the first wrong one
abbrev pub IsJudged : List ℕ → Verdict → Type 0
IsJudged bytes Yes = HoldsOfJournal bytes
IsJudged bytes (No n) = IsWrongAt bytes n

-- the text says what is found of the bytes
pub record IsVerdict (bytes text : List ℕ) : Type 0 where
  pub verdict : Verdict
  pub judged : IsJudged bytes verdict
  pub is : text ≡ verdict_text verdict

-- a journal was read, and what was found of it was written
abbrev pub IsCheckCall : {S K : Type 0} → SourceTells S → SinkTells K → S → S → K → K → Status → Type 0
IsCheckCall m k = IsTextCall m k HasScriptPart IsRefusedAt IsVerdict

-- ---- reading

-- what was found of the journal that was read, or why nothing was
abbrev pub JudgeCause : {S : Type 0} → SourceTells S → S → S → Result Verdict Status → Type 0
JudgeCause m old new (Ok verdict) = ReadsWhole m old new (λ bytes. CheckCause bytes (Ok verdict))
JudgeCause m old new (Err (Script fault line)) = IsRefusedBy m IsRefusedAt old new fault line
JudgeCause m old new (Err ReadFault) = ReadsUpToFault m old new
JudgeCause m old new (Err Memory) = ReadsSome m old new
JudgeCause m old new (Err status) = ⊥

-- what reading gives for these bytes, but for want of memory
pub record JudgeAnswers (bytes : List ℕ) (result : Result Verdict Status) : Type 0 where
  pub long : MOST_BYTES < length bytes → MatchResult result (λ _. ⊥) (λ status. IsOrMemory status (Script TooLong 0))
  pub first : length bytes ≤ MOST_BYTES → (fault : ScriptFault) (n : ℕ) → IsRefusedAt bytes fault n
      → MatchResult result (λ _. ⊥) (λ status. IsOrMemory status (Script fault n))
  pub only : length bytes ≤ MOST_BYTES → HasScriptPart bytes → MatchResult result (λ _. Unit {0}) (λ status. status ≡ Memory)

pub record IsJudging {S : Type 0} (m : SourceTells S) (old new : S) (result : Result Verdict Status) : Type 0 where
  pub cause : JudgeCause m old new result
  pub answers : (Rose (m.faults old) (m.faults new) → ⊥) → IfSome (m.left old) (λ bytes. JudgeAnswers bytes result)
