-- What is answered to bytes that may be a journal.
use Rattle.std.specs.Prelude.{◌≡◌, ℕ, ◌+◌, ◌⊎◌, List, Result, Ok, Err}
use Rattle.nm_script.specs.Plain.{Script}
use Rattle.nm_script.specs.declared.fault.ScriptFault.{ScriptFault}
use Rattle.nm_script.specs.declared.fault.ScriptRefusal.{ScriptRefusal}
use Rattle.nm_script.specs.declared.fault.ScriptRefusal.TheVariants as refusals
use Rattle.nm_journal.specs.declared.check.Verdict.{Verdict}
use Rattle.nm_journal.specs.declared.check.Verdict.TheVariants.{Yes, No}
use Rattle.nm_journal_text.specs.Journals.{IsBody, IsJournalThatHolds}
use Rattle.nm_journal_text.specs.Verdicts.{IsFirstWrong, IsWrongAt, IsRefusedAt}

-- why this is answered
abbrev pub CheckCause : List ℕ → Result Verdict ScriptRefusal → Type 0
CheckCause bytes (Ok Yes) = IsJournalThatHolds bytes
CheckCause bytes (Ok (No n)) = IsWrongAt bytes n
CheckCause bytes (Err (refusals.At fault n)) = IsRefusedAt bytes fault n
CheckCause bytes (Err refusals.Memory) = Unit {0}

-- this is answered, or memory is wanting
abbrev pub IsAnswered : Result Verdict ScriptRefusal → Result Verdict ScriptRefusal → Type 0
IsAnswered result wanted = (result ≡ wanted) ⊎ (result ≡ Err refusals.Memory)

pub record CheckAnswers (bytes : List ℕ) (result : Result Verdict ScriptRefusal) : Type 0 where
  pub holds : IsJournalThatHolds bytes → IsAnswered result (Ok Yes)
  pub wrong : (n : ℕ) → IsWrongAt bytes n → IsAnswered result (Ok (No n))
  pub refused : (fault : ScriptFault) (n : ℕ) → IsRefusedAt bytes fault n → IsAnswered result (Err (refusals.At fault n))

-- why this is answered to a text behind a script part of so many lines
abbrev pub BodyCause : Script → List ℕ → ℕ → Result Verdict ScriptRefusal → Type 0
BodyCause script body lines (Ok Yes) = IsBody script body
BodyCause script body lines (Ok (No n)) = (right : ℕ) × IsFirstWrong script body right × (n ≡ lines + right + 1)
BodyCause script body lines (Err (refusals.At fault n)) = ⊥
BodyCause script body lines (Err refusals.Memory) = Unit {0}
