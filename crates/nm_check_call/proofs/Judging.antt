-- Why `check` answers what it answers.
use Rattle.std.proofs.Common.{◌≡◌, ℕ, ◌<◌, ◌≤◌, ◌⊎◌, inl, inr, List, length, Option, Some, None, IfSome, Result, Ok, Err, refl, sym, ap, subst, arith}
use Rattle.nm_io.specs.Count.{Rose}
use Rattle.nm_io.specs.Whole.{SourceTells, SinkTells, ReadsWhole}
use Rattle.nm_io.specs.declared.sources.TheConstants.{MOST_BYTES}
use Rattle.nm_script.specs.declared.fault.ScriptFault.{ScriptFault}
use Rattle.nm_script.specs.declared.fault.ScriptRefusal.{ScriptRefusal}
use Rattle.nm_script.specs.declared.fault.ScriptRefusal.TheVariants as refusals
use Rattle.nm_script.specs.Grammar.{IsScriptText}
use Rattle.nm_script.specs.Faults.{IsFirstFault}
use Rattle.nm_script.proofs.OneReading.{one-reading}
use Rattle.nm_journal_text.specs.Journals.{IsJournalThatHolds}
use Rattle.nm_journal_text.specs.Verdicts.{IsRefusedAt}
use Rattle.nm_journal.specs.declared.check.Verdict.{Verdict}
use Rattle.nm_journal.specs.declared.check.Verdict.TheVariants.{Yes, No}
use Rattle.nm_journal.specs.Answers.{CheckCause, CheckAnswers}
use Rattle.nm_journal.proofs.OnePart.{one_part}
use Rattle.nm_run_facts.specs.RunFacts.{HoldsOfJournal}
use Rattle.nm_answer.specs.Answer.{IsOrMemory, SomeTextCause, TextAnswers, TextCallCause}
use Rattle.nm_answer.specs.Status.{status_of_text}
use Rattle.nm_answer.specs.declared.status.Status.{Status}
use Rattle.nm_answer.specs.declared.status.Status.TheVariants.{Done, Usage, Script, ReadFault, WriteFault, Memory, Trace}
use Rattle.nm_answer.proofs.Causes.{HasRead, along, answers_along, left_all, lost_all, some_text_answer, whole, IsTextCall-from}
use Rattle.nm_check_call.specs.Checking.{HasScriptPart, IsCheckCall, IsJudged, IsJudging, IsVerdict, JudgeAnswers, JudgeCause, verdict_text}

-- ---- a script part is a script or has a fault, and not both

refused_apart : (bytes : List ℕ) (fault : ScriptFault) (n : ℕ) → HasScriptPart bytes → IsRefusedAt bytes fault n → ⊥
refused_apart bytes fault n h r =
    let same = one_part bytes h.part r.part h.body r.body h.cut r.cut in
    (one-reading r.part).apart h.script fault n (subst (λ (p : List ℕ). IsScriptText p h.script) same.0 h.says) r.first

-- ---- what was judged

abbrev tag : Result Verdict ScriptRefusal → ℕ
tag (Ok v) = 0
tag (Err refusals.Memory) = 1
tag (Err (refusals.At f n)) = 2

not_refused : (verdict : Verdict) (fault : ScriptFault) (n : ℕ) → ◌≡◌ {A = Result Verdict ScriptRefusal} (Ok verdict) (Err (refusals.At fault n)) ⊎ ◌≡◌ {A = Result Verdict ScriptRefusal} (Ok verdict) (Err refusals.Memory) → ⊥
not_refused verdict fault n (inl e) = absurd (let bad : 0 ≡ 2 = ap tag e in omega (arith, bad))
not_refused verdict fault n (inr e) = absurd (let bad : 0 ≡ 1 = ap tag e in omega (arith, bad))

-- the bytes were judged
pub IsJudging-verdict : {S : Type 0} (m : SourceTells S) (old new : S) (bytes : List ℕ) (verdict : Verdict) → HasRead m old new bytes → CheckCause bytes (Ok verdict) → CheckAnswers bytes (Ok verdict)
    → IsJudging m old new (Ok verdict)
IsJudging-verdict m old new bytes verdict h cause answers = record {
  cause = whole m old new bytes (λ b. CheckCause b (Ok verdict)) h cause;
  answers = λ _. left_all _ _ bytes (λ b. JudgeAnswers b (Ok verdict)) h.all (record {
    long = λ many. absurd (omega (arith, many, h.few));
    first = λ _ f n fault. not_refused verdict f n (answers.refused f n fault);
    only = λ _ part. tt;
  });
}

abbrev told_status : Result Verdict ScriptRefusal → Status
told_status (Ok v) = Done
told_status (Err refusals.Memory) = Memory
told_status (Err (refusals.At f n)) = Script f n

status_told : (e : ScriptRefusal) → told_status (Err e) ≡ status_of_text e
status_told refusals.Memory = refl
status_told (refusals.At f n) = refl

refused_first : (e : ScriptRefusal) (f : ScriptFault) (n : ℕ) → ◌≡◌ {A = Result Verdict ScriptRefusal} (Err e) (Err (refusals.At f n)) ⊎ ◌≡◌ {A = Result Verdict ScriptRefusal} (Err e) (Err refusals.Memory)
    → IsOrMemory (status_of_text e) (Script f n)
refused_first e f n (inl is) = inl (subst (λ (s : Status). s ≡ Script f n) (status_told e) (ap told_status is))
refused_first e f n (inr is) = inr (subst (λ (s : Status). s ≡ Memory) (status_told e) (ap told_status is))

refused_only : (bytes : List ℕ) (e : ScriptRefusal) → CheckCause bytes (Err e) → HasScriptPart bytes → status_of_text e ≡ Memory
refused_only bytes refusals.Memory cause h = refl
refused_only bytes (refusals.At f n) cause h = absurd (refused_apart bytes f n h cause)

refused_cause : {S : Type 0} (m : SourceTells S) (old new : S) (bytes : List ℕ) (e : ScriptRefusal) → HasRead m old new bytes → CheckCause bytes (Err e) → JudgeCause m old new (Err (status_of_text e))
refused_cause m old new bytes refusals.Memory h cause = record { lost = lost_all _ _ bytes h.few h.all; kept = h.kept }
refused_cause m old new bytes (refusals.At f n) h cause =
    inr (omega (arith, cause.first.count), whole m old new bytes (λ b. IsRefusedAt b f n) h cause)

-- the script part was refused, or memory is wanting
pub IsJudging-refused : {S : Type 0} (m : SourceTells S) (old new : S) (bytes : List ℕ) (e : ScriptRefusal) → HasRead m old new bytes → CheckCause bytes (Err e) → CheckAnswers bytes (Err e)
    → IsJudging m old new (Err (status_of_text e))
IsJudging-refused m old new bytes e h cause answers = record {
  cause = refused_cause m old new bytes e h cause;
  answers = λ _. left_all _ _ bytes (λ b. JudgeAnswers b (Err (status_of_text e))) h.all (record {
    long = λ many. absurd (omega (arith, many, h.few));
    first = λ _ f n fault. refused_first e f n (answers.refused f n fault);
    only = λ _ part. refused_only bytes e cause part;
  });
}

-- ---- what is answered

judged_of : ((bytes : List ℕ) → IsJournalThatHolds bytes → HoldsOfJournal bytes) → (bytes : List ℕ) (verdict : Verdict) → CheckCause bytes (Ok verdict) → IsJudged bytes verdict
judged_of facts bytes Yes h = facts bytes h
judged_of facts bytes (No n) h = h

said : ((bytes : List ℕ) → IsJournalThatHolds bytes → HoldsOfJournal bytes) → (bytes text : List ℕ) (verdict : Verdict) → CheckCause bytes (Ok verdict) → text ≡ verdict_text verdict → IsVerdict bytes text
said facts bytes text verdict cause is = record { verdict = verdict; judged = judged_of facts bytes verdict cause; is = is }

call_cause : {S K : Type 0} (m : SourceTells S) (k : SinkTells K) (facts : (bytes : List ℕ) → IsJournalThatHolds bytes → HoldsOfJournal bytes) (old new : S) (sink sink' : K) (verdict : Verdict) (status : Status)
    → ReadsWhole m old new (λ bytes. CheckCause bytes (Ok verdict)) → SomeTextCause k sink sink' (λ text. text ≡ verdict_text verdict) status
    → TextCallCause m k IsRefusedAt IsVerdict old new sink sink' status
call_cause m k facts old new sink sink' verdict Done h call = along m old new _ _ (λ bytes cause. (call.0, said facts bytes call.0 verdict cause call.1, call.2)) h
call_cause m k facts old new sink sink' verdict Usage h call = call.2
call_cause m k facts old new sink sink' verdict (Script f n) h call = absurd call.2
call_cause m k facts old new sink sink' verdict ReadFault h call = absurd call.2
call_cause m k facts old new sink sink' verdict WriteFault h call = along m old new _ _ (λ bytes cause. (call.0, said facts bytes call.0 verdict cause call.1, call.2)) h
call_cause m k facts old new sink sink' verdict (Trace f n) h call = call.2
call_cause m k facts old new sink sink' verdict Memory h call = record { unwritten = call; read = record { lost = lost_all _ _ h.bytes h.few h.all; kept = h.kept } }

verdict_answers : {K : Type 0} (k : SinkTells K) (verdict : Verdict) (sink sink' : K) (status : Status) → SomeTextCause k sink sink' (λ text. text ≡ verdict_text verdict) status
    → (bytes : List ℕ) → JudgeAnswers bytes (Ok verdict) → TextAnswers HasScriptPart IsRefusedAt bytes status
verdict_answers k verdict sink sink' status call bytes h = record {
  long = λ many. absurd (h.long many);
  first = λ few f n fault. absurd (h.first few f n fault);
  accepted = λ few part. some_text_answer k sink sink' (λ text. text ≡ verdict_text verdict) status call;
}

refused_answers : (status : Status) (bytes : List ℕ) → JudgeAnswers bytes (Err status) → TextAnswers HasScriptPart IsRefusedAt bytes status
refused_answers status bytes h = record {
  long = h.long;
  first = h.first;
  accepted = λ few part. inr (inr (h.only few part));
}

-- a journal was judged
pub IsCheckCall-verdict : {S K : Type 0} (m : SourceTells S) (k : SinkTells K) → ((bytes : List ℕ) → IsJournalThatHolds bytes → HoldsOfJournal bytes) → (old new : S) (sink sink' : K) (verdict : Verdict) (status : Status)
    → IsJudging m old new (Ok verdict) → SomeTextCause k sink sink' (λ text. text ≡ verdict_text verdict) status → IsCheckCall m k old new sink sink' status
IsCheckCall-verdict m k facts old new sink sink' verdict status judging call =
    IsTextCall-from m k HasScriptPart IsRefusedAt IsVerdict old new sink sink' status (call_cause m k facts old new sink sink' verdict status judging.cause call)
    (λ none. answers_along (m.left old) _ _ (verdict_answers k verdict sink sink' status call) (judging.answers none))

unread_cause : {S K : Type 0} (m : SourceTells S) (k : SinkTells K) (old new : S) (sink : K) (status : Status) → JudgeCause m old new (Err status)
    → TextCallCause m k IsRefusedAt IsVerdict old new sink sink status
unread_cause m k old new sink Done h = absurd h
unread_cause m k old new sink Usage h = h
unread_cause m k old new sink (Script f n) h = (h, refl)
unread_cause m k old new sink ReadFault h = (h, refl)
unread_cause m k old new sink WriteFault h = absurd h
unread_cause m k old new sink Memory h = record { unwritten = refl; read = h }
unread_cause m k old new sink (Trace f n) h = h

-- nothing was judged
pub IsCheckCall-refused : {S K : Type 0} (m : SourceTells S) (k : SinkTells K) (old new : S) (sink : K) (status : Status)
    → IsJudging m old new (Err status) → IsCheckCall m k old new sink sink status
IsCheckCall-refused m k old new sink status judging =
    IsTextCall-from m k HasScriptPart IsRefusedAt IsVerdict old new sink sink status (unread_cause m k old new sink status judging.cause)
    (λ none. answers_along (m.left old) _ _ (refused_answers status) (judging.answers none))
