-- Why `import` answers what it answers.
use Rattle.std.proofs.Common.{◌≡◌, ℕ, ◌≤◌, ◌⊎◌, inl, inr, List, length, Option, Some, None, IfSome, Result, Ok, Err, refl, sym, ap, subst, arith}
use Rattle.nm_io.specs.Count.{Rose}
use Rattle.nm_io.specs.Whole.{SourceTells, SinkTells, ReadsWhole}
use Rattle.nm_io.specs.declared.sources.TheConstants.{MOST_BYTES}
use Rattle.nm_script.specs.Plain as plain
use Rattle.nm_script.specs.Script.{IsScript, script_text}
use Rattle.nm_script.specs.Faults.{HasOneText}
use Rattle.nm_trace.specs.declared.fault.TraceFault.{TraceFault}
use Rattle.nm_trace.specs.declared.fault.TraceRefusal.{TraceRefusal}
use Rattle.nm_trace.specs.declared.fault.TraceRefusal.TheVariants as refusals
use Rattle.nm_trace.specs.declared.reference.Reference.{Reference}
use Rattle.nm_trace.specs.Traces.{HasTrace, trace_text}
use Rattle.nm_trace.specs.Imports.{IsImport, IsFirstTraceFault, IsTraceRefusal}
use Rattle.nm_trace.specs.Laws.{HasOwnNumbers, IsReadAgain}
use Rattle.nm_trace.specs.Replies.{GivesImport}
use Rattle.nm_answer.specs.Answer.{IsOrMemory, TextCause}
use Rattle.nm_top.specs.Answer.{ImportAnswers, ImportCause, IsImportCall, IsImported, IsStatusOfWritten, IsTraceReading, TraceAnswers, TraceCause}
use Rattle.nm_answer.specs.Status.{status_of_trace}
use Rattle.nm_answer.specs.declared.status.Status.{Status}
use Rattle.nm_answer.specs.declared.status.Status.TheVariants.{Done, Usage, Script, ReadFault, WriteFault, Memory, Trace}
use Rattle.nm_answer.proofs.Causes.{HasRead, along, answers_along, done_from, left_all, lost_all, whole}

-- ---- what importing says

-- what a text gave, as a number that tells the two apart
abbrev tag : Result plain.Script (TraceFault × ℕ) → ℕ
tag (Ok x) = 0
tag (Err e) = 1

ok_err : (x : plain.Script) (e : TraceFault × ℕ) → ◌≡◌ {A = Result plain.Script (TraceFault × ℕ)} (Ok x) (Err e) → ⊥
ok_err x e h =
    let bad : 0 ≡ 1 = ap tag h in absurd (omega (arith, bad))

abbrev script_in : plain.Script → Result plain.Script (TraceFault × ℕ) → plain.Script
script_in s (Ok t) = t
script_in s (Err p) = s

abbrev told_status : Result plain.Script (TraceFault × ℕ) → Status
told_status (Ok s) = Memory
told_status (Err p) = Trace p.0 p.1

-- a trace that was refused, where it has this fault, and where it has none
refused_first : (e : TraceRefusal) (f : TraceFault) (n : ℕ) → GivesImport (Err e) (Err (f, n)) → IsOrMemory (status_of_trace e) (Trace f n)
refused_first refusals.Memory f n h = inr refl
refused_first (refusals.At g k) f n h = inl (sym (ap told_status h))

refused_none : (e : TraceRefusal) (s : plain.Script) → GivesImport (Err e) (Ok s) → status_of_trace e ≡ Memory
refused_none refusals.Memory s h = refl
refused_none (refusals.At g k) s h = absurd (ok_err s (g, k) h)

-- ---- reading a trace

-- the bytes are the trace of this script
pub IsTraceReading-script : {S : Type 0} (m : SourceTells S) (fast slow : ℕ) (old new : S) (bytes : List ℕ) (s : plain.Script) → HasRead m old new bytes
    → IsImport bytes fast slow s → ((t : plain.Script) → IsImport bytes fast slow t → GivesImport (Ok s) (Ok t))
    → ((f : TraceFault) (n : ℕ) → IsFirstTraceFault bytes fast slow f n → GivesImport (Ok s) (Err (f, n))) → IsTraceReading m fast slow old new (Ok s)
IsTraceReading-script m fast slow old new bytes s h says only first = record {
  cause = whole m old new bytes (λ b. IsImport b fast slow s) h says;
  answers = λ _. left_all _ _ bytes (λ b. TraceAnswers b fast slow (Ok s)) h.all (record {
    long = λ many. absurd (omega (arith, many, h.few));
    first = λ _ f n fault. ok_err s (f, n) (sym (first f n fault));
    only = λ _ t is. sym (ap (script_in s) (only t is));
    written = λ _ t is has same. tt;
  });
}

refused_cause : {S : Type 0} (m : SourceTells S) (fast slow : ℕ) (old new : S) (bytes : List ℕ) (e : TraceRefusal) → HasRead m old new bytes
    → IsTraceRefusal bytes fast slow e → TraceCause m fast slow old new (Err (status_of_trace e))
refused_cause m fast slow old new bytes refusals.Memory h fault = record { lost = lost_all _ _ bytes h.few h.all; kept = h.kept }
refused_cause m fast slow old new bytes (refusals.At f n) h fault = whole m old new bytes (λ b. IsFirstTraceFault b fast slow f n) h fault

-- a trace that was written of a script is refused for a fault of the whole alone
refused_written : (bytes : List ℕ) (fast slow : ℕ) (e : TraceRefusal) (s : plain.Script) → IsTraceRefusal bytes fast slow e → IsReadAgain s → bytes ≡ trace_text s
    → IsStatusOfWritten (status_of_trace e)
refused_written bytes fast slow refusals.Memory s fault again same = inr (inr refl)
refused_written bytes fast slow (refusals.At f n) s fault again same = again.faults fast slow f n (subst (λ b. IsFirstTraceFault b fast slow f n) same fault)

-- the bytes are no trace, or memory is wanting
pub IsTraceReading-refused : {S : Type 0} (m : SourceTells S) (fast slow : ℕ) (old new : S) (bytes : List ℕ) (e : TraceRefusal) → HasRead m old new bytes
    → IsTraceRefusal bytes fast slow e → ((t : plain.Script) → IsImport bytes fast slow t → GivesImport (Err e) (Ok t))
    → ((f : TraceFault) (n : ℕ) → IsFirstTraceFault bytes fast slow f n → GivesImport (Err e) (Err (f, n)))
    → ((t : plain.Script) → IsScript t → HasTrace t → IsReadAgain t) → IsTraceReading m fast slow old new (Err (status_of_trace e))
IsTraceReading-refused m fast slow old new bytes e h fault only first again = record {
  cause = refused_cause m fast slow old new bytes e h fault;
  answers = λ _. left_all _ _ bytes (λ b. TraceAnswers b fast slow (Err (status_of_trace e))) h.all (record {
    long = λ many. absurd (omega (arith, many, h.few));
    first = λ _ f n here. refused_first e f n (first f n here);
    only = λ _ t is. refused_none e t (only t is);
    written = λ _ t is has same. refused_written bytes fast slow e t fault (again t is has) same;
  });
}

-- ---- import

-- the text of the script of a trace
imported : (bytes : List ℕ) (fast slow : ℕ) (s : plain.Script) → ((refs : List Reference) → HasOwnNumbers refs) → HasOneText s → IsImport bytes fast slow s
    → IsImported bytes fast slow (script_text s)
imported bytes fast slow s numbers one says = record { script = s; says = says; numbers = numbers says.refs; is = refl; read = one.again }

-- the script that was read decides the cause
trace_cause : {S K : Type 0} (m : SourceTells S) (k : SinkTells K) (fast slow : ℕ) (old new : S) (sink sink' : K) (s : plain.Script) (status : Status)
    → ((refs : List Reference) → HasOwnNumbers refs) → HasOneText s → ReadsWhole m old new (λ bytes. IsImport bytes fast slow s)
    → TextCause k sink sink' (script_text s) status → ImportCause m k fast slow old new sink sink' status
trace_cause m k fast slow old new sink sink' s Done numbers one h call =
    along m old new _ _ (λ bytes says. (script_text s, imported bytes fast slow s numbers one says, call)) h
trace_cause m k fast slow old new sink sink' s Usage numbers one h call = call
trace_cause m k fast slow old new sink sink' s (Script f n) numbers one h call = absurd call
trace_cause m k fast slow old new sink sink' s ReadFault numbers one h call = absurd call
trace_cause m k fast slow old new sink sink' s WriteFault numbers one h call =
    along m old new _ _ (λ bytes says. (script_text s, imported bytes fast slow s numbers one says, call)) h
trace_cause m k fast slow old new sink sink' s Memory numbers one h call =
    record { unwritten = call; read = record { lost = lost_all _ _ h.bytes h.few h.all; kept = h.kept } }
trace_cause m k fast slow old new sink sink' s (Trace f n) numbers one h call = absurd call

text_answer : {K : Type 0} (k : SinkTells K) (sink sink' : K) (text : List ℕ) (status : Status) → TextCause k sink sink' text status
    → (status ≡ Done) ⊎ (status ≡ WriteFault) ⊎ (status ≡ Memory)
text_answer k sink sink' text Done h = inl refl
text_answer k sink sink' text Usage h = absurd h
text_answer k sink sink' text (Script f n) h = absurd h
text_answer k sink sink' text ReadFault h = absurd h
text_answer k sink sink' text WriteFault h = inr (inl refl)
text_answer k sink sink' text Memory h = inr (inr refl)
text_answer k sink sink' text (Trace f n) h = absurd h

text_written : {K : Type 0} (k : SinkTells K) (sink sink' : K) (text : List ℕ) (status : Status) → TextCause k sink sink' text status → IsStatusOfWritten status
text_written k sink sink' text Done h = inl refl
text_written k sink sink' text Usage h = absurd h
text_written k sink sink' text (Script f n) h = absurd h
text_written k sink sink' text ReadFault h = absurd h
text_written k sink sink' text WriteFault h = inr (inl refl)
text_written k sink sink' text Memory h = inr (inr refl)
text_written k sink sink' text (Trace f n) h = absurd h

script_answers : {K : Type 0} (k : SinkTells K) (fast slow : ℕ) (s : plain.Script) (sink sink' : K) (status : Status) → TextCause k sink sink' (script_text s) status
    → (bytes : List ℕ) → TraceAnswers bytes fast slow (Ok s) → ImportAnswers bytes fast slow status
script_answers k fast slow s sink sink' status call bytes h = record {
  long = λ many. absurd (h.long many);
  first = λ few f n fault. absurd (h.first few f n fault);
  accepted = λ few t is. text_answer k sink sink' (script_text s) status call;
  written = λ few t is has same. text_written k sink sink' (script_text s) status call;
}

refused_answers : (fast slow : ℕ) (status : Status) (bytes : List ℕ) → TraceAnswers bytes fast slow (Err status) → ImportAnswers bytes fast slow status
refused_answers fast slow status bytes h = record {
  long = h.long;
  first = h.first;
  accepted = λ few t is. inr (inr (h.only few t is));
  written = h.written;
}

import_fault : {S K : Type 0} (m : SourceTells S) (k : SinkTells K) (fast slow : ℕ) (old new : S) (sink sink' : K)
    → ImportCause m k fast slow old new sink sink' WriteFault → Rose (k.faults sink) (k.faults sink')
import_fault m k fast slow old new sink sink' h = h.holds.2.rose

-- a trace, without faults, is done
complete_from : (left : Option (List ℕ)) (fast slow : ℕ) (status : Status) (Read Write : Type 0) → ((Read → ⊥) → IfSome left (λ bytes. ImportAnswers bytes fast slow status))
    → (status ≡ WriteFault → Write)
    → IfSome left (λ bytes. (s : plain.Script) → IsImport bytes fast slow s → length bytes ≤ MOST_BYTES → (Read → ⊥) → (Write → ⊥) → IsOrMemory status Done)
complete_from None fast slow status Read Write answers fault = tt
complete_from (Some bytes) fast slow status Read Write answers fault = λ s is few read write. done_from status Write fault write ((answers read).accepted few s is)

-- the cause and the answers of `import` say when it is done
pub IsImportCall-from : {S K : Type 0} (m : SourceTells S) (k : SinkTells K) (fast slow : ℕ) (old new : S) (sink sink' : K) (status : Status)
    → ImportCause m k fast slow old new sink sink' status
    → ((Rose (m.faults old) (m.faults new) → ⊥) → IfSome (m.left old) (λ bytes. ImportAnswers bytes fast slow status))
    → IsImportCall m k fast slow old new sink sink' status
IsImportCall-from m k fast slow old new sink sink' status cause answers = record {
  cause = cause;
  answers = answers;
  complete = complete_from (m.left old) fast slow status _ _ answers
      (λ is. import_fault m k fast slow old new sink sink' (subst (ImportCause m k fast slow old new sink sink') is cause));
}

-- a trace was read
pub IsImportCall-script : {S K : Type 0} (m : SourceTells S) (k : SinkTells K) (fast slow : ℕ) (old new : S) (sink sink' : K) (s : plain.Script) (status : Status)
    → ((refs : List Reference) → HasOwnNumbers refs) → HasOneText s → IsTraceReading m fast slow old new (Ok s) → TextCause k sink sink' (script_text s) status
    → IsImportCall m k fast slow old new sink sink' status
IsImportCall-script m k fast slow old new sink sink' s status numbers one read call =
    IsImportCall-from m k fast slow old new sink sink' status (trace_cause m k fast slow old new sink sink' s status numbers one read.cause call)
    (λ none. answers_along (m.left old) _ _ (script_answers k fast slow s sink sink' status call) (read.answers none))

unread_import : {S K : Type 0} (m : SourceTells S) (k : SinkTells K) (fast slow : ℕ) (old new : S) (sink : K) (status : Status)
    → TraceCause m fast slow old new (Err status) → ImportCause m k fast slow old new sink sink status
unread_import m k fast slow old new sink Done h = absurd h
unread_import m k fast slow old new sink Usage h = h
unread_import m k fast slow old new sink (Script f n) h = (h, refl)
unread_import m k fast slow old new sink ReadFault h = (h, refl)
unread_import m k fast slow old new sink WriteFault h = absurd h
unread_import m k fast slow old new sink Memory h = record { unwritten = refl; read = h }
unread_import m k fast slow old new sink (Trace f n) h = (h, refl)

-- no trace was read
pub IsImportCall-refused : {S K : Type 0} (m : SourceTells S) (k : SinkTells K) (fast slow : ℕ) (old new : S) (sink : K) (status : Status)
    → IsTraceReading m fast slow old new (Err status) → IsImportCall m k fast slow old new sink sink status
IsImportCall-refused m k fast slow old new sink status read =
    IsImportCall-from m k fast slow old new sink sink status (unread_import m k fast slow old new sink status read.cause)
    (λ none. answers_along (m.left old) _ _ (refused_answers fast slow status) (read.answers none))
