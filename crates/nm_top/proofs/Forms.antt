-- From the form that was read to the words, and what is answered where memory is wanting.
use Rattle.std.proofs.Common.{◌≡◌, ◌≢◌, ℕ, List, [], ◌↔◌, inl, inr, String, Option, Some, None, IfSome, refl, sym, ap, subst, ◌∙◌, arith}
use Rattle.std.specs.declared.alloc.Global.{Global}
use Rattle.std.proofs.lemmas.Option.{none-some}
use Rattle.nm_io.specs.Whole.{SourceTells, SinkTells, ReadsSome, LosesSome}
use Rattle.nm_script.specs.declared.fault.ScriptFault.{ScriptFault}
use Rattle.nm_script.specs.Plain as plain
use Rattle.nm_script.specs.Faults.{IsFirstFault}
use Rattle.nm_command.specs.declared.form.Form.{Form}
use Rattle.nm_command.specs.declared.form.Form.TheVariants.{Sim, Gen, Drill, Import, Run, Journal, Check, Lab}
use Rattle.nm_command.specs.Words.{IsFormOf, IsForm}
use Rattle.nm_answer.specs.Answer.{IsAccepted, IsScriptCommand, IsToldOf, IsUnreadCall, IsWanting, TextAnswers}
use Rattle.nm_answer.specs.declared.status.Status.{Status}
use Rattle.nm_answer.specs.declared.status.Status.TheVariants.{Usage, Memory}
use Rattle.nm_answer.proofs.Causes.{IsTextCall-from}
use Rattle.nm_check_call.specs.Checking.{HasScriptPart, IsVerdict}
use Rattle.nm_journal_text.specs.Verdicts.{IsRefusedAt}
use Rattle.nm_top.specs.Answer.{ImportAnswers, IsPlainForm, IsProgramForm, IsUnreadForm, IsUnserved}
use Rattle.nm_lab_run.specs.LabRuns.{IsLabOf}
use Rattle.nm_top.specs.Output.{IsJournalOf, IsReportOf, IsThreadReportOf}
use Rattle.nm_top.proofs.Imports.{IsImportCall-from}

-- ---- the form that was read is that of the words

abbrev pub Reads : Option Form → List (String Global) → Type 0
Reads o words = (form : Form) → (o ≡ Some form) ↔ IsFormOf form words

abbrev form_in : Form → Option Form → Form
form_in f None = f
form_in f (Some g) = g

-- no form was read, so the words have none
pub none_read : (o : Option Form) (words : List (String Global)) → o ≡ None → Reads o words → IsForm words → ⊥
none_read o words none read h = none-some _ (sym none ∙ (read h.0).1 h.1)

-- what is said of the form that was read is said of every form of the words
pub said_of_form : (o : Option Form) (words : List (String Global)) (f : Form) (P : Form → Type 0) → o ≡ Some f → Reads o words → P f → (form : Form) → IsFormOf form words → P form
said_of_form o words f P is read said form of = subst P (ap (form_in f) (sym is ∙ (read form).1 of)) said

-- ---- words of a form that is not run

pub program_plain : {S K : Type 0} (m : SourceTells S) (k : SinkTells K) (form : Form) (old new : S) (sink sink' : K) (status : Status) → form ≢ Run
    → IsPlainForm m k form old new sink sink' status → IsProgramForm m k form old new sink sink' status
program_plain m k Sim old new sink sink' status other h = h
program_plain m k (Gen n size) old new sink sink' status other h = h
program_plain m k (Drill n size) old new sink sink' status other h = h
program_plain m k (Import fast slow) old new sink sink' status other h = h
program_plain m k Run old new sink sink' status other h = absurd (other refl)
program_plain m k Journal old new sink sink' status other h = h
program_plain m k Check old new sink sink' status other h = h
program_plain m k (Lab retries) old new sink sink' status other h = h

-- ---- memory was wanting before anything was read

lost_none : (left : Option (List ℕ)) → LosesSome left left
lost_none None = ([], tt, omega (arith))
lost_none (Some left) = ([], refl, omega (arith))

pub unread_some : {S : Type 0} (m : SourceTells S) (old : S) → ReadsSome m old old
unread_some m old = record { lost = lost_none (m.left old); kept = refl }

memory_answers : (left : Option (List ℕ)) (Accepts : List ℕ → Type 0) (Refuses : List ℕ → ScriptFault → ℕ → Type 0) → IfSome left (λ bytes. TextAnswers Accepts Refuses bytes Memory)
memory_answers None Accepts Refuses = tt
memory_answers (Some left) Accepts Refuses = record { long = λ _. inr refl; first = λ _ f n h. inr refl; accepted = λ _ h. inr (inr refl) }

memory_import : (left : Option (List ℕ)) (fast slow : ℕ) → IfSome left (λ bytes. ImportAnswers bytes fast slow Memory)
memory_import None fast slow = tt
memory_import (Some left) fast slow = record { long = λ _. inr refl; first = λ _ f n h. inr refl; accepted = λ _ s h. inr (inr refl); written = λ _ s is has same. inr (inr refl) }

memory_script : {S K : Type 0} (m : SourceTells S) (k : SinkTells K) (Of : plain.Script → List ℕ → Type 0) (old : S) (sink : K) → IsScriptCommand m k Of old old sink sink Memory
memory_script m k Of old sink =
    IsTextCall-from m k IsAccepted IsFirstFault (IsToldOf Of) old old sink sink Memory (record { unwritten = refl; read = unread_some m old }) (λ none. memory_answers (m.left old) IsAccepted IsFirstFault)

memory_unread : {S K : Type 0} (k : SinkTells K) (Is : List ℕ → Type 0) (old : S) (sink : K) → IsUnreadForm old old (IsUnreadCall k sink sink Is Memory)
memory_unread k Is old sink = record { answered = record { cause = refl; complete = λ none. inr refl }; unread = refl }

pub memory_unserved : {S K : Type 0} (old : S) (sink : K) → IsUnserved old old sink sink Memory
memory_unserved old sink = record { usage = record { unwritten = refl; answer = inr refl }; unread = refl }

pub usage_unserved : {S K : Type 0} (old : S) (sink : K) → IsUnserved old old sink sink Usage
usage_unserved old sink = record { usage = record { unwritten = refl; answer = inl refl }; unread = refl }

pub memory_plain : {S K : Type 0} (m : SourceTells S) (k : SinkTells K) (old : S) (sink : K) (form : Form) → IsPlainForm m k form old old sink sink Memory
memory_plain m k old sink Sim = memory_script m k IsReportOf old sink
memory_plain m k old sink (Gen n size) = memory_unread k _ old sink
memory_plain m k old sink (Drill n size) = memory_unread k _ old sink
memory_plain m k old sink (Import fast slow) = IsImportCall-from m k fast slow old old sink sink Memory (record { unwritten = refl; read = unread_some m old }) (λ none. memory_import (m.left old) fast slow)
memory_plain m k old sink Run = memory_unserved old sink
memory_plain m k old sink Journal = memory_script m k IsJournalOf old sink
memory_plain m k old sink Check =
    IsTextCall-from m k HasScriptPart IsRefusedAt IsVerdict old old sink sink Memory (record { unwritten = refl; read = unread_some m old }) (λ none. memory_answers (m.left old) HasScriptPart IsRefusedAt)
memory_plain m k old sink (Lab retries) = memory_script m k (IsLabOf retries) old sink

pub memory_program : {S K : Type 0} (m : SourceTells S) (k : SinkTells K) (old : S) (sink : K) (form : Form) → IsProgramForm m k form old old sink sink Memory
memory_program m k old sink Sim = memory_plain m k old sink Sim
memory_program m k old sink (Gen n size) = memory_plain m k old sink (Gen n size)
memory_program m k old sink (Drill n size) = memory_plain m k old sink (Drill n size)
memory_program m k old sink (Import fast slow) = memory_plain m k old sink (Import fast slow)
memory_program m k old sink Run = memory_script m k IsThreadReportOf old sink
memory_program m k old sink Journal = memory_plain m k old sink Journal
memory_program m k old sink Check = memory_plain m k old sink Check
memory_program m k old sink (Lab retries) = memory_plain m k old sink (Lab retries)

-- ---- the answer is Memory: nothing was written, and no read failed

unread_wanting : {S K : Type 0} (m : SourceTells S) (old new : S) (sink sink' : K) → new ≡ old → sink' ≡ sink → IsWanting m old new sink sink'
unread_wanting {S} m old new sink sink' unread unwritten = record { unwritten = unwritten; read = subst (λ (s : S). ReadsSome m old s) (sym unread) (unread_some m old) }

pub wanting_plain : {S K : Type 0} (m : SourceTells S) (k : SinkTells K) (form : Form) (old new : S) (sink sink' : K) → IsPlainForm m k form old new sink sink' Memory → IsWanting m old new sink sink'
wanting_plain m k Sim old new sink sink' h = h.cause
wanting_plain m k (Gen n size) old new sink sink' h = unread_wanting m old new sink sink' h.unread h.answered.cause
wanting_plain m k (Drill n size) old new sink sink' h = unread_wanting m old new sink sink' h.unread h.answered.cause
wanting_plain m k (Import fast slow) old new sink sink' h = h.cause
wanting_plain m k Run old new sink sink' h = unread_wanting m old new sink sink' h.unread h.usage.unwritten
wanting_plain m k Journal old new sink sink' h = h.cause
wanting_plain m k Check old new sink sink' h = h.cause
wanting_plain m k (Lab retries) old new sink sink' h = h.cause

pub wanting_program : {S K : Type 0} (m : SourceTells S) (k : SinkTells K) (form : Form) (old new : S) (sink sink' : K) → IsProgramForm m k form old new sink sink' Memory → IsWanting m old new sink sink'
wanting_program m k Sim old new sink sink' h = wanting_plain m k Sim old new sink sink' h
wanting_program m k (Gen n size) old new sink sink' h = wanting_plain m k (Gen n size) old new sink sink' h
wanting_program m k (Drill n size) old new sink sink' h = wanting_plain m k (Drill n size) old new sink sink' h
wanting_program m k (Import fast slow) old new sink sink' h = wanting_plain m k (Import fast slow) old new sink sink' h
wanting_program m k Run old new sink sink' h = h.cause
wanting_program m k Journal old new sink sink' h = wanting_plain m k Journal old new sink sink' h
wanting_program m k Check old new sink sink' h = wanting_plain m k Check old new sink sink' h
wanting_program m k (Lab retries) old new sink sink' h = wanting_plain m k (Lab retries) old new sink sink' h
