-- Why a call answers what it answers.
use Rattle.std.proofs.Common.{◌≡◌, ℕ, ◌≤◌, ◌⊎◌, inl, inr, List, length, Option, Some, None, IfSome, Result, Ok, Err, refl, sym, ap, subst, ◌∙◌, arith, append-nil}
use Rattle.std.specs.Io.KnownBytes.{Consumes}
use Rattle.nm_io.specs.Count.{Rose}
use Rattle.nm_io.specs.Source.{GivesAll, ReadsToEnd}
use Rattle.nm_io.specs.Whole.{SourceTells, SinkTells, ReadsWhole, LosesSome}
use Rattle.nm_io.specs.declared.sources.TheConstants.{MOST_BYTES}
use Rattle.nm_script.specs.declared.fault.ScriptFault.{ScriptFault}
use Rattle.nm_script.specs.declared.fault.ScriptRefusal.{ScriptRefusal}
use Rattle.nm_script.specs.declared.fault.ScriptRefusal.TheVariants as refusals
use Rattle.nm_script.specs.Plain as plain
use Rattle.nm_script.specs.Faults.{GivesReading, GivesFault}
use Rattle.nm_script.specs.Grammar.{IsScriptText}
use Rattle.nm_script.specs.Faults as script_faults
use Rattle.nm_script.specs.Faults.{IsFirstFault}
use Rattle.nm_answer.specs.Answer.{IsAccepted, IsOrMemory, IsReading, IsRefusedBy, IsScriptCommand, IsTextCall, IsToldOf, IsUnreadCall, IsWritten, ReadAnswers, ReadCause, SomeTextCause, TextAnswers, TextCallCause, TextCause}
use Rattle.nm_answer.specs.Status.{status_of_text}
use Rattle.nm_answer.specs.declared.status.Status.{Status}
use Rattle.nm_answer.specs.declared.status.Status.TheVariants.{Done, Usage, Script, ReadFault, WriteFault, Memory, Trace}

-- ---- what parsing says

-- what a reading gave, as a number that tells the two apart
abbrev tag : Result plain.Script (ScriptFault × ℕ) → ℕ
tag (Ok x) = 0
tag (Err e) = 1

ok-err : (r : Result plain.Script (ScriptFault × ℕ)) (x : plain.Script) (e : ScriptFault × ℕ) → r ≡ Ok x → r ≡ Err e → ⊥
ok-err r x e h k =
    let zero : tag r ≡ 0 = ap tag h in
    let one : tag r ≡ 1 = ap tag k in absurd (omega (arith, zero, one))

abbrev script_in : plain.Script → Result plain.Script (ScriptFault × ℕ) → plain.Script
script_in s (Ok t) = t
script_in s (Err p) = s

same_script : (s t : plain.Script) → GivesReading (Ok s) (Ok t) → t ≡ s
same_script s t e = ap (script_in s) e

abbrev read_status : Result plain.Script (ScriptFault × ℕ) → Status
read_status (Ok s) = Memory
read_status (Err p) = Script p.0 p.1

-- a text that was refused, where it has this fault, and where it has none
refused_first : (e : ScriptRefusal) (f : ScriptFault) (n : ℕ) → GivesFault {A = plain.Script} e (Err (f, n)) → IsOrMemory (status_of_text e) (Script f n)
refused_first refusals.Memory f n h = inr refl
refused_first (refusals.At g k) f n h = inl (sym (ap read_status h))

refused_none : (e : ScriptRefusal) (s : plain.Script) → GivesFault e (Ok s) → status_of_text e ≡ Memory
refused_none refusals.Memory s h = refl
refused_none (refusals.At g k) s h = absurd (ok-err (Ok s) s (g, k) refl h)

-- ---- reading a script

-- all that was left was lost
pub lost_all : (old new : Option (List ℕ)) (bytes : List ℕ) → length bytes ≤ MOST_BYTES → GivesAll old new bytes → LosesSome old new
lost_all None new bytes few all = (bytes, tt, few)
lost_all (Some left) new bytes few all = (bytes, subst (λ n. Consumes (Some left) n bytes) (sym all.1) (sym all.0 ∙ sym (append-nil bytes)), few)

-- all the bytes that the source gave
pub record HasRead {S : Type 0} (m : SourceTells S) (old new : S) (bytes : List ℕ) : Type 0 where
  pub few : length bytes ≤ MOST_BYTES
  pub reads : ReadsToEnd m.gives old bytes new
  pub all : GivesAll (m.left old) (m.left new) bytes
  pub kept : m.faults new ≡ m.faults old

pub whole : {S : Type 0} (m : SourceTells S) (old new : S) (bytes : List ℕ) (P : List ℕ → Type 0) → HasRead m old new bytes → P bytes → ReadsWhole m old new P
whole m old new bytes P h p = record { bytes = bytes; few = h.few; reads = h.reads; all = h.all; kept = h.kept; holds = p }

pub left_all : (old new : Option (List ℕ)) (bytes : List ℕ) (P : List ℕ → Type 0) → GivesAll old new bytes → P bytes → IfSome old P
left_all None new bytes P all h = tt
left_all (Some left) new bytes P all h = subst P all.0 h

-- the bytes are this script
pub IsReading-script : {S : Type 0} (m : SourceTells S) (old new : S) (bytes : List ℕ) (s : plain.Script) → HasRead m old new bytes → IsScriptText bytes s
    → ((t : plain.Script) → IsScriptText bytes t → GivesReading (Ok s) (Ok t)) → ((f : ScriptFault) (n : ℕ) → IsFirstFault bytes f n → GivesReading (Ok s) (Err (f, n)))
    → IsReading m old new (Ok s)
IsReading-script m old new bytes s h says only first = record {
  cause = whole m old new bytes (λ b. IsScriptText b s) h says;
  answers = λ _. left_all _ _ bytes (λ b. ReadAnswers b (Ok s)) h.all (record {
    long = λ many. absurd (omega (arith, many, h.few));
    first = λ _ f n fault. ok-err _ _ _ (first f n fault) refl;
    only = λ _ t is. sym (same_script s t (only t is));
  });
}

refused_cause : {S : Type 0} (m : SourceTells S) (old new : S) (bytes : List ℕ) (e : ScriptRefusal) → HasRead m old new bytes
    → script_faults.IsTextRefusal bytes e → ReadCause m old new (Err (status_of_text e))
refused_cause m old new bytes refusals.Memory h fault = record { lost = lost_all _ _ bytes h.few h.all; kept = h.kept }
refused_cause m old new bytes (refusals.At f n) h fault =
    inr (omega (arith, fault.count), whole m old new bytes (λ b. IsFirstFault b f n) h fault)

-- the bytes are no script, or memory is wanting
pub IsReading-refused : {S : Type 0} (m : SourceTells S) (old new : S) (bytes : List ℕ) (e : ScriptRefusal) → HasRead m old new bytes
    → script_faults.IsTextRefusal bytes e → ((t : plain.Script) → IsScriptText bytes t → GivesFault e (Ok t))
    → ((f : ScriptFault) (n : ℕ) → IsFirstFault bytes f n → GivesFault {A = plain.Script} e (Err (f, n))) → IsReading m old new (Err (status_of_text e))
IsReading-refused m old new bytes e h fault only first = record {
  cause = refused_cause m old new bytes e h fault;
  answers = λ _. left_all _ _ bytes (λ b. ReadAnswers b (Err (status_of_text e))) h.all (record {
    long = λ many. absurd (omega (arith, many, h.few));
    first = λ _ f n here. refused_first e f n (first f n here);
    only = λ _ t is. refused_none e t (only t is);
  });
}

-- ---- writing a text

-- a text was written, or a write failed
pub TextCause-written : {K : Type 0} (k : SinkTells K) (sink sink' : K) (text : List ℕ) (status : Status) → IsWritten k sink sink' text status
    → TextCause k sink sink' text status
TextCause-written k sink sink' text Done h = h
TextCause-written k sink sink' text Usage h = h
TextCause-written k sink sink' text (Script f l) h = h
TextCause-written k sink sink' text ReadFault h = h
TextCause-written k sink sink' text WriteFault h = h
TextCause-written k sink sink' text Memory h = absurd h
TextCause-written k sink sink' text (Trace f n) h = h

-- a text of a kind was written, or a write failed
pub SomeTextCause-written : {K : Type 0} (k : SinkTells K) (sink sink' : K) (Is : List ℕ → Type 0) (text : List ℕ) (status : Status) → Is text
    → IsWritten k sink sink' text status → SomeTextCause k sink sink' Is status
SomeTextCause-written k sink sink' Is text Done is h = (text, is, h)
SomeTextCause-written k sink sink' Is text Usage is h = absurd h
SomeTextCause-written k sink sink' Is text (Script f n) is h = absurd h
SomeTextCause-written k sink sink' Is text ReadFault is h = absurd h
SomeTextCause-written k sink sink' Is text WriteFault is h = (text, is, h)
SomeTextCause-written k sink sink' Is text Memory is h = absurd h
SomeTextCause-written k sink sink' Is text (Trace f n) is h = absurd h

-- so where the text is known
pub SomeTextCause-of : {K : Type 0} (k : SinkTells K) (sink sink' : K) (Is : List ℕ → Type 0) (text : List ℕ) (status : Status) → Is text
    → TextCause k sink sink' text status → SomeTextCause k sink sink' Is status
SomeTextCause-of k sink sink' Is text Done is h = (text, is, h)
SomeTextCause-of k sink sink' Is text Usage is h = absurd h
SomeTextCause-of k sink sink' Is text (Script f n) is h = absurd h
SomeTextCause-of k sink sink' Is text ReadFault is h = absurd h
SomeTextCause-of k sink sink' Is text WriteFault is h = (text, is, h)
SomeTextCause-of k sink sink' Is text Memory is h = h
SomeTextCause-of k sink sink' Is text (Trace f n) is h = absurd h

pub some_text_answer : {K : Type 0} (k : SinkTells K) (sink sink' : K) (Is : List ℕ → Type 0) (status : Status) → SomeTextCause k sink sink' Is status
    → (status ≡ Done) ⊎ (status ≡ WriteFault) ⊎ (status ≡ Memory)
some_text_answer k sink sink' Is Done h = inl refl
some_text_answer k sink sink' Is Usage h = absurd h.2
some_text_answer k sink sink' Is (Script f n) h = absurd h.2
some_text_answer k sink sink' Is ReadFault h = absurd h.2
some_text_answer k sink sink' Is WriteFault h = inr (inl refl)
some_text_answer k sink sink' Is Memory h = inr (inr refl)
some_text_answer k sink sink' Is (Trace f n) h = absurd h.2

some_text_fault : {K : Type 0} (k : SinkTells K) (sink sink' : K) (Is : List ℕ → Type 0) → SomeTextCause k sink sink' Is WriteFault → Rose (k.faults sink) (k.faults sink')
some_text_fault k sink sink' Is h = h.2.rose

-- where no write fails it is done, unless memory is wanting
pub done_from : (status : Status) (Write : Type 0) → (status ≡ WriteFault → Write) → (Write → ⊥) → (status ≡ Done) ⊎ (status ≡ WriteFault) ⊎ (status ≡ Memory)
    → IsOrMemory status Done
done_from status Write fault write (inl h) = inl h
done_from status Write fault write (inr (inl h)) = absurd (write (fault h))
done_from status Write fault write (inr (inr h)) = inr h

-- a text of a kind was written, or a write failed, or memory is wanting, and nothing was read
pub IsUnreadCall-text : {K : Type 0} (k : SinkTells K) (sink sink' : K) (Is : List ℕ → Type 0) (status : Status) → SomeTextCause k sink sink' Is status
    → IsUnreadCall k sink sink' Is status
IsUnreadCall-text k sink sink' Is status cause = record {
  cause = cause;
  complete = λ none. done_from status (Rose (k.faults sink) (k.faults sink'))
      (λ is. some_text_fault k sink sink' Is (subst (SomeTextCause k sink sink' Is) is cause)) none
      (some_text_answer k sink sink' Is status cause);
}

-- ---- a command that reads a text and writes one

pub along : {S : Type 0} (m : SourceTells S) (old new : S) (P Q : List ℕ → Type 0) → ((bytes : List ℕ) → P bytes → Q bytes) → ReadsWhole m old new P → ReadsWhole m old new Q
along m old new P Q step h = record { bytes = h.bytes; few = h.few; reads = h.reads; all = h.all; kept = h.kept; holds = step h.bytes h.holds }

pub answers_along : (left : Option (List ℕ)) (P Q : List ℕ → Type 0) → ((bytes : List ℕ) → P bytes → Q bytes) → IfSome left P → IfSome left Q
answers_along None P Q step h = tt
answers_along (Some left) P Q step h = step left h

text_fault : {S K : Type 0} (m : SourceTells S) (k : SinkTells K) (Refuses : List ℕ → ScriptFault → ℕ → Type 0) (Writes : List ℕ → List ℕ → Type 0) (old new : S) (sink sink' : K)
    → TextCallCause m k Refuses Writes old new sink sink' WriteFault → Rose (k.faults sink) (k.faults sink')
text_fault m k Refuses Writes old new sink sink' h = h.holds.2.rose

complete_from : (left : Option (List ℕ)) (Accepts : List ℕ → Type 0) (Refuses : List ℕ → ScriptFault → ℕ → Type 0) (status : Status) (Read Write : Type 0)
    → ((Read → ⊥) → IfSome left (λ bytes. TextAnswers Accepts Refuses bytes status)) → (status ≡ WriteFault → Write)
    → IfSome left (λ bytes. Accepts bytes → length bytes ≤ MOST_BYTES → (Read → ⊥) → (Write → ⊥) → IsOrMemory status Done)
complete_from None Accepts Refuses status Read Write answers fault = tt
complete_from (Some bytes) Accepts Refuses status Read Write answers fault = λ accepted few read write. done_from status Write fault write ((answers read).accepted few accepted)

-- the cause and the answers say when it is done
pub IsTextCall-from : {S K : Type 0} (m : SourceTells S) (k : SinkTells K) (Accepts : List ℕ → Type 0) (Refuses : List ℕ → ScriptFault → ℕ → Type 0) (Writes : List ℕ → List ℕ → Type 0) (old new : S) (sink sink' : K) (status : Status)
    → TextCallCause m k Refuses Writes old new sink sink' status
    → ((Rose (m.faults old) (m.faults new) → ⊥) → IfSome (m.left old) (λ bytes. TextAnswers Accepts Refuses bytes status))
    → IsTextCall m k Accepts Refuses Writes old new sink sink' status
IsTextCall-from m k Accepts Refuses Writes old new sink sink' status cause answers = record {
  cause = cause;
  answers = answers;
  complete = complete_from (m.left old) Accepts Refuses status _ _ answers
      (λ is. text_fault m k Refuses Writes old new sink sink' (subst (TextCallCause m k Refuses Writes old new sink sink') is cause));
}

-- ---- a command that reads a script

told_of : (Of : plain.Script → List ℕ → Type 0) (bytes : List ℕ) (s : plain.Script) (text : List ℕ) → IsScriptText bytes s → Of s text → IsToldOf Of bytes text
told_of Of bytes s text says told = record { script = s; says = says; told = told }

-- the script that was read decides the cause
script_cause : {S K : Type 0} (m : SourceTells S) (k : SinkTells K) (Of : plain.Script → List ℕ → Type 0) (old new : S) (sink sink' : K) (s : plain.Script) (status : Status)
    → ReadsWhole m old new (λ bytes. IsScriptText bytes s) → SomeTextCause k sink sink' (Of s) status → TextCallCause m k IsFirstFault (IsToldOf Of) old new sink sink' status
script_cause m k Of old new sink sink' s Done h call = along m old new _ _ (λ bytes says. (call.0, told_of Of bytes s call.0 says call.1, call.2)) h
script_cause m k Of old new sink sink' s Usage h call = call.2
script_cause m k Of old new sink sink' s (Script f n) h call = absurd call.2
script_cause m k Of old new sink sink' s ReadFault h call = absurd call.2
script_cause m k Of old new sink sink' s WriteFault h call = along m old new _ _ (λ bytes says. (call.0, told_of Of bytes s call.0 says call.1, call.2)) h
script_cause m k Of old new sink sink' s (Trace f n) h call = call.2
script_cause m k Of old new sink sink' s Memory h call = record { unwritten = call; read = record { lost = lost_all _ _ h.bytes h.few h.all; kept = h.kept } }

script_answers : {K : Type 0} (k : SinkTells K) (Is : List ℕ → Type 0) (s : plain.Script) (sink sink' : K) (status : Status) → SomeTextCause k sink sink' Is status
    → (bytes : List ℕ) → ReadAnswers bytes (Ok s) → TextAnswers IsAccepted IsFirstFault bytes status
script_answers k Is s sink sink' status call bytes h = record {
  long = λ many. absurd (h.long many);
  first = λ few f n fault. absurd (h.first few f n fault);
  accepted = λ few u. some_text_answer k sink sink' Is status call;
}

refused_answers : (status : Status) (bytes : List ℕ) → ReadAnswers bytes (Err status) → TextAnswers IsAccepted IsFirstFault bytes status
refused_answers status bytes h = record {
  long = h.long;
  first = h.first;
  accepted = λ few u. inr (inr (h.only few u.0 u.1));
}

-- a script was read
pub IsScriptCommand-script : {S K : Type 0} (m : SourceTells S) (k : SinkTells K) (Of : plain.Script → List ℕ → Type 0) (old new : S) (sink sink' : K) (s : plain.Script) (status : Status)
    → IsReading m old new (Ok s) → SomeTextCause k sink sink' (Of s) status → IsScriptCommand m k Of old new sink sink' status
IsScriptCommand-script m k Of old new sink sink' s status read call =
    IsTextCall-from m k IsAccepted IsFirstFault (IsToldOf Of) old new sink sink' status (script_cause m k Of old new sink sink' s status read.cause call)
    (λ none. answers_along (m.left old) _ _ (script_answers k (Of s) s sink sink' status call) (read.answers none))

unread_cause : {S K : Type 0} (m : SourceTells S) (k : SinkTells K) (Writes : List ℕ → List ℕ → Type 0) (old new : S) (sink : K) (status : Status) → ReadCause m old new (Err status)
    → TextCallCause m k IsFirstFault Writes old new sink sink status
unread_cause m k Writes old new sink Done h = absurd h
unread_cause m k Writes old new sink Usage h = h
unread_cause m k Writes old new sink (Script f n) h = (h, refl)
unread_cause m k Writes old new sink ReadFault h = (h, refl)
unread_cause m k Writes old new sink WriteFault h = absurd h
unread_cause m k Writes old new sink Memory h = record { unwritten = refl; read = h }
unread_cause m k Writes old new sink (Trace f n) h = h

-- no script was read
pub IsScriptCommand-refused : {S K : Type 0} (m : SourceTells S) (k : SinkTells K) (Of : plain.Script → List ℕ → Type 0) (old new : S) (sink : K) (status : Status)
    → IsReading m old new (Err status) → IsScriptCommand m k Of old new sink sink status
IsScriptCommand-refused m k Of old new sink status read =
    IsTextCall-from m k IsAccepted IsFirstFault (IsToldOf Of) old new sink sink status (unread_cause m k (IsToldOf Of) old new sink status read.cause)
    (λ none. answers_along (m.left old) _ _ (refused_answers status) (read.answers none))
