-- What is answered to bytes is one: they are a journal that holds, or have one first line that is wrong, or one first fault of the
-- script part, and never two of these.
use Rattle.std.proofs.Common.{◌≡◌, ℕ, ◌+◌, List, length, codes, refl, sym, ap, ◌∙◌, subst, inl, inr}
use Rattle.std.specs.Prelude.{Result, Ok, Err}
use Rattle.nm_script.specs.Plain.{Script}
use Rattle.nm_script.specs.Grammar.{IsScriptText}
use Rattle.nm_script.specs.Faults.{IsFirstFault}
use Rattle.nm_script.specs.declared.fault.ScriptFault.{ScriptFault}
use Rattle.nm_script.specs.declared.fault.ScriptRefusal.{ScriptRefusal}
use Rattle.nm_script.specs.declared.fault.ScriptRefusal.TheVariants as refusals
use Rattle.nm_script.proofs.OneReading.{one-reading}
use Rattle.nm_text.specs.Fields.{lines_of}
use Rattle.nm_text.proofs.LineLemmas.{lines-joined}
use Rattle.nm_journal_text.specs.Journals.{IsBody, IsJournalThatHolds}
use Rattle.nm_journal_text.specs.Verdicts.{IsScriptPart, IsFirstWrong, IsWrongAt, IsRefusedAt}
use Rattle.nm_journal_text.proofs.OneVerdict.{one_wrong, apart}
use Rattle.nm_journal.specs.declared.check.Verdict.{Verdict}
use Rattle.nm_journal.specs.declared.check.Verdict.TheVariants.{Yes, No}
use Rattle.nm_journal.specs.Answers.{CheckCause, CheckAnswers}
use Rattle.nm_journal.proofs.Bodies.{begins}
use Rattle.nm_journal.proofs.OnePart.{one_part}
use Rattle.nm_journal.proofs.Others.{script_others}

-- the script of a journal that holds stands in its script part
journal_part : (bytes : List ℕ) → (h : IsJournalThatHolds bytes) → IsScriptPart bytes h.part h.body
journal_part bytes h =
    let k = begins h.script h.body h.holds in
    record {
      is = h.is;
      before = script_others h.part h.script h.says;
      cut = inr (inr h.whole, (lines_of k.0, ap lines_of k.1 ∙ lines-joined (codes "events") k.0 refl));
    }

one_script : (bytes p q b c : List ℕ) (s t : Script) → IsScriptPart bytes p b → IsScriptPart bytes q c → IsScriptText p s → IsScriptText q t → s ≡ t
one_script bytes p q b c s t h k x y = (one-reading q).one_script s t (subst (λ (part : List ℕ). IsScriptText part s) (one_part bytes p q b c h k).0 x) y

-- a journal that holds has no first wrong line
holds_wrong : (bytes : List ℕ) (n : ℕ) → IsJournalThatHolds bytes → IsWrongAt bytes n → ⊥
holds_wrong bytes n h k =
    let cut = journal_part bytes h in
    let script : h.script ≡ k.script = one_script bytes h.part k.part h.body k.body h.script k.script cut k.cut h.says k.says in
    let body : h.body ≡ k.body = (one_part bytes h.part k.part h.body k.body cut k.cut).1 in
    apart k.script k.body k.right (subst (λ (s : Script). IsBody s k.body) script (subst (IsBody h.script) body h.holds)) k.first

-- nor a fault of its script part
holds_refused : (bytes : List ℕ) (fault : ScriptFault) (n : ℕ) → IsJournalThatHolds bytes → IsRefusedAt bytes fault n → ⊥
holds_refused bytes fault n h k =
    let cut = journal_part bytes h in
    (one-reading k.part).apart h.script fault n (subst (λ (part : List ℕ). IsScriptText part h.script) (one_part bytes h.part k.part h.body k.body cut k.cut).0 h.says) k.first

-- bytes with a first wrong line have no fault of their script part
wrong_refused : (bytes : List ℕ) (n : ℕ) (fault : ScriptFault) (m : ℕ) → IsWrongAt bytes n → IsRefusedAt bytes fault m → ⊥
wrong_refused bytes n fault m h k =
    (one-reading k.part).apart h.script fault m (subst (λ (part : List ℕ). IsScriptText part h.script) (one_part bytes h.part k.part h.body k.body h.cut k.cut).0 h.says) k.first

one_number : (bytes : List ℕ) (n m : ℕ) → IsWrongAt bytes n → IsWrongAt bytes m → n ≡ m
one_number bytes n m h k =
    let script : h.script ≡ k.script = one_script bytes h.part k.part h.body k.body h.script k.script h.cut k.cut h.says k.says in
    let same = one_part bytes h.part k.part h.body k.body h.cut k.cut in
    let right : h.right ≡ k.right = one_wrong k.script k.body h.right k.right (subst (λ (s : Script). IsFirstWrong s k.body h.right) script (subst (λ (b : List ℕ). IsFirstWrong h.script b h.right) same.1 h.first)) k.first in
    h.number ∙ ap (λ (p : List ℕ). length (lines_of p) + h.right + 1) same.0 ∙ ap (λ r. length (lines_of k.part) + r + 1) right ∙ sym k.number

one_fault : (bytes : List ℕ) (f g : ScriptFault) (n m : ℕ) → IsRefusedAt bytes f n → IsRefusedAt bytes g m → (f ≡ g) × (n ≡ m)
one_fault bytes f g n m h k =
    (one-reading k.part).one_fault f g n m (subst (λ (part : List ℕ). IsFirstFault part f n) (one_part bytes h.part k.part h.body k.body h.cut k.cut).0 h.first) k.first

abbrev Answer : Type 0
Answer = Result Verdict ScriptRefusal

same_number : (n m : ℕ) → n ≡ m → ◌≡◌ {A = Answer} (Ok (No n)) (Ok (No m))
same_number n m e = ap (λ k. Ok (No k)) e

same_fault : (f g : ScriptFault) (n m : ℕ) → (f ≡ g) × (n ≡ m) → ◌≡◌ {A = Answer} (Err (refusals.At f n)) (Err (refusals.At g m))
same_fault f g n m e = let x = e.0 in let y = e.1 in cc

-- an answer that has its cause is the one that there is
pub answered : (bytes : List ℕ) (result : Result Verdict ScriptRefusal) → CheckCause bytes result → CheckAnswers bytes result
answered bytes (Ok Yes) h = record {
  holds = λ k. inl refl;
  wrong = λ n k. absurd (holds_wrong bytes n h k);
  refused = λ f n k. absurd (holds_refused bytes f n h k);
}
answered bytes (Ok (No m)) h = record {
  holds = λ k. absurd (holds_wrong bytes m k h);
  wrong = λ n k. inl (same_number m n (one_number bytes m n h k));
  refused = λ f n k. absurd (wrong_refused bytes m f n h k);
}
answered bytes (Err (refusals.At g m)) h = record {
  holds = λ k. absurd (holds_refused bytes g m k h);
  wrong = λ n k. absurd (wrong_refused bytes n g m k h);
  refused = λ f n k. inl (same_fault g f m n (one_fault bytes g f m n h k));
}
answered bytes (Err refusals.Memory) h = record { holds = λ k. inr refl; wrong = λ n k. inr refl; refused = λ f n k. inr refl }
