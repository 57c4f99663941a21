-- Why the checker answers as it does.
use Rattle.std.proofs.Common.{◌≡◌, ℕ, ◌+◌, List, [], ◌∷◌, ◌++◌, take, drop, map, codes, sym, ap, ◌∙◌, inl, inr}
use Rattle.std.specs.Prelude.{Result, Ok, Err}
use Rattle.nm_script.specs.Plain.{Script}
use Rattle.nm_script.specs.Grammar.{IsScriptText}
use Rattle.nm_script.specs.Items.{item_text}
use Rattle.nm_script.specs.Faults.{IsTextRefusal}
use Rattle.nm_script.specs.declared.fault.ScriptRefusal.{ScriptRefusal}
use Rattle.nm_script.specs.declared.fault.ScriptRefusal.TheVariants as refusals
use Rattle.nm_text.specs.Fields.{lines_of}
use Rattle.nm_journal.specs.declared.check.Verdict.{Verdict}
use Rattle.nm_journal.specs.declared.check.Verdict.TheVariants.{Yes, No}
use Rattle.nm_journal_text.specs.Journals.{EndsLine, IsBody}
use Rattle.nm_journal_text.specs.Verdicts.{IsCutAtEvents}
use Rattle.nm_journal.specs.Answers.{CheckCause, BodyCause}
use Rattle.nm_journal.specs.Parting.{IsPartedAt}
use Rattle.nm_journal.proofs.Bodies.{begins}

-- the text of a script has a line
some_line : (part : List ℕ) (script : Script) → IsScriptText part script → part ≡ [] → ⊥
some_line part script h none =
    let e = ap lines_of (sym none) ∙ h.spelled ∙ ap (map (item_text script.geometry.cpus)) h.items_are.are in
    absurd cc

whole : (script : Script) (part body : List ℕ) → IsScriptText part script → IsBody script body → IsCutAtEvents part body → EndsLine part
whole script part body says holds cut = elim cut as (λ _. EndsLine part) [
  | inl none ↦ (let k = begins script body holds in let f : codes "events" ++ 10 ∷ k.0 ≡ [] = sym k.1 ∙ none in absurd cc)
  | inr more ↦ elim more.0 as (λ _. EndsLine part) [ inl none ↦ absurd (some_line part script says none) | inr e ↦ e ]
]

-- what is said of the text behind the script part is said of the bytes
pub caused : (bytes : List ℕ) (place lines : ℕ) (script : Script) (result : Result Verdict ScriptRefusal) → IsPartedAt bytes place lines → IsScriptText (take place bytes) script → BodyCause script (drop place bytes) lines result → CheckCause bytes result
caused bytes place lines script (Ok Yes) h says b = record { part = take place bytes; body = drop place bytes; script = script; is = h.part.is; whole = whole script (take place bytes) (drop place bytes) says b h.part.cut; says = says; holds = b }
caused bytes place lines script (Ok (No n)) h says b = record { part = take place bytes; body = drop place bytes; script = script; cut = h.part; says = says; right = b.0; first = b.1; number = b.2 ∙ ap (λ k. k + b.0 + 1) h.many }
caused bytes place lines script (Err (refusals.At fault n)) h says b = elim b [ ]
caused bytes place lines script (Err refusals.Memory) h says b = tt

-- the script part is refused
pub refused : (bytes : List ℕ) (place lines : ℕ) (e : ScriptRefusal) → IsPartedAt bytes place lines → IsTextRefusal (take place bytes) e → CheckCause bytes (Err e)
refused bytes place lines refusals.Memory h f = tt
refused bytes place lines (refusals.At fault n) h f = record { part = take place bytes; body = drop place bytes; cut = h.part; first = f }
