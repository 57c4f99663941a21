-- What is answered to bytes that may be a journal.
use Rattle.std.specs.Prelude.{◌≡◌, ◌≢◌, ℕ, ◌+◌, ◌⊎◌, List, [], ◌∷◌, ◌++◌, length, flat_map, codes}
use Rattle.std.specs.List.{AllByRecursion}
use Rattle.nm_text.specs.Cuts.{Lacks}
use Rattle.nm_text.specs.Fields.{lines_of}
use Rattle.nm_script.specs.Plain.{Script}
use Rattle.nm_script.specs.Items.{line}
use Rattle.nm_script.specs.Grammar.{IsScriptText}
use Rattle.nm_script.specs.Faults.{IsFirstFault}
use Rattle.nm_script.specs.declared.fault.ScriptFault.{ScriptFault}
use Rattle.nm_journal_text.specs.Journals.{EndsLine, IsBody}

-- ---- the script part

-- what follows the script part begins with the line events, which begins a line of the bytes; or nothing follows
abbrev pub IsCutAtEvents : List ℕ → List ℕ → Type 0
IsCutAtEvents part body = (body ≡ []) ⊎ (((part ≡ []) ⊎ EndsLine part) × ((more : List (List ℕ)) × (lines_of body ≡ codes "events" ∷ more)))

-- the script part is all lines before the first line events
pub record IsScriptPart (bytes part body : List ℕ) : Type 0 where
  pub is : bytes ≡ part ++ body
  pub before : AllByRecursion (λ l. l ≢ codes "events") (lines_of part)
  pub cut : IsCutAtEvents part body

-- ---- the first line that is wrong

-- lines, each with its newline
abbrev pub joined : List (List ℕ) → List ℕ
joined lines = flat_map line lines

-- some journal of the script that holds begins with these lines behind its script part
pub record IsBegun (script : Script) (lines : List (List ℕ)) : Type 0 where
  pub more : List ℕ
  pub holds : IsBody script (joined lines ++ more)

-- Of a text behind a script part n lines, each with its newline, are the beginning of a journal of the script that holds, and the next
-- line is not: it goes on in no such journal, or it lacks its newline, or there is none and the lines are no such journal.
pub record IsFirstWrong (script : Script) (body : List ℕ) (n : ℕ) : Type 0 where
  pub front : List (List ℕ)
  pub rest : List ℕ
  pub is : body ≡ joined front ++ rest
  pub lines : AllByRecursion (Lacks 10) front
  pub count : n ≡ length front
  pub begun : IsBegun script front
  pub wrong : (l more : List ℕ) → Lacks 10 l → rest ≡ l ++ 10 ∷ more → ¬ IsBegun script (front ++ l ∷ [])
  pub short : rest ≡ [] → ¬ IsBody script body

-- the journal does not hold, and line n is the first up to which its lines are no beginning of one of that script that holds
pub record IsWrongAt (bytes : List ℕ) (n : ℕ) : Type 0 where
  pub part : List ℕ
  pub body : List ℕ
  pub script : Script
  pub cut : IsScriptPart bytes part body
  pub says : IsScriptText part script
  pub right : ℕ
  pub first : IsFirstWrong script body right
  pub number : n ≡ length (lines_of part) + right + 1

-- the script part has this first fault
pub record IsRefusedAt (bytes : List ℕ) (fault : ScriptFault) (n : ℕ) : Type 0 where
  pub part : List ℕ
  pub body : List ℕ
  pub cut : IsScriptPart bytes part body
  pub first : IsFirstFault part fault n
