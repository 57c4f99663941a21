-- Where the script part of a journal ends.
use Rattle.std.specs.Prelude.{◌≡◌, ◌≢◌, ℕ, ◌≤◌, List, ◌++◌, length, take, drop, codes}
use Rattle.std.specs.List.{AllByRecursion}
use Rattle.nm_text.specs.Cuts.{Lacks}
use Rattle.nm_text.specs.Fields.{lines_of}
use Rattle.nm_journal_text.specs.Verdicts.{IsScriptPart, joined}

-- so many bytes and so many lines are the script part
pub record IsPartedAt (bytes : List ℕ) (place lines : ℕ) : Type 0 where
  pub part : IsScriptPart bytes (take place bytes) (drop place bytes)
  pub many : lines ≡ length (lines_of (take place bytes))
  pub within : place ≤ length bytes
  pub few : lines ≤ place

-- so many lines, each with its newline and none of them the line events, stand before this rest
pub record IsPassedTo (bytes rest : List ℕ) (lines : ℕ) : Type 0 where
  pub front : List (List ℕ)
  pub is : bytes ≡ joined front ++ rest
  pub lacks : AllByRecursion (Lacks 10) front
  pub others : AllByRecursion (λ l. l ≢ codes "events") front
  pub count : lines ≡ length front
