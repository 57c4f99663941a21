-- What a write and the writes of a whole list do to the bytes that a sink holds.
use Rattle.std.specs.Prelude.{◌≡◌, ℕ, ◌<◌, List, [], length, take, drop, Option, Result, Ok, Err, MatchResult}
use Rattle.std.specs.List.{FoldsTo}
use Rattle.std.specs.Io.KnownBytes.{Appends, Keeps}
use Rattle.nm_io.specs.declared.faults.Failed.{Failed}
use Rattle.nm_io.specs.declared.faults.WriteFault.{WriteFault}

-- an `Ok(n)` appends the first n bytes, and a failed write appends nothing
abbrev pub Writes : {E : Type 0} → Option (List ℕ) → Option (List ℕ) → Result ℕ E → List ℕ → Type 0
Writes old new result from = MatchResult result (λ n. Appends old new (take n from)) (λ _. Keeps old new)

-- the sink holds what it held, and then a front of the bytes that is not all of them
abbrev pub HoldsFront : Option (List ℕ) → Option (List ℕ) → List ℕ → Type 0
HoldsFront old new bytes = (n : ℕ) × (n < length bytes) × Appends old new (take n bytes)

-- ---- the writes that were made, where `takes` says what one write answers and leaves

-- a sink, and the bytes that are still to be written to it
pub record Unwritten (K : Type 0) : Type 0 where
  pub sink : K
  pub rest : List ℕ

-- one write of all that is left, which isn't nothing, took n bytes of it
abbrev pub WritesRest : {K : Type 0} → (K → List ℕ → Result ℕ Failed → K → Type 0) → Unwritten K → ℕ → Unwritten K → Type 0
WritesRest takes old n new = (0 < length old.rest) × takes old.sink old.rest (Ok n) new.sink × (new.rest ≡ drop n old.rest)

-- All the writes that were made, each of all that was left. None is left on `Ok`; on `Err` one more
-- write, the last that was made, failed.
pub record WritesInTurn {K : Type 0} (takes : K → List ℕ → Result ℕ Failed → K → Type 0) (old new : K) (bytes : List ℕ) (result : Result (Unit {0}) WriteFault) : Type 0 where
  pub counts : List ℕ
  pub last : Unwritten K
  pub writes : FoldsTo (WritesRest takes) (record { sink = old; rest = bytes }) counts last
  pub ended : MatchResult result (λ _. (last.rest ≡ []) × (new ≡ last.sink))
      (λ _. (0 < length last.rest) × takes last.sink last.rest (Err (record {})) new)
