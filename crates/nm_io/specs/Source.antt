-- What a read does to the bytes that a source has left, and what reading to the end does.
use Rattle.std.specs.Prelude.{◌≡◌, ℕ, ◌<◌, ◌+◌, ◌≤◌, List, [], length, take, Option, Some, Result, Ok, Err, Vec, IfSome, IfOk, IsErrOf, MatchResult, ◌↔◌}
use Rattle.std.specs.List.{FoldsTo, concat}
use Rattle.std.specs.declared.alloc.Global.{Global}
use Rattle.std.specs.Io.KnownBytes.{Consumes, Keeps}
use Rattle.nm_io.specs.declared.faults.Failed.{Failed}
use Rattle.nm_io.specs.declared.faults.ReadRefusal.{ReadRefusal}
use Rattle.nm_io.specs.declared.faults.ReadRefusal.TheVariants.{ReadFault, TooLong, Memory}
use Rattle.nm_io.specs.declared.sources.TheConstants.{MOST_BYTES}

-- the bytes of an `Ok` come off the front of what was left, and are none exactly at the end;
-- a failed read takes nothing
abbrev pub Reads : {E : Type 0} → Option (List ℕ) → Option (List ℕ) → Result ℕ E → List ℕ → Type 0
Reads old new result into =
    MatchResult result (λ n. Consumes old new (take n into) × IfSome old (λ left. 0 < length into → (n ≡ 0) ↔ (left ≡ [])))
    (λ _. Keeps old new)

-- the bytes are all that was left, and nothing is left now
abbrev pub GivesAll : Option (List ℕ) → Option (List ℕ) → List ℕ → Type 0
GivesAll old new bytes = IfSome old (λ left. (bytes ≡ left) × (new ≡ Some []))

-- What was left lost the bytes taken. On `Ok` these are given, and are all. They are more than
-- the limit exactly on `TooLong`, and never more than one byte more.
pub record ReadsAll (old new : Option (List ℕ)) (result : Result (Vec ℕ Global) ReadRefusal) : Type 0 where
  pub taken : List ℕ
  pub lost : Consumes old new taken
  pub given : IfOk result (λ bytes. bytes.items ≡ taken)
  pub all : IfOk result (λ bytes. GivesAll old new bytes.items)
  pub too_long : IsErrOf result TooLong ↔ (MOST_BYTES < length taken)
  pub stopped : length taken ≤ MOST_BYTES + 1

-- ---- the reads that were made, where `gives` says what one read into a slice with room answers and leaves

-- what a read that left the slice so answered: the bytes at its front, or that it failed
abbrev pub moved_bytes : {E : Type 0} → Result ℕ E → List ℕ → Result (List ℕ) E
moved_bytes (Ok n) into = Ok (take n into)
moved_bytes (Err e) into = Err e

-- one read gave this piece of at least one byte
abbrev pub GivesPiece : {S : Type 0} → (S → Result (List ℕ) Failed → S → Type 0) → S → List ℕ → S → Type 0
GivesPiece gives old piece new = (0 < length piece) × gives old (Ok piece) new

-- some reads, none of which failed or gave nothing, gave these bytes
pub record GivesInReads {S : Type 0} (gives : S → Result (List ℕ) Failed → S → Type 0) (old : S) (bytes : List ℕ) (new : S) : Type 0 where
  pub pieces : List (List ℕ)
  pub reads : FoldsTo (GivesPiece gives) old pieces new
  pub whole : concat pieces ≡ bytes

-- some reads gave these bytes, and then one read, the last that was made, gave nothing
pub record ReadsToEnd {S : Type 0} (gives : S → Result (List ℕ) Failed → S → Type 0) (old : S) (bytes : List ℕ) (new : S) : Type 0 where
  pub before : S
  pub given : GivesInReads gives old bytes before
  pub ended : gives before (Ok []) new

-- some reads gave bytes, no more than the limit, and then one read, the last that was made, failed
pub record ReadsToFault {S : Type 0} (gives : S → Result (List ℕ) Failed → S → Type 0) (old new : S) : Type 0 where
  pub taken : List ℕ
  pub before : S
  pub given : GivesInReads gives old taken before
  pub within : length taken ≤ MOST_BYTES
  pub failed : gives before (Err (record {})) new

-- all the reads that were made: to the end, to a fault, or until the limit was passed or memory was wanting
abbrev pub ReadsInTurn : {S : Type 0} → (S → Result (List ℕ) Failed → S → Type 0) → S → S → Result (Vec ℕ Global) ReadRefusal → Type 0
ReadsInTurn gives old new (Ok bytes) = ReadsToEnd gives old bytes.items new
ReadsInTurn gives old new (Err ReadFault) = ReadsToFault gives old new
ReadsInTurn gives old new (Err TooLong) = (taken : List ℕ) × GivesInReads gives old taken new × (MOST_BYTES < length taken)
ReadsInTurn gives old new (Err Memory) = (taken : List ℕ) × GivesInReads gives old taken new × (length taken ≤ MOST_BYTES)

-- one read at most: into this slice, none where memory was wanting
abbrev pub ReadsOnce : {S : Type 0} → (S → Result (List ℕ) Failed → S → Type 0) → S → S → Result ℕ ReadRefusal → List ℕ → Type 0
ReadsOnce gives old new (Ok n) into = gives old (Ok (take n into)) new
ReadsOnce gives old new (Err ReadFault) into = gives old (Err (record {})) new
ReadsOnce gives old new (Err TooLong) into = ⊥
ReadsOnce gives old new (Err Memory) into = new ≡ old
