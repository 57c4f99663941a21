-- What a call that reads a source to its end, or writes a whole text to a sink, did to it.
use Rattle.std.specs.Prelude.{◌≡◌, ℕ, ◌<◌, ◌≤◌, List, length, Option, Result, Ok, Err}
use Rattle.std.specs.Io.KnownBytes.{Appends, Consumes}
use Rattle.nm_io.specs.Count.{Rose}
use Rattle.nm_io.specs.Source.{GivesAll, GivesInReads, ReadsToEnd, ReadsToFault}
use Rattle.nm_io.specs.Sink.{HoldsFront, WritesInTurn}
use Rattle.nm_io.specs.declared.faults.Failed.{Failed}
use Rattle.nm_io.specs.declared.sources.TheConstants.{MOST_BYTES}

-- what sources of a type tell: the bytes left, the count of faults, and what one read may give
pub record SourceTells (S : Type 0) : Type 1 where
  pub left : S → Option (List ℕ)
  pub faults : S → ℕ
  pub gives : S → Result (List ℕ) Failed → S → Type 0

-- what sinks of a type tell: the bytes held, the count of faults, and what one write may take
pub record SinkTells (K : Type 0) : Type 1 where
  pub held : K → Option (List ℕ)
  pub faults : K → ℕ
  pub takes : K → List ℕ → Result ℕ Failed → K → Type 0

-- every byte was read, up to a read that gave none, and P holds of them: they are what was left, where the source tells that
pub record ReadsWhole {S : Type 0} (m : SourceTells S) (old new : S) (P : List ℕ → Type 0) : Type 0 where
  pub bytes : List ℕ
  pub few : length bytes ≤ MOST_BYTES
  pub reads : ReadsToEnd m.gives old bytes new
  pub all : GivesAll (m.left old) (m.left new) bytes
  pub kept : m.faults new ≡ m.faults old
  pub holds : P bytes

-- more bytes than the limit were read
pub record ReadsTooMany {S : Type 0} (m : SourceTells S) (old new : S) : Type 0 where
  pub reads : (taken : List ℕ) × GivesInReads m.gives old taken new × (MOST_BYTES < length taken)
  pub lost : (taken : List ℕ) × Consumes (m.left old) (m.left new) taken × (MOST_BYTES < length taken)
  pub kept : m.faults new ≡ m.faults old

-- bytes up to the limit were read, where the source tells what it lost
abbrev pub LosesSome : Option (List ℕ) → Option (List ℕ) → Type 0
LosesSome old new = (taken : List ℕ) × Consumes old new taken × (length taken ≤ MOST_BYTES)

-- the last read failed
pub record ReadsUpToFault {S : Type 0} (m : SourceTells S) (old new : S) : Type 0 where
  pub reads : ReadsToFault m.gives old new
  pub lost : LosesSome (m.left old) (m.left new)
  pub rose : Rose (m.faults old) (m.faults new)

-- bytes were read, or none, and no read failed
pub record ReadsSome {S : Type 0} (m : SourceTells S) (old new : S) : Type 0 where
  pub lost : LosesSome (m.left old) (m.left new)
  pub kept : m.faults new ≡ m.faults old

-- the whole text was written, and no write failed
pub record WritesWhole {K : Type 0} (m : SinkTells K) (old new : K) (text : List ℕ) : Type 0 where
  pub writes : WritesInTurn m.takes old new text (Ok tt)
  pub appended : Appends (m.held old) (m.held new) text
  pub kept : m.faults new ≡ m.faults old

-- the last write failed, and only a front of the text was written
pub record WritesPart {K : Type 0} (m : SinkTells K) (old new : K) (text : List ℕ) : Type 0 where
  pub writes : WritesInTurn m.takes old new text (Err (record {}))
  pub front : HoldsFront (m.held old) (m.held new) text
  pub rose : Rose (m.faults old) (m.faults new)
