-- A source over bytes in memory as plain data, and what a read does to it.
use Rattle.std.specs.Prelude.{◌≡◌, ℕ, ◌<◌, List, length, take, drop, min, ◌++◌, Result, Ok, Err, if◌then◌else◌}
use Rattle.nm_io.specs.Count.{next_count}
use Rattle.nm_io.specs.Source.{moved_bytes}
use Rattle.nm_io.specs.Calls.{fails_next}
use Rattle.nm_io.specs.declared.faults.Failed.{Failed}

-- the bytes left, how many of them a read gives at most, how many calls were made, the numbers
-- of those that fail, and how many failed
pub record SourceState : Type 0 where
  pub left : List ℕ
  pub piece : ℕ
  pub calls : ℕ
  pub fails : List ℕ
  pub faults : ℕ

-- how many bytes a read that doesn't fail gives into a slice of this length
abbrev pub count_read : SourceState → ℕ → ℕ
count_read s room = min room (min s.piece (length s.left))

-- what a read into a slice of this length answers
abbrev pub read_result : SourceState → ℕ → Result ℕ Failed
read_result s room = if fails_next s.calls s.fails then Err (record {}) else Ok (count_read s room)

-- the source after a read that failed
abbrev pub after_failed_read : SourceState → SourceState
after_failed_read s = record s { calls = next_count s.calls; faults = next_count s.faults }

-- the source after a read that gave n bytes
abbrev pub after_good_read : SourceState → ℕ → SourceState
after_good_read s n = record s { left = drop n s.left; calls = next_count s.calls }

-- the source after a read into a slice of this length
abbrev pub after_read : SourceState → ℕ → SourceState
after_read s room = if fails_next s.calls s.fails then after_failed_read s else after_good_read s (count_read s room)

-- a slice after n bytes of the source were moved to its front
abbrev pub with_bytes : SourceState → ℕ → List ℕ → List ℕ
with_bytes s n into = take n s.left ++ drop n into

-- a slice after a read into it
abbrev pub slice_after_read : SourceState → List ℕ → List ℕ
slice_after_read s into = if fails_next s.calls s.fails then into else with_bytes s (count_read s (length into)) into

-- a read into some slice with room answers this, and leaves that source
pub record StateGives (old : SourceState) (result : Result (List ℕ) Failed) (new : SourceState) : Type 0 where
  pub room : ℕ
  pub some : 0 < room
  pub answer : result ≡ moved_bytes (read_result old room) old.left
  pub after : new ≡ after_read old room
