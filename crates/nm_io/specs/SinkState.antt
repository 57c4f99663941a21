-- A sink over memory as plain data, and what a write does to it.
use Rattle.std.specs.Prelude.{◌≡◌, ℕ, ◌-◌, Bool, not, ◌&&◌, ◌||◌, ◌==◌, List, length, take, min, ◌++◌, Result, Ok, Err, if◌then◌else◌}
use Rattle.nm_io.specs.Count.{next_count}
use Rattle.nm_io.specs.Calls.{fails_next}
use Rattle.nm_io.specs.declared.faults.Failed.{Failed}

-- the bytes held, how many there is room for in all, how many of them a write takes at most, how
-- many calls were made, the numbers of those that fail, and how many failed
pub record SinkState : Type 0 where
  pub held : List ℕ
  pub room : ℕ
  pub piece : ℕ
  pub calls : ℕ
  pub fails : List ℕ
  pub faults : ℕ

-- how many bytes a write that doesn't fail takes of this many
abbrev pub count_written : SinkState → ℕ → ℕ
count_written s len = min len (min s.piece (s.room - length s.held))

-- the next write, of this many bytes, fails: it is listed, or there are bytes and none of them fits
abbrev pub write_fails : SinkState → ℕ → Bool
write_fails s len = fails_next s.calls s.fails || (not (len == 0) && (count_written s len == 0))

-- what a write of this many bytes answers
abbrev pub write_result : SinkState → ℕ → Result ℕ Failed
write_result s len = if write_fails s len then Err (record {}) else Ok (count_written s len)

-- the sink after a write that failed
abbrev pub after_failed_write : SinkState → SinkState
after_failed_write s = record s { calls = next_count s.calls; faults = next_count s.faults }

-- the sink after a write that took these bytes
abbrev pub after_good_write : SinkState → List ℕ → SinkState
after_good_write s bytes = record s { held = s.held ++ bytes; calls = next_count s.calls }

-- the sink after a write
abbrev pub after_write : SinkState → List ℕ → SinkState
after_write s from =
    if write_fails s (length from) then after_failed_write s else after_good_write s (take (count_written s (length from)) from)

-- a write of these bytes answers this, and leaves that sink
pub record StateTakes (old : SinkState) (from : List ℕ) (result : Result ℕ Failed) (new : SinkState) : Type 0 where
  pub answer : result ≡ write_result old (length from)
  pub after : new ≡ after_write old from
