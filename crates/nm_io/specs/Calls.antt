-- The calls of a source or a sink over memory, which are numbered from 1.
use Rattle.std.specs.Prelude.{ℕ, Bool, List, ◌==◌}
use Rattle.std.specs.List.{list_any}
use Rattle.nm_io.specs.Count.{next_count}

-- after this many calls, the number of the next is listed among those that fail
abbrev pub fails_next : ℕ → List ℕ → Bool
fails_next calls fails = list_any (λ call. call == next_count calls) fails
