-- Home words: 0, or the frame that holds a backing page plus 1.
use Rattle.std.specs.Prelude.{ℕ, ◌+◌, ◌-◌, ◌≤◌, ◌==◌, if◌then◌else◌, Option, Some, None}
use Rattle.nm_base.specs.Geometry.{Geometry, frame_count}

-- the home word that names this frame
abbrev pub home_word : ℕ → ℕ
home_word frame = frame + 1

-- the frame that a home word names, if it names one
abbrev pub named_home : ℕ → Option ℕ
named_home word = if word == 0 then None else Some (word - 1)

-- a home word: 0, or it names a frame
abbrev pub IsHomeWord : Geometry → ℕ → Type 0
IsHomeWord g word = word ≤ frame_count g
