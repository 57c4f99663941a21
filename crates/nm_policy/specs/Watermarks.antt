-- The watermarks of a tier.
use Rattle.std.specs.Prelude.{ℕ, ◌*◌, ◌/◌, max}
use Rattle.nm_policy.specs.declared.watermarks.Watermarks.{Watermarks}

-- the watermarks of a tier of n frames: the least is one in 64 and at least one, and the others are twice and
-- three times as many
abbrev pub watermarks_of : ℕ → Watermarks
watermarks_of n = record { min = max 1 (n / 64); low = 2 * max 1 (n / 64); high = 3 * max 1 (n / 64) }
