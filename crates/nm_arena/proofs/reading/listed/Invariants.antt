use Rattle.std.proofs.Common.{◌≡◌, ℕ, ◌<◌, ◌≤◌, length, get_or}
use Rattle.std.specs.Vec.{vec_capacity}
use Rattle.nm_words.specs.Flat.{flat}
use Rattle.nm_arena.proofs.reading.listed.Given as goal

abbrev pub invariant-loop-place : goal.invariant-loop-place
invariant-loop-place l = record {
  count : length l.list.items ≡ l.place;
  room : l.layout.end ≤ vec_capacity l.list;
  made : (k : ℕ) → k < l.place → get_or l.list.items k 0 ≡ get_or (flat l.words) k 0;
}
