use Rattle.std.proofs.Common.{◌≡◌, ℕ, ◌<◌, get_or}
use Rattle.std.specs.Slots.{slots_items}
use Rattle.nm_words.specs.Words.{HasSizes}
use Rattle.nm_words.specs.Flat.{flat}
use Rattle.nm_arena.proofs.reading.read_back.Given as goal

abbrev pub invariant-loop-place : goal.invariant-loop-place
invariant-loop-place l = record {
  sizes : HasSizes l.g l.words;
  made : (k : ℕ) → k < l.place → get_or (flat l.words) k 0 ≡ get_or (slots_items l.closed.words) k 0;
}
