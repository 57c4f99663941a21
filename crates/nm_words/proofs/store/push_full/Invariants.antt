use Rattle.std.proofs.Common.{◌≡◌, ◌++◌, map}
use Rattle.std.specs.List.{range_with_len}
use Rattle.nm_words.specs.Words.{full_word}
use Rattle.nm_words.proofs.store.push_full.Given as goal

abbrev pub invariant-loop-k : goal.invariant-loop-k
invariant-loop-k l = l.words.items ≡ l.fn.words.items ++ map (full_word l.frames) (range_with_len 0 l.k)
