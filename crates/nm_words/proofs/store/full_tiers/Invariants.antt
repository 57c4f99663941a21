use Rattle.std.proofs.Common.{◌≡◌, take}
use Rattle.std.specs.List.{flat_map}
use Rattle.nm_words.specs.Words.{full_words}
use Rattle.nm_words.proofs.store.full_tiers.Given as goal

abbrev pub invariant-loop-frames : goal.invariant-loop-frames
invariant-loop-frames l = l.words.items ≡ flat_map full_words (take l.frames-index l.tiers)
