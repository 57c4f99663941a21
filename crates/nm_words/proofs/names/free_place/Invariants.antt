use Rattle.std.proofs.Common.{◌≡◌, take}
use Rattle.std.specs.Prelude.{sum_by}
use Rattle.nm_base.specs.FreeWords.{words_for}
use Rattle.nm_words.proofs.names.free_place.Given as goal

abbrev pub invariant-loop-frames : goal.invariant-loop-frames
invariant-loop-frames l = l.first ≡ sum_by words_for (take l.frames-index l.frames-items)
