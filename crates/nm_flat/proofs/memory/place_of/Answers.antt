-- The place of a word is in the list of all words.
use Rattle.std.proofs.Common.{◌≡◌}
use Rattle.nm_flat.proofs.Places.{place-page_of-lt}
use Rattle.nm_flat.proofs.memory.place_of.Goals as goal

pub returns-clause-within : goal.returns-clause-within
returns-clause-within c =
    let words : c.g.inside.words ≡ c.args.g.now.words = cc in
    rw (c.page_of.ensures, words) (place-page_of-lt c.args.g.now c.args.vpage c.args.word c.requires.mapped c.requires.within)
