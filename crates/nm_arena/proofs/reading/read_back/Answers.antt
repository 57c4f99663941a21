-- One word more.
use Rattle.std.proofs.Common.{arith}
use Rattle.std.specs.Slots.{slots_items}
use Rattle.std.proofs.lemmas.Grind.{same_number_lists}
use Rattle.nm_words.specs.Flat.{flat}
use Rattle.nm_arena.proofs.Flats.{length-flat, read_more, word_found}
use Rattle.nm_arena.proofs.reading.read_back.Goals as goal

pub loop-place-preserved : goal.loop-place-preserved
loop-place-preserved c = record {
  sizes = c.exchange.ensures.sizes;
  made = read_more c.args.g.now c.loop-place.words c.exchange.new.self (slots_items c.args.closed.now.words) c.loop-place.place c.word-word.result c.name_at-name.result c.loop-place.invariant.sizes c.name_at-name.ensures.there c.name_at-name.ensures.place c.exchange.ensures.words (word_found (slots_items c.args.closed.now.words) c.loop-place.place c.word-word.result c.word-word.ensures) c.loop-place.invariant.made;
}

pub returns-clause-words : goal.returns-clause-words
returns-clause-words c =
    let size = length-flat c.args.g.now c.loop-place.words c.loop-place.invariant.sizes in
    same_number_lists (flat c.loop-place.words) (slots_items c.args.closed.now.words) (omega (arith, size, c.requires.count)) (λ k lt. c.loop-place.invariant.made k (omega (arith, lt, size, c.requires.layout.end)))
