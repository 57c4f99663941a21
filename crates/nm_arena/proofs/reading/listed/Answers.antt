-- One word more.
use Rattle.std.proofs.Common.{arith}
use Rattle.std.proofs.lemmas.Grind.{common_steps, same_number_lists}
use Rattle.nm_words.specs.Flat.{flat}
use Rattle.nm_arena.proofs.Flats.{length-flat, listed_more}
use Rattle.nm_arena.proofs.reading.listed.Goals as goal

pub loop-place-preserved : goal.loop-place-preserved
loop-place-preserved c = record {
  count = grind (arith, common_steps);
  room = omega (arith, c.push_reserved.ensures.capacity, c.loop-place.invariant.room);
  made = rw c.push_reserved.ensures.items
      (listed_more c.args.g.now c.args.words.now c.loop-place.list.items c.loop-place.place c.load.result c.name_at-name.result c.requires.sizes c.name_at-name.ensures.there c.name_at-name.ensures.place c.load.ensures c.loop-place.invariant.count c.loop-place.invariant.made);
}

pub returns : goal.returns
returns c =
    let w = c.args.words.now in
    let size = length-flat c.args.g.now w c.requires.sizes in
    same_number_lists c.loop-place.list.items (flat w) (omega (arith, size, c.requires.layout.end, c.loop-place.invariant.count)) (λ k lt. c.loop-place.invariant.made k (omega (arith, lt, c.loop-place.invariant.count)))
