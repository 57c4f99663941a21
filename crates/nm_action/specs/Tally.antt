-- Sums of two tallies.
use Rattle.std.specs.Prelude.{ℕ, ◌+◌, ◌-◌, ◌^◌, min}
use Rattle.nm_action.specs.declared.tally.Tally.{Tally}

-- the sum of two counts, or 2^64 - 1 where the sum is greater
abbrev pub capped_sum : ℕ → ℕ → ℕ
capped_sum a b = min (a + b) (2 ^ 64 - 1)

-- field by field the sum, or 2^64 - 1 where the sum is greater
abbrev pub sum_of : Tally → Tally → Tally
sum_of a b = record {
  demand = capped_sum a.demand b.demand;
  alias = capped_sum a.alias b.alias;
  hint = capped_sum a.hint b.hint;
  shadow = capped_sum a.shadow b.shadow;
  marked = capped_sum a.marked b.marked;
  spilled = capped_sum a.spilled b.spilled;
  cold = capped_sum a.cold b.cold;
  committed = capped_sum a.committed b.committed;
  moved = capped_sum a.moved b.moved;
  noframe = capped_sum a.noframe b.noframe;
  gone = capped_sum a.gone b.gone;
  worn = capped_sum a.worn b.worn;
  aborted = capped_sum a.aborted b.aborted;
  remapped = capped_sum a.remapped b.remapped;
  copied = capped_sum a.copied b.copied;
  words = capped_sum a.words b.words;
  flushes = capped_sum a.flushes b.flushes;
  reclaimed = capped_sum a.reclaimed b.reclaimed;
}
