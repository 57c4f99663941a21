-- One opening view more.
use Rattle.std.proofs.Common.{Some, sym, arith}
use Rattle.std.proofs.lemmas.Grind.{common_steps}
use Rattle.std.proofs.lemmas.List.FromFn.{map-range_with_len_more}
use Rattle.nm_view.specs.Opening.{opening}
use Rattle.nm_arena.proofs.reading.opening_views.Goals as goal

pub loop-number-preserved : goal.loop-number-preserved
loop-number-preserved c =
    let n = c.loop-number.number in
    let more = map-range_with_len_more (λ actor. Some (opening c.args.g.now actor)) 0 n n (omega arith) in
    record {
      made = rw (c.push_reserved.ensures.items, c.loop-number.invariant.made, c.in_ok-view.ensures) (sym more);
      count = grind (arith, common_steps);
      room = omega (arith, c.push_reserved.ensures.capacity, c.loop-number.invariant.room);
    }
