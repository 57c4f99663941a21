-- Each view that is taken out of the list is the next of those that are there.
use Rattle.std.proofs.Common.{◌≡◌, ◌+◌, ◌<◌, ◌++◌, ◌∷◌, [], get_or, take, length, Option, Some, None, sym, ap, ◌∙◌, subst, arith, length-append, length-set}
use Rattle.std.specs.Prelude.{IsSomeAnd}
use Rattle.std.proofs.lemmas.List.{get_or_default, get_or-set_other}
use Rattle.nm_view.specs.Views.{View}
use Rattle.nm_arena.specs.Views.{views_in}
use Rattle.nm_arena.proofs.Ending.{there_in, views_more}
use Rattle.nm_arena.proofs.reading.all_views.Goals as goal

pub unreachable-requires : goal.unreachable-requires
unreachable-requires c =
    let i = c.loop-actor.actor in
    let below = c.loop-actor-test.true in
    let end = c.len-actor-end.ensures in
    let count = c.loop-actor.invariant.count in
    let within : i < length c.args.views.items = omega (arith, below, end) in
    let is : c.take.result ≡ get_or c.args.views.items i None = c.take.ensures.value ∙ c.index_mut.ensures.value ∙ get_or_default c.loop-actor.left.items i c.index_mut.result.now None (omega (arith, within, count)) ∙ c.loop-actor.invariant.rest i (omega arith) in
    let there : IsSomeAnd c.take.result (λ _. Unit {0}) = there_in c.args.views.items i c.take.result c.requires.there within is in
    subst (λ (v : Option View). IsSomeAnd v (λ _. Unit {0})) c.in_default.is there

pub loop-actor-preserved : goal.loop-actor-preserved
loop-actor-preserved c =
    let i = c.loop-actor.actor in
    let view = c.in-Some.view in
    let below = c.loop-actor-test.true in
    let end = c.len-actor-end.ensures in
    let count = c.loop-actor.invariant.count in
    let capacity = c.push_reserved.ensures.capacity in
    let room = c.loop-actor.invariant.room in
    let within : i < length c.args.views.items = omega (arith, below, end) in
    let is : Some view ≡ get_or c.args.views.items i None = sym c.in-Some.is ∙ c.take.ensures.value ∙ c.index_mut.ensures.value ∙ get_or_default c.loop-actor.left.items i c.index_mut.result.now None (omega (arith, within, count)) ∙ c.loop-actor.invariant.rest i (omega arith) in
    let more : take (i + 1) (views_in c.args.views.items) ≡ take i (views_in c.args.views.items) ++ view ∷ [] = views_more c.args.views.items i view c.requires.there within is in
    let longer : length (c.loop-actor.all.items ++ view ∷ []) ≡ length c.loop-actor.all.items + 1 = length-append c.loop-actor.all.items (view ∷ []) in
    record {
      made = rw (c.push_reserved.ensures.items, c.loop-actor.invariant.made) (sym more);
      many = ap length c.push_reserved.ensures.items ∙ longer ∙ ap (λ n. n + 1) c.loop-actor.invariant.many;
      rest = λ j past. get_or-set_other c.loop-actor.left.items i j c.take.new.self None (λ same. let e : j ≡ i = same in omega (arith, past, e)) ∙ c.loop-actor.invariant.rest j (omega (arith, past));
      count = length-set c.loop-actor.left.items i c.take.new.self ∙ count;
      room = omega (arith, capacity, room);
    }
