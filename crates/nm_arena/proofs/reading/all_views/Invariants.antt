use Rattle.std.proofs.Common.{◌≡◌, ◌≤◌, ℕ, None, get_or, take, length}
use Rattle.std.specs.Vec.{vec_capacity}
use Rattle.nm_arena.specs.Views.{views_in}
use Rattle.nm_arena.proofs.reading.all_views.Given as goal

abbrev pub invariant-loop-actor : goal.invariant-loop-actor
invariant-loop-actor l = record {
  made : l.all.items ≡ take l.actor (views_in l.fn.views.items);
  many : length l.all.items ≡ l.actor;
  rest : (i : ℕ) → l.actor ≤ i → get_or l.left.items i None ≡ get_or l.fn.views.items i None;
  count : length l.left.items ≡ length l.fn.views.items;
  room : length l.fn.views.items ≤ vec_capacity l.all;
}
