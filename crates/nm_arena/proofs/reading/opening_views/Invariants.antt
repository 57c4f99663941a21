use Rattle.std.proofs.Common.{◌≡◌, ◌≤◌, Some, map, length}
use Rattle.std.specs.List.{range_with_len}
use Rattle.std.specs.Vec.{vec_capacity}
use Rattle.nm_view.specs.Opening.{opening}
use Rattle.nm_arena.proofs.reading.opening_views.Given as goal

abbrev pub invariant-loop-number : goal.invariant-loop-number
invariant-loop-number l = record {
  made : l.views.items ≡ map (λ actor. Some (opening l.g actor)) (range_with_len 0 l.number);
  count : length l.views.items ≡ l.number;
  room : l.actors ≤ vec_capacity l.views;
}
