use Rattle.std.proofs.Common.{◌≡◌, ◌≤◌, true, ◌++◌, length, vec_capacity}
use Rattle.crossbeam_queue.specs.Passes.{view, IsPassOf}
use Rattle.nm_queue.specs.Histories.{pages_left}
use Rattle.nm_queue.specs.Passes.{IsAlone}
use Rattle.nm_queue.proofs.page_queue.PageQueue.close.Given as goal

abbrev pub invariant-loop : goal.invariant-loop
invariant-loop g l = record {
  queue : IsPassOf l.queue l.pass;
  live : (view l.pass).live ≡ true;
  alone : IsAlone (view l.pass);
  left : l.left.items ++ pages_left (view l.pass).seen ≡ pages_left l.fn.pass.known.seen;
  long : length l.left.items ≡ l.counter;
  all : length (pages_left l.fn.pass.known.seen) ≡ l.held;
  room : l.held ≤ vec_capacity l.left;
}
