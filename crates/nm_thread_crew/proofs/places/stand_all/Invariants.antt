use Rattle.std.proofs.Common.{◌≡◌, ◌≤◌, ◌++◌, ℕ, length, map}
use Rattle.std.specs.Prelude.{vec_capacity}
use Rattle.std.specs.Vec.Iter.{into_iter_items}
use Rattle.nm_crew.specs.Crewed.{AtEach}
use Rattle.nm_thread_crew.specs.Boarded.{HasStood, IsSameBoard}
use Rattle.nm_thread_crew.proofs.places.stand_all.Given as goal

abbrev pub invariant-loop-desk : goal.invariant-loop-desk
invariant-loop-desk g l = record {
  same : IsSameBoard (g.B.Board.board l.fn.board) (g.B.Board.board l.board);
  above : (n : ℕ) → length l.yielded ≤ n → ((g.B.Board.board l.board).seats n ≡ (g.B.Board.board l.fn.board).seats n) × ((g.B.Board.board l.board).lanes n ≡ (g.B.Board.board l.fn.board).lanes n);
  stood : AtEach (λ n a. HasStood (g.B.Board.board l.board) n (g.C.Actor.agrees a)) l.cpus.items;
  actors : l.cpus.items ≡ map (λ d. d.actor) l.yielded;
  many : length l.cpus.items ≡ length l.yielded;
  room : vec_capacity l.cpus ≡ vec_capacity l.fn.cpus;
  left : l.yielded ++ into_iter_items l.desk-iterator ≡ l.fn.desks.items;
}
