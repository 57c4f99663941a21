use Rattle.std.proofs.Common.{◌≡◌, ◌++◌, length, map}
use Rattle.std.specs.Prelude.{vec_capacity}
use Rattle.std.specs.Vec.Iter.{into_iter_items}
use Rattle.nm_actor.specs.Boards.{IsOpeningChair}
use Rattle.nm_crew.specs.Crewed.{AtEach}
use Rattle.nm_thread_crew.specs.Boarded.{HaveSat}
use Rattle.nm_thread_crew.proofs.places.sit_all.Given as goal

abbrev pub invariant-loop-actor : goal.invariant-loop-actor
invariant-loop-actor g l = record {
  sat : HaveSat 0 l.number (g.B.Board.board l.fn.board) (g.B.Board.board l.board);
  count : l.number ≡ length l.yielded;
  many : l.number ≡ length l.desks.items;
  actors : map (λ d. d.actor) l.desks.items ≡ l.yielded;
  room : vec_capacity l.desks ≡ vec_capacity l.fn.desks;
  chairs : AtEach (λ n d. IsOpeningChair (g.B.Board.board l.fn.board) n (g.B.Chair.Tells.state d.chair)) l.desks.items;
  left : l.yielded ++ into_iter_items l.actor-iterator ≡ l.fn.cpus.items;
}
