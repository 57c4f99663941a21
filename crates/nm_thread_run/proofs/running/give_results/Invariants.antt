use Rattle.std.proofs.Common.{◌≡◌, ◌++◌, length, map}
use Rattle.std.specs.Prelude.{vec_capacity}
use Rattle.std.specs.Vec.Iter.{into_iter_items}
use Rattle.nm_thread_run.proofs.running.give_results.Given as goal

abbrev pub invariant-loop-cpu : goal.invariant-loop-cpu
invariant-loop-cpu g l = record {
  given : map (λ r. r.items) l.results.items ≡ map (λ c. c.results.items) l.yielded;
  many : length l.results.items ≡ length l.yielded;
  room : vec_capacity l.results ≡ vec_capacity l.fn.results;
  left : l.yielded ++ into_iter_items l.cpu-iterator ≡ l.fn.cpus.items;
}
