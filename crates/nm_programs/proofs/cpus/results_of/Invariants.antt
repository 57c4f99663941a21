use Rattle.std.proofs.Common.{◌≡◌, map}
use Rattle.nm_programs.proofs.cpus.results_of.Given as goal

abbrev pub invariant-loop-cpu : goal.invariant-loop-cpu
invariant-loop-cpu g l = map (λ r. r.items) l.results.items ≡ map (λ c. c.results.items) l.yielded
