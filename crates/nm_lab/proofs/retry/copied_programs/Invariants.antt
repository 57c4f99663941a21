-- The programs so far have the same lines.
use Rattle.std.proofs.Common.{◌≡◌, map, take}
use Rattle.nm_lab.proofs.retry.copied_programs.Given as goal

abbrev pub invariant-loop-program : goal.invariant-loop-program
invariant-loop-program l = map (λ p. p.items) l.all.items ≡ map (λ p. p.items) (take l.program-index l.programs)
