use Rattle.std.proofs.Common.{◌≡◌, ◌++◌, map}
use Rattle.nm_report.specs.Texts.{cpus_text}
use Rattle.nm_report.proofs.printing.push_each_cpu.Given as goal

abbrev pub invariant-loop-p : goal.invariant-loop-p
invariant-loop-p l = l.out.items ≡ l.fn.out.items ++ cpus_text (map (λ p. p.items) l.programs) (map (λ r. r.items) l.results) l.p
