use Rattle.std.proofs.Common.{◌≡◌, ◌++◌, map, take, flat_map}
use Rattle.nm_trace.specs.References.{reference_text}
use Rattle.nm_trace.specs.Traces.{references_from}
use Rattle.nm_trace.proofs.writing.push_programs.Given as goal

abbrev pub invariant-loop-cpu : goal.invariant-loop-cpu
invariant-loop-cpu l = l.out.items ≡ l.fn.out.items ++ flat_map reference_text (references_from 0 (map (λ p. p.items) (take l.cpu l.programs)))
