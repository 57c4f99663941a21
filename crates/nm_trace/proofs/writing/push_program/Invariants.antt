use Rattle.std.proofs.Common.{◌≡◌, ◌++◌, take, flat_map}
use Rattle.nm_trace.specs.References.{reference_text}
use Rattle.nm_trace.specs.Traces.{references_by}
use Rattle.nm_trace.proofs.writing.push_program.Given as goal

abbrev pub invariant-loop-line : goal.invariant-loop-line
invariant-loop-line l = l.out.items ≡ l.fn.out.items ++ flat_map reference_text (flat_map (references_by l.cpu) (take l.line-index l.program))
