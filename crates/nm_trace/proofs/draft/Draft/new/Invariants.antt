use Rattle.std.proofs.Common.{◌≡◌, [], map}
use Rattle.nm_trace.specs.Imports.{programs_for}
use Rattle.nm_trace.proofs.draft.Draft.new.Given as goal

abbrev pub invariant-loop-cpu : goal.invariant-loop-cpu
invariant-loop-cpu l = map (λ p. p.items) l.programs.items ≡ programs_for [] [] l.cpu
