use Rattle.std.proofs.Common.{◌≡◌, map}
use Rattle.nm_journal_text.specs.Taken.{results_in}
use Rattle.nm_journal.proofs.report.results_of.Given as goal

abbrev pub invariant-loop-cursor : goal.invariant-loop-cursor
invariant-loop-cursor l = map (λ r. r.items) l.results.items ≡ results_in l.yielded
