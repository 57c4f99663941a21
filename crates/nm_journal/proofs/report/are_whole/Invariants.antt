use Rattle.std.proofs.Common.{◌≡◌, ◌<◌, ℕ, true, length}
use Rattle.nm_journal_text.specs.Journals.{has_ended_in, program_of}
use Rattle.nm_journal_text.specs.Taken.{cursor_of}
use Rattle.nm_journal.proofs.report.are_whole.Given as goal

abbrev pub invariant-loop-cpu : goal.invariant-loop-cpu
invariant-loop-cpu l = (k : ℕ) → k < l.cpu → has_ended_in l.state k ≡ true → length (cursor_of l.cursors k).results ≡ length (program_of l.script k)
