use Rattle.std.proofs.Common.{arith}
use Rattle.nm_journal_text.proofs.Beginning.{begun_events}
use Rattle.nm_journal_text.proofs.Lines.{line_more, line_wrong}
use Rattle.nm_journal_text.proofs.law.event_lines_begin.Goals as goal

pub returns-clause-begun : goal.returns-clause-begun
returns-clause-begun c = λ script events cursors is h. begun_events script events cursors is.geometry (omega (arith, is.geometry.ranges)) h

pub returns-clause-taken : goal.returns-clause-taken
returns-clause-taken c = line_more

pub returns-clause-refused : goal.returns-clause-refused
returns-clause-refused c = line_wrong
