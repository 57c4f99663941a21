use Rattle.nm_journal.proofs.Answering.{opened}
use Rattle.nm_journal.proofs.body.check_events.Goals as goal

pub check_lines-requires-clause-begins : goal.check_lines-requires-clause-begins
check_lines-requires-clause-begins c = opened c.args.script.now c.args.text.now c.in_ok-state.state c.in_ok-state.cursors.items c.requires.script c.in_ok-state.ensures.state c.in_ok-state.ensures.cursors
