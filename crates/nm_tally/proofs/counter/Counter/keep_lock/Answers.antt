use Rattle.nm_tally.proofs.Noting.{flags-other}
use Rattle.nm_tally.proofs.counter.Counter.keep_lock.Goals as goal

pub returns-in_default-clause-flags : goal.returns-in_default-clause-flags
returns-in_default-clause-flags c = flags-other c.args.action c.args.reply c.args.self.now.locked.items c.in_default.not-Lock c.in_default.not-Unlock
