use Rattle.std.proofs.Common.{refl}
use Rattle.nm_obtain.proofs.Counting.{counted-push}
use Rattle.nm_obtain.proofs.freed.FreedCount.note.Goals as goal

pub returns-clause-counted : goal.returns-clause-counted
returns-clause-counted c = λ own reply h.
    counted-push c.args.self.now _ own c.args.action reply refl c.stays_locked-locked.ensures c.puts_frame-self.ensures c.freed_with-freed.ensures h
