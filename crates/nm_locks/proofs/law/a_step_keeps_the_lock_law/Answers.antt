-- Each permitted step keeps the lock law.
use Rattle.nm_locks.proofs.EachKind.{lock_law}
use Rattle.nm_locks.proofs.law.a_step_keeps_the_lock_law.Goals as goal

pub returns : goal.returns
returns c = lock_law
