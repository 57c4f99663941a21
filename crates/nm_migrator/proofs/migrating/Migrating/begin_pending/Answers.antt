use Rattle.nm_migrator_work.specs.Works.{IsNewMigratorWork}
use Rattle.nm_migrator.specs.declared.migrating.Migrating.{Migrating}
use Rattle.nm_migrator.specs.Stages.{PendingLeft, TakesLeft}
use Rattle.nm_migrator.proofs.Giving.{gives-fit}
use Rattle.nm_migrator.proofs.Fitting.{pending-begins}
use Rattle.nm_migrator.proofs.migrating.Migrating.begin_pending.Goals as goal

pub returns-clause-next : goal.returns-clause-next
returns-clause-next c =
    let old = c.args.self.now in
    let m : Migrating = record old { taken = c.new-self.result } in
    gives-fit IsNewMigratorWork old.geometry.now old.spent c.take_pending.new.self c.take_pending.result (TakesLeft m) (PendingLeft old) c.take_pending.ensures.next (pending-begins old c.new-self.result c.new-self.ensures)
