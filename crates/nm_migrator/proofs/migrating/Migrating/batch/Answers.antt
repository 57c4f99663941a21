use Rattle.nm_migrator_work.specs.Works.{IsNewMigratorWork}
use Rattle.nm_migrator.specs.declared.migrating.MigratingStage.TheVariants.{Batching}
use Rattle.nm_migrator.specs.Stages.{migrator_kept, BatchesLeft, MovesLeft}
use Rattle.nm_migrator.proofs.Giving.{gives-stage, gives-fit}
use Rattle.nm_migrator.proofs.Fitting.{batches-some, batches-none, some-item}
use Rattle.nm_migrator.proofs.migrating.Migrating.batch.Goals as goal

pub returns-in-Some-clause-next : goal.returns-in-Some-clause-next
returns-in-Some-clause-next c =
    let old = c.args.self.now in
    gives-stage IsNewMigratorWork old c.go.new.self Batching c.go.result (BatchesLeft old) c.go.ensures.stage c.go.ensures.made c.go.ensures.new (c.requires, some-item old.pieces _ _ c.in-Some.ensures.some) tt (batches-some old c.in-Some.field-0 c.in-Some.ensures.some)

pub returns-in-None-clause-next : goal.returns-in-None-clause-next
returns-in-None-clause-next c =
    let old = c.args.self.now in
    gives-fit IsNewMigratorWork old.geometry.now old.spent c.move_from.new.self c.move_from.result (MovesLeft old 0 (migrator_kept old)) (BatchesLeft old) c.move_from.ensures.next (batches-none old c.in-None.ensures.none)
