use Rattle.nm_migrator_work.specs.Works.{IsNewMigratorWork}
use Rattle.nm_migrator.specs.declared.migrating.MigratingStage.TheVariants.{Planning}
use Rattle.nm_migrator.specs.Stages.{migrator_plan, PlansLeft, BatchesLeft}
use Rattle.nm_migrator.proofs.Giving.{gives-stage, gives-fit}
use Rattle.nm_migrator.proofs.Fitting.{plans-one, plans-all}
use Rattle.nm_migrator.proofs.migrating.Migrating.plan_from.Goals as goal

pub returns-in-Some-clause-next : goal.returns-in-Some-clause-next
returns-in-Some-clause-next c =
    let old = c.args.self.now in
    gives-stage IsNewMigratorWork old c.go.new.self (Planning c.args.index c.in-Some.page) c.go.result (PlansLeft old c.args.index (migrator_plan old)) c.go.ensures.stage c.go.ensures.made c.go.ensures.new (c.requires, c.in-Some.ensures.some) tt (plans-one old c.args.index c.in-Some.page c.in-Some.ensures.some)

pub returns-in-None-clause-next : goal.returns-in-None-clause-next
returns-in-None-clause-next c =
    let old = c.args.self.now in
    gives-fit IsNewMigratorWork old.geometry.now old.spent c.batch.new.self c.batch.result (BatchesLeft old) (PlansLeft old c.args.index (migrator_plan old)) c.batch.ensures.next (plans-all old c.args.index c.in-None.ensures.none)
