use Rattle.std.proofs.Common.{◌<◌, arith}
use Rattle.nm_batch.proofs.Lists.{drop-within}
use Rattle.nm_migrator_work.specs.Works.{IsNewMigratorWork}
use Rattle.nm_migrator.specs.declared.migrating.MigratingStage.TheVariants.{PuttingAgain}
use Rattle.nm_migrator_work.specs.Planned.{most_taken}
use Rattle.nm_migrator.specs.Stages.{migrator_kept, AgainLeft, MovesLeft}
use Rattle.nm_migrator.proofs.Giving.{gives-stage, gives-fit}
use Rattle.nm_migrator.proofs.Fitting.{again-one, again-all}
use Rattle.nm_migrator.proofs.migrating.Migrating.again_from.Goals as goal

pub returns-in-Some-clause-next : goal.returns-in-Some-clause-next
returns-in-Some-clause-next c =
    let old = c.args.self.now in
    let at = drop-within c.args.index old.again _ _ c.in-Some.ensures.some in
    let few = c.requires.1 in
    let within : c.args.index < most_taken = omega arith in
    gives-stage IsNewMigratorWork old c.go.new.self (PuttingAgain c.args.index c.in-Some.page) c.go.result (AgainLeft old c.args.index) c.go.ensures.stage c.go.ensures.made c.go.ensures.new (c.requires, within) tt (again-one old c.args.index c.in-Some.page c.in-Some.ensures.some)

pub returns-in-None-clause-next : goal.returns-in-None-clause-next
returns-in-None-clause-next c =
    let old = c.args.self.now in
    gives-fit IsNewMigratorWork old.geometry.now old.spent c.move_from.new.self c.move_from.result (MovesLeft old 0 (migrator_kept old)) (AgainLeft old c.args.index) c.move_from.ensures.next (again-all old c.args.index c.in-None.ensures.none)
