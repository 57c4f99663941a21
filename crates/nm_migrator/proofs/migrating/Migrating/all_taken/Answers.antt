use Rattle.nm_migrator_work.specs.Works.{IsNewMigratorWork}
use Rattle.nm_migrator.specs.declared.migrating.Migrating.{Migrating}
use Rattle.nm_migrator.specs.declared.migrating.MigratingStage.TheVariants.{Asking}
use Rattle.nm_migrator.specs.Stages.{migrator_plan, TakenLeft, PlansLeft}
use Rattle.nm_migrator.proofs.Giving.{gives-stage, gives-fit}
use Rattle.nm_migrator.proofs.Fitting.{taken-asks, taken-planned}
use Rattle.nm_migrator.proofs.migrating.Migrating.all_taken.Goals as goal

pub returns-in-None-clause-next : goal.returns-in-None-clause-next
returns-in-None-clause-next c =
    let old = c.args.self.now in
    gives-stage IsNewMigratorWork old c.go.new.self Asking c.go.result (TakenLeft old old.taken) c.go.ensures.stage c.go.ensures.made c.go.ensures.new (c.requires.0) tt (taken-asks old c.in-None.ensures.none)

pub returns-in-Some-clause-next : goal.returns-in-Some-clause-next
returns-in-Some-clause-next c =
    let old = c.args.self.now in
    let m : Migrating = record old { pieces = c.new-self.result; moves = c.new-self-in-Some.result } in
    gives-fit IsNewMigratorWork old.geometry.now old.spent c.plan_from.new.self c.plan_from.result (PlansLeft m 0 (migrator_plan m)) (TakenLeft old old.taken) c.plan_from.ensures.next (taken-planned old c.in-Some.field-0 c.new-self.result c.new-self-in-Some.result c.new-self.ensures c.new-self-in-Some.ensures c.in-Some.ensures.some)
