use Rattle.std.proofs.Common.{Bool, true, false, sym, subst}
use Rattle.nm_migrator_work.specs.Works.{IsNewMigratorWork}
use Rattle.nm_migrator.specs.declared.migrating.MigratingStage.TheVariants.{TakingCandidate, TakingLast}
use Rattle.nm_migrator.specs.Stages.{AskedLeft, Gives}
use Rattle.nm_migrator.proofs.Giving.{gives-stage}
use Rattle.nm_migrator.proofs.Fitting.{candidates-fit}
use Rattle.nm_migrator.proofs.migrating.Migrating.asked.Goals as goal

pub returns-then-all-clause-next : goal.returns-then-all-clause-next
returns-then-all-clause-next c =
    let old = c.args.self.now in
    subst (λ (x : Bool). Gives IsNewMigratorWork old.geometry.now old.spent c.go.new.self c.go.result (AskedLeft old x)) (sym c.if-all.true) (gives-stage IsNewMigratorWork old c.go.new.self TakingLast c.go.result (AskedLeft old true) c.go.ensures.stage c.go.ensures.made c.go.ensures.new (c.requires) tt (λ notes outcome s. s))

pub returns-else-all-clause-next : goal.returns-else-all-clause-next
returns-else-all-clause-next c =
    let old = c.args.self.now in
    subst (λ (x : Bool). Gives IsNewMigratorWork old.geometry.now old.spent c.go-else-all.new.self c.go-else-all.result (AskedLeft old x)) (sym c.if-all.false) (gives-stage IsNewMigratorWork old c.go-else-all.new.self TakingCandidate c.go-else-all.result (AskedLeft old false) c.go-else-all.ensures.stage c.go-else-all.ensures.made c.go-else-all.ensures.new (c.requires) tt (candidates-fit old))
