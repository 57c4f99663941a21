use Rattle.std.proofs.Common.{sym, subst}
use Rattle.nm_cool.specs.declared.cool.Cooled.{Cooled}
use Rattle.nm_cool.specs.declared.cool.Cooled.TheVariants as cooled
use Rattle.nm_migrator_work.specs.Works.{IsNewMigratorWork}
use Rattle.nm_migrator.specs.declared.migrating.MigratingStage.TheVariants.{TakingCandidate, PuttingBack}
use Rattle.nm_migrator.specs.Stages.{CooledLeft, Gives}
use Rattle.nm_migrator.proofs.Giving.{gives-stage}
use Rattle.nm_migrator.proofs.Fitting.{candidates-fit}
use Rattle.nm_migrator.proofs.migrating.Migrating.cooled.Goals as goal

pub returns-in-Busy-clause-next : goal.returns-in-Busy-clause-next
returns-in-Busy-clause-next c =
    let old = c.args.self.now in
    subst (λ (x : Cooled). Gives IsNewMigratorWork old.geometry.now old.spent c.go.new.self c.go.result (CooledLeft old c.args.page x)) (sym c.in-Busy.is) (gives-stage IsNewMigratorWork old c.go.new.self (PuttingBack c.args.page) c.go.result (CooledLeft old c.args.page cooled.Busy) c.go.ensures.stage c.go.ensures.made c.go.ensures.new (c.requires) tt (λ notes outcome s. s))

pub returns-in-Cold-clause-next : goal.returns-in-Cold-clause-next
returns-in-Cold-clause-next c =
    let old = c.args.self.now in
    subst (λ (x : Cooled). Gives IsNewMigratorWork old.geometry.now old.spent c.go-in-Cold.new.self c.go-in-Cold.result (CooledLeft old c.args.page x)) (sym c.in-Cold.is) (gives-stage IsNewMigratorWork old c.go-in-Cold.new.self TakingCandidate c.go-in-Cold.result (CooledLeft old c.args.page cooled.Cold) c.go-in-Cold.ensures.stage c.go-in-Cold.ensures.made c.go-in-Cold.ensures.new (c.requires.0) tt (candidates-fit old))
