use Rattle.std.proofs.Common.{Bool, true, sym, subst}
use Rattle.nm_migrator_work.specs.Works.{IsNewMigratorWork}
use Rattle.nm_migrator.specs.declared.migrating.MigratingStage.TheVariants.{Spilling}
use Rattle.nm_migrator.specs.Stages.{BackLeft, Gives}
use Rattle.nm_migrator.proofs.Giving.{gives-stage}
use Rattle.nm_migrator.proofs.migrating.Migrating.put_back.Goals as goal

pub returns-then-full-clause-next : goal.returns-then-full-clause-next
returns-then-full-clause-next c =
    let old = c.args.self.now in
    subst (λ (x : Bool). Gives IsNewMigratorWork old.geometry.now old.spent c.go.new.self c.go.result (BackLeft old c.args.page x)) (sym c.if-full.true) (gives-stage IsNewMigratorWork old c.go.new.self (Spilling c.args.page) c.go.result (BackLeft old c.args.page true) c.go.ensures.stage c.go.ensures.made c.go.ensures.new (c.requires) tt (λ notes outcome s. s))

pub returns-else-full-clause-next : goal.returns-else-full-clause-next
returns-else-full-clause-next c =
    let old = c.args.self.now in
    subst (λ (x : Bool). Gives IsNewMigratorWork old.geometry.now old.spent c.begin_pending.new.self c.begin_pending.result (BackLeft old c.args.page x)) (sym c.if-full.false) (c.begin_pending.ensures.next)
