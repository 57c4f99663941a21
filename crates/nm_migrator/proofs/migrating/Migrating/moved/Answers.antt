use Rattle.std.proofs.Common.{Bool, true, sym, subst}
use Rattle.nm_migrator_work.specs.Works.{IsNewMigratorWork}
use Rattle.nm_migrator.specs.declared.migrating.Migrating.{Migrating}
use Rattle.nm_migrator.specs.declared.migrating.MigratingStage.TheVariants.{PuttingMoved}
use Rattle.nm_migrator.specs.Stages.{MovedLeft, Gives}
use Rattle.nm_migrator.proofs.Giving.{gives-stage}
use Rattle.nm_migrator.proofs.migrating.Migrating.moved.Goals as goal

pub returns-then-busy-clause-next : goal.returns-then-busy-clause-next
returns-then-busy-clause-next c =
    let old = c.args.self.now in
    let m : Migrating = record old { spent = c.args.spent; words = c.args.words } in
    subst (λ (x : Bool). Gives IsNewMigratorWork old.geometry.now c.args.spent c.go.new.self c.go.result (MovedLeft old c.args.index c.args.page x c.args.spent)) (sym c.if-busy.true) (gives-stage IsNewMigratorWork m c.go.new.self (PuttingMoved c.args.index c.args.page) c.go.result (MovedLeft old c.args.index c.args.page true c.args.spent) c.go.ensures.stage c.go.ensures.made c.go.ensures.new ((record { has = c.requires.has; words = c.requires.words }, c.requires.moves, c.requires.few), c.requires.index) tt (λ notes outcome s. s))

pub returns-else-busy-clause-next : goal.returns-else-busy-clause-next
returns-else-busy-clause-next c =
    let old = c.args.self.now in
    subst (λ (x : Bool). Gives IsNewMigratorWork old.geometry.now c.args.spent c.move_from.new.self c.move_from.result (MovedLeft old c.args.index c.args.page x c.args.spent)) (sym c.if-busy.false) (c.move_from.ensures.next)
