use Rattle.std.proofs.Common.{◌+◌, ℕ, Bool, true, sym, subst}
use Rattle.nm_migrator_work.specs.Works.{IsNewMigratorWork}
use Rattle.nm_migrator.specs.declared.migrating.MigratingStage.TheVariants.{PuttingMoved}
use Rattle.nm_migrator.specs.Stages.{migrator_kept, PutLeft, MovesLeft, Gives}
use Rattle.nm_migrator.proofs.Giving.{gives-stage}
use Rattle.nm_migrator.proofs.migrating.Migrating.put_moved.Goals as goal

pub returns-then-full-clause-next : goal.returns-then-full-clause-next
returns-then-full-clause-next c =
    let old = c.args.self.now in
    subst (λ (x : Bool). Gives IsNewMigratorWork old.geometry.now old.spent c.go.new.self c.go.result (λ (n : ℕ). PutLeft c.args.page x (MovesLeft old (c.args.index + 1) (migrator_kept old) n))) (sym c.if-full.true) (gives-stage IsNewMigratorWork old c.go.new.self (PuttingMoved c.args.index c.args.page) c.go.result (λ (n : ℕ). PutLeft c.args.page true (MovesLeft old (c.args.index + 1) (migrator_kept old) n)) c.go.ensures.stage c.go.ensures.made c.go.ensures.new (c.requires) tt (λ notes outcome s. s))

pub returns-else-full-clause-next : goal.returns-else-full-clause-next
returns-else-full-clause-next c =
    let old = c.args.self.now in
    subst (λ (x : Bool). Gives IsNewMigratorWork old.geometry.now old.spent c.move_from.new.self c.move_from.result (λ (n : ℕ). PutLeft c.args.page x (MovesLeft old (c.args.index + 1) (migrator_kept old) n))) (sym c.if-full.false) (c.move_from.ensures.next)
