use Rattle.std.proofs.Common.{◌<◌, ◌≤◌, length, arith}
use Rattle.nm_migrator_work.specs.Works.{IsNewMigratorWork}
use Rattle.nm_migrator.specs.declared.migrating.MigratingStage.TheVariants.{TakingPending}
use Rattle.nm_migrator_work.specs.Planned.{most_taken}
use Rattle.nm_migrator.specs.Stages.{TakenLeft, TakesLeft}
use Rattle.nm_migrator.proofs.Giving.{gives-stage, gives-fit}
use Rattle.nm_migrator.proofs.Fitting.{takes-one, takes-all}
use Rattle.nm_migrator.proofs.migrating.Migrating.take_pending.Goals as goal

pub returns-then-len-lt-MOST_TAKEN-clause-next : goal.returns-then-len-lt-MOST_TAKEN-clause-next
returns-then-len-lt-MOST_TAKEN-clause-next c =
    let old = c.args.self.now in
    let room : length old.taken < most_taken = omega (arith, c.len.ensures.count) in
    gives-stage IsNewMigratorWork old c.go.new.self TakingPending c.go.result (TakesLeft old) c.go.ensures.stage c.go.ensures.made c.go.ensures.new (c.requires, room) tt (takes-one old room)

pub returns-else-len-lt-MOST_TAKEN-clause-next : goal.returns-else-len-lt-MOST_TAKEN-clause-next
returns-else-len-lt-MOST_TAKEN-clause-next c =
    let old = c.args.self.now in
    let full : most_taken ≤ length old.taken = omega (arith, c.len.ensures.count) in
    gives-fit IsNewMigratorWork old.geometry.now old.spent c.all_taken.new.self c.all_taken.result (TakenLeft old old.taken) (TakesLeft old) c.all_taken.ensures.next (takes-all old full)
