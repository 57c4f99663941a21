use Rattle.std.proofs.Common.{◌<◌, None, sym, subst, arith}
use Rattle.nm_batch.proofs.Lists.{all-drop, drop-within}
use Rattle.nm_migrator_work.specs.Works.{IsNewMigratorWork}
use Rattle.nm_migrator.specs.declared.migrating.Migrating.{Migrating}
use Rattle.nm_migrator.specs.declared.migrating.MigratingStage.TheVariants.{TakingCandidate, Moving}
use Rattle.nm_migrator_work.specs.Planned.{most_taken}
use Rattle.nm_migrator.specs.Stages.{migrator_kept, MovesLeft, IsMove, Gives}
use Rattle.nm_migrator.proofs.Giving.{gives, gives-stage}
use Rattle.nm_migrator.proofs.Fitting.{moves-one, moves-all}
use Rattle.nm_migrator.proofs.migrating.Migrating.move_from.Goals as goal

pub returns-in-Some-clause-next : goal.returns-in-Some-clause-next
returns-in-Some-clause-next c =
    let old = c.args.self.now in
    let at = drop-within c.args.index old.moves _ _ c.in-Some.ensures.some in
    let few = c.requires.2 in
    let within : c.args.index < most_taken = omega arith in
    let m : Migrating = record old { stage = Moving c.args.index c.in-Some.page c.in-Some.count; words = None } in
    subst (λ (x : Migrating). Gives IsNewMigratorWork old.geometry.now old.spent x c.go_move.result (MovesLeft old c.args.index (migrator_kept old))) (sym c.go_move.ensures.stage)
    (gives IsNewMigratorWork m c.go_move.result (MovesLeft old c.args.index (migrator_kept old)) c.go_move.ensures.made c.go_move.ensures.new (c.requires.0.has, c.requires.1, all-drop (IsMove old.geometry.now) c.args.index old.moves _ _ c.in-Some.ensures.some c.requires.1, c.requires.2, within) tt (moves-one old c.args.index c.in-Some.page c.in-Some.count c.in-Some.ensures.some))

pub returns-in-None-clause-next : goal.returns-in-None-clause-next
returns-in-None-clause-next c =
    let old = c.args.self.now in
    gives-stage IsNewMigratorWork old c.go.new.self TakingCandidate c.go.result (MovesLeft old c.args.index (migrator_kept old)) c.go.ensures.stage c.go.ensures.made c.go.ensures.new (c.requires.0) tt (moves-all old c.args.index c.in-None.ensures.none)
