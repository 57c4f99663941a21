use Rattle.std.proofs.Common.{◌<◌, ◌≤◌, refl, sym, subst, arith}
use Rattle.nm_base.specs.Geometry.{page_count}
use Rattle.nm_migrator_work.specs.Works.{IsNewMigratorWork}
use Rattle.nm_migrator.specs.declared.migrating.Migrating.{Migrating}
use Rattle.nm_migrator.specs.declared.migrating.MigratingStage.TheVariants.{Unmarking, Over}
use Rattle.nm_migrator.specs.Stages.{UnmarksLeft, Gives}
use Rattle.nm_migrator.proofs.Giving.{gives-stage, gives-over}
use Rattle.nm_migrator.proofs.Fitting.{unmarks-one, unmarks-all}
use Rattle.nm_migrator.proofs.migrating.Migrating.unmark_from.Goals as goal

pub returns-then-page-pages-clause-next : goal.returns-then-page-pages-clause-next
returns-then-page-pages-clause-next c =
    let old = c.args.self.now in
    let within : c.args.page < page_count old.geometry.now = omega (arith, c.pages.ensures) in
    gives-stage IsNewMigratorWork old c.go.new.self (Unmarking c.args.page) c.go.result (UnmarksLeft old c.args.page) c.go.ensures.stage c.go.ensures.made c.go.ensures.new (c.requires, within) tt (unmarks-one old c.args.page within)

pub returns-else-page-pages-clause-next : goal.returns-else-page-pages-clause-next
returns-else-page-pages-clause-next c =
    let old = c.args.self.now in
    let past : page_count old.geometry.now ≤ c.args.page = omega (arith, c.pages.ensures) in
    let m : Migrating = record old { stage = Over } in
    subst (λ (x : Migrating). Gives IsNewMigratorWork old.geometry.now old.spent x c.go-else-page-pages.result (UnmarksLeft old c.args.page)) (sym c.go-else-page-pages.ensures.stage)
    (gives-over IsNewMigratorWork m c.go-else-page-pages.result (UnmarksLeft old c.args.page) refl c.go-else-page-pages.ensures.made c.requires (unmarks-all old c.args.page past))
