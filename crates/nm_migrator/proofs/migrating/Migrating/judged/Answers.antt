use Rattle.std.proofs.Common.{◌≡◌, Bool, true, false, length, sym, ap, ◌∙◌, subst, arith}
use Rattle.std.proofs.Math.ListN.{length-set}
use Rattle.nm_migrator_work.specs.Works.{IsNewMigratorWork}
use Rattle.nm_migrator.specs.declared.migrating.Migrating.{Migrating}
use Rattle.nm_migrator.specs.declared.migrating.MigratingStage.TheVariants.{Heating, Cooling}
use Rattle.nm_base.specs.Geometry.{page_count}
use Rattle.nm_migrator_work.proofs.Beginning.{mapped-is-page}
use Rattle.nm_migrator.specs.Stages.{JudgedLeft, Gives}
use Rattle.nm_migrator.proofs.Giving.{gives-stage}
use Rattle.nm_migrator.proofs.Fitting.{heats-fit}
use Rattle.nm_migrator.proofs.migrating.Migrating.judged.Goals as goal

pub clear_aborts-requires : goal.clear_aborts-requires
clear_aborts-requires c =
    let old = c.args.self.now in
    let at = mapped-is-page old.geometry.now c.args.page c.requires.1 in
    let counts = c.requires.0.has.counts in
    omega arith

pub returns-then-hot-clause-next : goal.returns-then-hot-clause-next
returns-then-hot-clause-next c =
    let old = c.args.self.now in
    let m : Migrating = record old { aborts = c.clear_aborts.new.aborts } in
    let counts : length m.aborts.items ≡ page_count old.geometry.now = ap length c.clear_aborts.ensures ∙ length-set old.aborts.items c.args.page 0 ∙ c.requires.0.has.counts in
    subst (λ (x : Bool). Gives IsNewMigratorWork old.geometry.now old.spent c.go.new.self c.go.result (JudgedLeft old c.args.page x)) (sym c.if-hot.true) (gives-stage IsNewMigratorWork m c.go.new.self (Heating c.args.page) c.go.result (JudgedLeft old c.args.page true) c.go.ensures.stage c.go.ensures.made c.go.ensures.new (record { has = record { geometry = c.requires.0.has.geometry; counts = counts }; words = c.requires.0.words }, c.requires.1) tt (heats-fit old c.args.page m.aborts.items c.clear_aborts.ensures))

pub returns-else-hot-clause-next : goal.returns-else-hot-clause-next
returns-else-hot-clause-next c =
    let old = c.args.self.now in
    subst (λ (x : Bool). Gives IsNewMigratorWork old.geometry.now old.spent c.go-else-hot.new.self c.go-else-hot.result (JudgedLeft old c.args.page x)) (sym c.if-hot.false) (gives-stage IsNewMigratorWork old c.go-else-hot.new.self (Cooling c.args.page) c.go-else-hot.result (JudgedLeft old c.args.page false) c.go-else-hot.ensures.stage c.go-else-hot.ensures.made c.go-else-hot.ensures.new (c.requires) tt (λ notes outcome s. s))
