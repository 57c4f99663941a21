use Rattle.std.proofs.Common.{sym, subst}
use Rattle.nm_action.specs.declared.action.Reply.{Reply}
use Rattle.nm_action.specs.declared.action.Reply.TheVariants as replies
use Rattle.nm_migrator_work.specs.Works.{IsNewMigratorWork}
use Rattle.nm_migrator.specs.declared.migrating.MigratingStage.TheVariants.{TakingCandidate, PuttingHot}
use Rattle.nm_migrator.specs.Stages.{HeatedLeft, Gives}
use Rattle.nm_migrator.proofs.Giving.{gives-stage}
use Rattle.nm_migrator.proofs.Fitting.{candidates-fit}
use Rattle.nm_migrator.proofs.migrating.Migrating.heated.Goals as goal

pub returns-in-Done-clause-next : goal.returns-in-Done-clause-next
returns-in-Done-clause-next c =
    let old = c.args.self.now in
    subst (λ (x : Reply). Gives IsNewMigratorWork old.geometry.now old.spent c.go.new.self c.go.result (HeatedLeft old c.args.page x)) (sym c.in-Done.is) (gives-stage IsNewMigratorWork old c.go.new.self (PuttingHot c.args.page) c.go.result (HeatedLeft old c.args.page replies.Done) c.go.ensures.stage c.go.ensures.made c.go.ensures.new (c.requires) tt (λ notes outcome s. s))

pub returns-in-Word-clause-next : goal.returns-in-Word-clause-next
returns-in-Word-clause-next c =
    let old = c.args.self.now in
    subst (λ (x : Reply). Gives IsNewMigratorWork old.geometry.now old.spent c.go-in-Word.new.self c.go-in-Word.result (HeatedLeft old c.args.page x)) (sym c.in-Word.is) (gives-stage IsNewMigratorWork old c.go-in-Word.new.self TakingCandidate c.go-in-Word.result (HeatedLeft old c.args.page (replies.Word c.in-Word.field-0)) c.go-in-Word.ensures.stage c.go-in-Word.ensures.made c.go-in-Word.ensures.new (c.requires.0) tt (candidates-fit old))

pub returns-in-Busy-clause-next : goal.returns-in-Busy-clause-next
returns-in-Busy-clause-next c =
    let old = c.args.self.now in
    subst (λ (x : Reply). Gives IsNewMigratorWork old.geometry.now old.spent c.go-in-Busy.new.self c.go-in-Busy.result (HeatedLeft old c.args.page x)) (sym c.in-Busy.is) (gives-stage IsNewMigratorWork old c.go-in-Busy.new.self TakingCandidate c.go-in-Busy.result (HeatedLeft old c.args.page (replies.Busy c.in-Busy.field-0)) c.go-in-Busy.ensures.stage c.go-in-Busy.ensures.made c.go-in-Busy.ensures.new (c.requires.0) tt (candidates-fit old))

pub returns-in-Lost-clause-next : goal.returns-in-Lost-clause-next
returns-in-Lost-clause-next c =
    let old = c.args.self.now in
    subst (λ (x : Reply). Gives IsNewMigratorWork old.geometry.now old.spent c.go-in-Lost.new.self c.go-in-Lost.result (HeatedLeft old c.args.page x)) (sym c.in-Lost.is) (gives-stage IsNewMigratorWork old c.go-in-Lost.new.self TakingCandidate c.go-in-Lost.result (HeatedLeft old c.args.page (replies.Lost c.in-Lost.field-0)) c.go-in-Lost.ensures.stage c.go-in-Lost.ensures.made c.go-in-Lost.ensures.new (c.requires.0) tt (candidates-fit old))
