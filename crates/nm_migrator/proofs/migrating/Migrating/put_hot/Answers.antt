use Rattle.std.proofs.Common.{ℕ, Bool, true, false, sym, subst}
use Rattle.nm_migrator_work.specs.Works.{IsNewMigratorWork}
use Rattle.nm_migrator.specs.declared.migrating.MigratingStage.TheVariants.{TakingCandidate, PuttingHot}
use Rattle.nm_migrator.specs.Stages.{PutLeft, CandidatesLeft, Gives}
use Rattle.nm_migrator.proofs.Giving.{gives-stage}
use Rattle.nm_migrator.proofs.Fitting.{candidates-fit}
use Rattle.nm_migrator.proofs.migrating.Migrating.put_hot.Goals as goal

pub returns-then-full-clause-next : goal.returns-then-full-clause-next
returns-then-full-clause-next c =
    let old = c.args.self.now in
    subst (λ (x : Bool). Gives IsNewMigratorWork old.geometry.now old.spent c.go.new.self c.go.result (λ (n : ℕ). PutLeft c.args.page x (CandidatesLeft old n))) (sym c.if-full.true) (gives-stage IsNewMigratorWork old c.go.new.self (PuttingHot c.args.page) c.go.result (λ (n : ℕ). PutLeft c.args.page true (CandidatesLeft old n)) c.go.ensures.stage c.go.ensures.made c.go.ensures.new (c.requires) tt (λ notes outcome s. s))

pub returns-else-full-clause-next : goal.returns-else-full-clause-next
returns-else-full-clause-next c =
    let old = c.args.self.now in
    subst (λ (x : Bool). Gives IsNewMigratorWork old.geometry.now old.spent c.go-else-full.new.self c.go-else-full.result (λ (n : ℕ). PutLeft c.args.page x (CandidatesLeft old n))) (sym c.if-full.false) (gives-stage IsNewMigratorWork old c.go-else-full.new.self TakingCandidate c.go-else-full.result (λ (n : ℕ). PutLeft c.args.page false (CandidatesLeft old n)) c.go-else-full.ensures.stage c.go-else-full.ensures.made c.go-else-full.ensures.new (c.requires.0) tt (candidates-fit old))
