use Rattle.std.proofs.Common.{ℕ, Option, Some, sym, subst}
use Rattle.nm_migrator_work.specs.Works.{IsNewMigratorWork}
use Rattle.nm_migrator.specs.declared.migrating.MigratingStage.TheVariants.{TakingCandidate, Judging}
use Rattle.nm_migrator.specs.Stages.{CandidateLeft, Gives}
use Rattle.nm_migrator.proofs.Giving.{gives-stage}
use Rattle.nm_migrator.proofs.Planning.{is-mapped}
use Rattle.nm_migrator.proofs.Fitting.{candidate-judged, candidate-dropped}
use Rattle.nm_migrator.proofs.migrating.Migrating.candidate.Goals as goal

pub returns-in-None-clause-next : goal.returns-in-None-clause-next
returns-in-None-clause-next c =
    let old = c.args.self.now in
    subst (λ (x : Option ℕ). Gives IsNewMigratorWork old.geometry.now old.spent c.begin_pending.new.self c.begin_pending.result (CandidateLeft old x)) (sym c.in-None.is) (c.begin_pending.ensures.next)

pub returns-then-is_mapped-clause-next : goal.returns-then-is_mapped-clause-next
returns-then-is_mapped-clause-next c =
    let old = c.args.self.now in
    subst (λ (x : Option ℕ). Gives IsNewMigratorWork old.geometry.now old.spent c.go.new.self c.go.result (CandidateLeft old x)) (sym c.in-Some.is) (gives-stage IsNewMigratorWork old c.go.new.self (Judging c.in-Some.page) c.go.result (CandidateLeft old (Some c.in-Some.page)) c.go.ensures.stage c.go.ensures.made c.go.ensures.new (c.requires, is-mapped old.geometry.now c.in-Some.page (sym c.if-is_mapped.ensures)) tt (candidate-judged old c.in-Some.page (sym c.if-is_mapped.ensures)))

pub returns-else-is_mapped-clause-next : goal.returns-else-is_mapped-clause-next
returns-else-is_mapped-clause-next c =
    let old = c.args.self.now in
    subst (λ (x : Option ℕ). Gives IsNewMigratorWork old.geometry.now old.spent c.go-else-is_mapped.new.self c.go-else-is_mapped.result (CandidateLeft old x)) (sym c.in-Some.is) (gives-stage IsNewMigratorWork old c.go-else-is_mapped.new.self TakingCandidate c.go-else-is_mapped.result (CandidateLeft old (Some c.in-Some.page)) c.go-else-is_mapped.ensures.stage c.go-else-is_mapped.ensures.made c.go-else-is_mapped.ensures.new (c.requires) tt (candidate-dropped old c.in-Some.page (sym c.if-is_mapped.ensures)))
