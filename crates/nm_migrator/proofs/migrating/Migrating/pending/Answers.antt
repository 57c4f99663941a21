use Rattle.std.proofs.Common.{ℕ, List, Option, Some, sym, subst}
use Rattle.nm_part.specs.Patterns.{Sometimes}
use Rattle.nm_migrator_work.specs.Works.{IsNewMigratorWork}
use Rattle.nm_migrator.specs.declared.migrating.Migrating.{Migrating}
use Rattle.nm_migrator.specs.declared.migrating.MigratingStage.TheVariants.{TakingPending, PuttingTwice}
use Rattle.nm_migrator.specs.Stages.{TakesLeft, PageLeft, AreTaken, Gives}
use Rattle.nm_migrator.proofs.Giving.{gives-stage, gives-fit}
use Rattle.nm_migrator.proofs.Planning.{is-mapped, taken-more}
use Rattle.nm_migrator.proofs.Fitting.{page-dropped, page-twice, page-taken}
use Rattle.nm_migrator.proofs.migrating.Migrating.pending.Goals as goal

pub take_pending-requires : goal.take_pending-requires
take_pending-requires c =
    let old = c.args.self.now in
    (c.requires.0.0, subst (λ (l : List ℕ). AreTaken old.geometry.now l) (sym c.push.ensures) (taken-more old.geometry.now old.taken c.in-Some.page c.requires.0.1 c.requires.1 (is-mapped old.geometry.now c.in-Some.page (sym c.if-not-is_mapped.ensures)) (sym c.if-is_among.ensures)))

pub returns-in-None-clause-next : goal.returns-in-None-clause-next
returns-in-None-clause-next c =
    let old = c.args.self.now in
    subst (λ (x : Option ℕ). Gives IsNewMigratorWork old.geometry.now old.spent c.all_taken.new.self c.all_taken.result (PageLeft old x)) (sym c.in-None.is) (c.all_taken.ensures.next)

pub returns-then-not-is_mapped-clause-next : goal.returns-then-not-is_mapped-clause-next
returns-then-not-is_mapped-clause-next c =
    let old = c.args.self.now in
    subst (λ (x : Option ℕ). Gives IsNewMigratorWork old.geometry.now old.spent c.go.new.self c.go.result (PageLeft old x)) (sym c.in-Some.is) (gives-stage IsNewMigratorWork old c.go.new.self TakingPending c.go.result (PageLeft old (Some c.in-Some.page)) c.go.ensures.stage c.go.ensures.made c.go.ensures.new (c.requires) tt (page-dropped old c.in-Some.page (sym c.if-not-is_mapped.ensures)))

pub returns-then-is_among-clause-next : goal.returns-then-is_among-clause-next
returns-then-is_among-clause-next c =
    let old = c.args.self.now in
    subst (λ (x : Option ℕ). Gives IsNewMigratorWork old.geometry.now old.spent c.go-then-is_among.new.self c.go-then-is_among.result (PageLeft old x)) (sym c.in-Some.is) (gives-stage IsNewMigratorWork old c.go-then-is_among.new.self (PuttingTwice c.in-Some.page) c.go-then-is_among.result (PageLeft old (Some c.in-Some.page)) c.go-then-is_among.ensures.stage c.go-then-is_among.ensures.made c.go-then-is_among.ensures.new (c.requires.0) tt (page-twice old c.in-Some.page (sym c.if-not-is_mapped.ensures) (sym c.if-is_among.ensures)))

pub returns-else-is_among-clause-next : goal.returns-else-is_among-clause-next
returns-else-is_among-clause-next c =
    let old = c.args.self.now in
    let m : Migrating = record old { taken = c.push.new.self } in
    subst (λ (x : Option ℕ). Gives IsNewMigratorWork old.geometry.now old.spent c.take_pending.new.self c.take_pending.result (PageLeft old x)) (sym c.in-Some.is) (gives-fit IsNewMigratorWork old.geometry.now old.spent c.take_pending.new.self c.take_pending.result (TakesLeft m) (PageLeft old (Some c.in-Some.page)) c.take_pending.ensures.next (λ notes outcome s. page-taken old c.in-Some.page (sym c.if-not-is_mapped.ensures) (sym c.if-is_among.ensures) notes outcome (subst (λ (l : List ℕ). Sometimes (TakesLeft (record old { taken = l })) notes outcome) c.push.ensures s)))
