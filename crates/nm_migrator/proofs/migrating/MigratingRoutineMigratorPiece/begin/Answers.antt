use Rattle.std.proofs.Common.{ℕ, ap, sym, subst, refl}
use Rattle.nm_part.specs.Patterns.{Sometimes, CanEnd}
use Rattle.nm_view.specs.Opening.{opening}
use Rattle.nm_action.specs.declared.turn.Lane.TheVariants.{Candidates}
use Rattle.nm_migrator_work.specs.Works.{IsNewMigratorWork}
use Rattle.nm_migrator.specs.declared.migrating.MigratingStage.TheVariants.{TakingCandidate}
use Rattle.nm_migrator_work.specs.Planned.{MigratorKept, nothing_kept}
use Rattle.nm_migrator.specs.Migrating.{MigratorRounds, IsMigrating, IsMigratingBy}
use Rattle.nm_migrator.proofs.Giving.{gives-stage, gives-more}
use Rattle.nm_migrator.proofs.Ending.{some-migrating}
use Rattle.nm_migrator.proofs.Fitting.{candidates-fit}
use Rattle.nm_migrator.proofs.migrating.MigratingRoutineMigratorPiece.begin.Goals as goal

pub returns-clause-can : goal.returns-clause-can
returns-clause-can c =
    let old = c.args.self.now in
    subst (λ (n : ℕ). CanEnd (IsMigratingBy n old.geometry.now old.retry)) (sym c.requires.first) (some-migrating old.geometry.now old.retry)

pub returns-clause-next : goal.returns-clause-next
returns-clause-next c =
    let old = c.args.self.now in
    let new = c.requires in
    let g = old.geometry.now in
    gives-more IsNewMigratorWork g c.go.new.self (opening g g.cpus) c.go.result (IsMigrating g old.retry) (IsMigratingBy old.resumed.number g old.retry)
    (λ notes outcome h. subst (λ (n : ℕ). IsMigratingBy n g old.retry notes outcome) (sym new.first) h)
    (gives-stage IsNewMigratorWork old c.go.new.self TakingCandidate c.go.result (λ n. MigratorRounds old.geometry.now old.retry n Candidates (nothing_kept old.geometry.now)) c.go.ensures.stage c.go.ensures.made c.go.ensures.new new.kept tt
    (λ notes outcome s. subst (λ (k : MigratorKept). Sometimes (λ n. MigratorRounds old.geometry.now old.retry n Candidates k) notes outcome) new.aborts (candidates-fit old notes outcome s))
    _ (record {
      geometry = new.kept.has.geometry;
      empty = record { ops = refl; owned = refl; turn = refl };
      drawn = record { bumps = ap (λ (k : MigratorKept). k.spent.bumps) new.aborts; raises = ap (λ (k : MigratorKept). k.spent.raises) new.aborts };
    }))
