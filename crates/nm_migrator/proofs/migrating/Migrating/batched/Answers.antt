use Rattle.std.proofs.Common.{◌≡◌, ◌≤◌, length, ap, ◌∙◌, arith}
use Rattle.nm_migrator_work.specs.Works.{IsNewMigratorWork}
use Rattle.nm_migrator.specs.declared.migrating.Migrating.{Migrating}
use Rattle.nm_base.specs.Geometry.{page_count}
use Rattle.nm_migrator_work.specs.Planned.{most_taken}
use Rattle.nm_migrator.specs.Stages.{BatchedLeft, AgainLeft}
use Rattle.nm_migrator_work.proofs.Counting.{aborts-length}
use Rattle.nm_migrator.proofs.Giving.{gives-fit}
use Rattle.nm_migrator.proofs.Fitting.{again-starts}
use Rattle.nm_migrator.proofs.migrating.Migrating.batched.Goals as goal

pub returns-clause-next : goal.returns-clause-next
returns-clause-next c =
    let old = c.args.self.now in
    let m : Migrating = record old { aborts = c.count_aborts_in.new.aborts; again = c.again_of-self.result; spent = c.args.told.spent } in
    gives-fit IsNewMigratorWork old.geometry.now c.args.told.spent c.again_from.new.self c.again_from.result (AgainLeft m 0) (BatchedLeft old c.args.told) c.again_from.ensures.next (again-starts old c.args.told m.aborts.items m.again c.count_aborts_in.ensures c.again_of-self.ensures.pages)

pub again_from-requires : goal.again_from-requires
again_from-requires c =
    let old = c.args.self.now in
    let plan = c.requires.0.1 in
    let kept = c.requires.0.0 in
    let counts : length c.count_aborts_in.new.aborts.items ≡ page_count old.geometry.now = ap length c.count_aborts_in.ensures ∙ aborts-length old.pieces c.args.told.end old.aborts.items ∙ kept.has.counts in
    let few : length old.moves ≤ most_taken = omega (arith, plan.few) in
    ((record { has = record { geometry = kept.has.geometry; counts = counts }; words = kept.words }, plan.moves, few), c.again_of-self.ensures.few)
