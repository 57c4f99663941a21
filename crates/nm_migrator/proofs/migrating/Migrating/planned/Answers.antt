use Rattle.std.proofs.Common.{◌≡◌, ◌≤◌, ◌+◌, ◌++◌, ◌∷◌, ℕ, true, false, List, [], length, slice_index, drop, sym, ap, ◌∙◌, subst, arith}
use Rattle.std.proofs.lemmas.List.Elements.{All-head}
use Rattle.nm_batch.proofs.Lists.{drop-within}
use Rattle.nm_migrator_work.specs.Works.{IsNewMigratorWork}
use Rattle.nm_migrator.specs.declared.migrating.Migrating.{Migrating}
use Rattle.nm_vpages.specs.VPages.{vpages_of}
use Rattle.nm_migrator_work.proofs.Beginning.{mapped-is-page}
use Rattle.nm_migrator_work.specs.Planned.{first_or, is_moved_locked}
use Rattle.nm_migrator.specs.Stages.{migrator_plan, PlansLeft, PlannedLeft, IsMappedPage, IsPlanWith}
use Rattle.nm_migrator.proofs.Giving.{gives-fit}
use Rattle.nm_migrator.proofs.Planning.{plan-move, plan-piece, some-move}
use Rattle.nm_migrator.proofs.Fitting.{planned-moves, planned-pieces}
use Rattle.nm_migrator.proofs.migrating.Migrating.planned.Goals as goal

pub aborts_of-aborts-requires : goal.aborts_of-aborts-requires
aborts_of-aborts-requires c =
    let old = c.args.self.now in
    let rest : List ℕ = drop (c.args.index + 1) old.taken in
    let plan : IsPlanWith old.geometry.now (migrator_plan old) (c.args.page ∷ rest) = subst (λ (l : List ℕ). IsPlanWith old.geometry.now (migrator_plan old) l) c.requires.1 c.requires.0.1 in
    let at = mapped-is-page old.geometry.now c.args.page (All-head (IsMappedPage old.geometry.now) c.args.page rest plan.mapped) in
    let counts = c.requires.0.0.has.counts in
    omega (arith, c.deref.ensures)

pub overflow_add-index : goal.overflow_add-index
overflow_add-index c =
    let old = c.args.self.now in
    let at = drop-within c.args.index old.taken _ _ c.requires.1 in
    let few = c.requires.0.2 in
    omega arith

pub overflow_add-index-else-is_moved_locked : goal.overflow_add-index-else-is_moved_locked
overflow_add-index-else-is_moved_locked c =
    let old = c.args.self.now in
    let at = drop-within c.args.index old.taken _ _ c.requires.1 in
    let few = c.requires.0.2 in
    omega arith

pub plan_from-requires : goal.plan_from-requires
plan_from-requires c =
    let old = c.args.self.now in
    let rest : List ℕ = drop (c.args.index + 1) old.taken in
    let plan : IsPlanWith old.geometry.now (migrator_plan old) (c.args.page ∷ rest) = subst (λ (l : List ℕ). IsPlanWith old.geometry.now (migrator_plan old) l) c.requires.1 c.requires.0.1 in
    let some : 1 ≤ c.len-count.result = some-move old.retry c.aborts_of-aborts.result c.len-count.result (sym c.if-is_moved_locked.ensures) in
    (c.requires.0.0, subst (λ (l : List (ℕ × ℕ)). IsPlanWith old.geometry.now (record { pieces = old.pieces; moves = l }) rest) (sym c.push.ensures) (plan-move old.geometry.now (migrator_plan old) c.args.page c.len-count.result rest some plan), c.requires.0.2)

pub plan_from-requires-else-is_moved_locked : goal.plan_from-requires-else-is_moved_locked
plan_from-requires-else-is_moved_locked c =
    let old = c.args.self.now in
    let rest : List ℕ = drop (c.args.index + 1) old.taken in
    let plan : IsPlanWith old.geometry.now (migrator_plan old) (c.args.page ∷ rest) = subst (λ (l : List ℕ). IsPlanWith old.geometry.now (migrator_plan old) l) c.requires.1 c.requires.0.1 in
    (c.requires.0.0, subst (λ (l : List (ℕ × ℕ)). IsPlanWith old.geometry.now (record { pieces = l; moves = old.moves }) rest) (sym c.push-else-is_moved_locked.ensures) (plan-piece old.geometry.now (migrator_plan old) c.args.page c.first_or-vpage.result rest plan), c.requires.0.2)

pub returns-then-is_moved_locked-clause-next : goal.returns-then-is_moved_locked-clause-next
returns-then-is_moved_locked-clause-next c =
    let old = c.args.self.now in
    let m : Migrating = record old { moves = c.push.new.self } in
    let same : c.deref.result.now ≡ old.aborts.items = cc in
    let test : is_moved_locked old.retry (slice_index old.aborts.items c.args.page) (length c.args.mapped) ≡ true = ap (λ (l : List ℕ). is_moved_locked old.retry (slice_index l c.args.page) (length c.args.mapped)) (sym same) ∙ ap (λ (k : ℕ). is_moved_locked old.retry k (length c.args.mapped)) (sym c.aborts_of-aborts.ensures) ∙ ap (λ (k : ℕ). is_moved_locked old.retry c.aborts_of-aborts.result k) (sym c.len-count.ensures.count) ∙ sym c.if-is_moved_locked.ensures in
    let moves : m.moves ≡ old.moves ++ (c.args.page, length c.args.mapped) ∷ [] = c.push.ensures ∙ ap (λ (k : ℕ). old.moves ++ (c.args.page, k) ∷ []) c.len-count.ensures.count in
    gives-fit IsNewMigratorWork old.geometry.now old.spent c.plan_from.new.self c.plan_from.result (PlansLeft m (c.args.index + 1) (migrator_plan m)) (PlannedLeft old c.args.index c.args.page c.args.mapped) c.plan_from.ensures.next (planned-moves old c.args.index c.args.page c.args.mapped m.moves test moves)

pub returns-else-is_moved_locked-clause-next : goal.returns-else-is_moved_locked-clause-next
returns-else-is_moved_locked-clause-next c =
    let old = c.args.self.now in
    let m : Migrating = record old { pieces = c.push-else-is_moved_locked.new.self } in
    let same : c.deref.result.now ≡ old.aborts.items = cc in
    let test : is_moved_locked old.retry (slice_index old.aborts.items c.args.page) (length c.args.mapped) ≡ false = ap (λ (l : List ℕ). is_moved_locked old.retry (slice_index l c.args.page) (length c.args.mapped)) (sym same) ∙ ap (λ (k : ℕ). is_moved_locked old.retry k (length c.args.mapped)) (sym c.aborts_of-aborts.ensures) ∙ ap (λ (k : ℕ). is_moved_locked old.retry c.aborts_of-aborts.result k) (sym c.len-count.ensures.count) ∙ sym c.if-is_moved_locked.ensures in
    let v : c.first_or-vpage.result ≡ first_or c.args.mapped (vpages_of old.geometry.now c.args.page) = c.first_or-vpage.ensures ∙ ap (first_or c.args.mapped) c.of_page.ensures in
    let pieces : m.pieces ≡ old.pieces ++ (c.args.page, first_or c.args.mapped (vpages_of old.geometry.now c.args.page)) ∷ [] = c.push-else-is_moved_locked.ensures ∙ ap (λ (k : ℕ). old.pieces ++ (c.args.page, k) ∷ []) v in
    gives-fit IsNewMigratorWork old.geometry.now old.spent c.plan_from-else-is_moved_locked.new.self c.plan_from-else-is_moved_locked.result (PlansLeft m (c.args.index + 1) (migrator_plan m)) (PlannedLeft old c.args.index c.args.page c.args.mapped) c.plan_from-else-is_moved_locked.ensures.next (planned-pieces old c.args.index c.args.page c.args.mapped m.pieces test pieces)
