use Rattle.std.proofs.Common.{ℕ, ◌+◌, [], ◌∷◌, ◌++◌, get_or, subst, sym}
use Rattle.std.proofs.lemmas.List.{get_or_default}
use Rattle.nm_action.specs.declared.kind.ActionKind.TheVariants.{Load}
use Rattle.nm_script.specs.declared.schedule.PlanItem.{PlanItem}
use Rattle.nm_schedule.specs.Standing.{IsAtItem, IsSpent}
use Rattle.nm_schedule.proofs.Noting.{over-after, item-after}
use Rattle.nm_schedule.proofs.picker.way_after_item.Goals as goal

pub returns-then-is_spent : goal.returns-then-is_spent
returns-then-is_spent c = λ schedule actors before active plan pick at same.
    let x : PlanItem = get_or c.args.items.now c.args.place (record { actor = 0; kind = Load; count = 0 }) in
    let S : ℕ → Type 0 = λ n. IsSpent x (c.args.made + 1) n c.args.played.ended in
    c.way_from.ensures schedule actors (before ++ c.args.played ∷ []) active plan
    (over-after schedule actors c.args.items.now c.args.place c.args.made c.args.counted before c.args.played x c.is_counted-counts.result at same c.requires.place
    (get_or_default c.args.items.now c.args.place (record { actor = 0; kind = Load; count = 0 }) x c.requires.place) c.is_counted-counts.ensures
    (subst S c.counted_with-counted.ensures (c.is_spent.ensures.0 c.if-is_spent.true)))

pub returns-else-is_spent : goal.returns-else-is_spent
returns-else-is_spent c = λ schedule actors before active plan pick at same.
    let x : PlanItem = get_or c.args.items.now c.args.place (record { actor = 0; kind = Load; count = 0 }) in
    let S : ℕ → Type 0 = λ n. IsSpent x (c.args.made + 1) n c.args.played.ended in
    let A : ℕ → Type 0 = λ n. IsAtItem schedule actors c.args.items.now c.args.place (c.args.made + 1) n (before ++ c.args.played ∷ []) in
    subst A (sym c.counted_with-counted.ensures)
    (item-after schedule actors c.args.items.now c.args.place c.args.made c.args.counted before c.args.played x c.is_counted-counts.result at same c.requires.place
    (get_or_default c.args.items.now c.args.place (record { actor = 0; kind = Load; count = 0 }) x c.requires.place) c.is_counted-counts.ensures
    (λ s. let t = c.is_spent.ensures.1 (subst S (sym c.counted_with-counted.ensures) s) in let f = c.if-is_spent.false in cc (t, f)) pick.active)
