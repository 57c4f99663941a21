use Rattle.std.proofs.Common.{◌≡◌, ◌≤◌, ◌++◌, ℕ, List, length, map, take, drop, refl, ap, ◌∙◌, arith}
use Rattle.std.specs.Vec.{with_items}
use Rattle.std.proofs.lemmas.List.{take_all, drop_all, append-nil, with_items_is}
use Rattle.std.proofs.lemmas.List.Edits.{map_over_more}
use Rattle.nm_xlat.specs.FullyAssociative.{FullyAssociative}
use Rattle.nm_setcache.proofs.Loops.{cleared, AreSets-cleared, entries_of_sets-cleared, view-cleared}
use Rattle.nm_setcache.proofs.set_cache.SetCacheTranslations.clear.Goals as goal

-- one more set is cleared
pub loop-set-preserved : goal.loop-set-preserved
loop-set-preserved c =
    rw (c.clear.ensures.whole, ← c.set-item.is) (map_over_more cleared c.deref_mut-set-items.result.now c.loop-set.set-items c.loop-set.set-index c.set-item.result c.loop-set-test.true c.loop-set.invariant c.set-item.is)

-- past the last set, every set is
whole_map : (ss ts : List FullyAssociative) (i : ℕ) → length ss ≤ i → ts ≡ map cleared (take i ss) ++ drop i ss → ts ≡ map cleared ss
whole_map ss ts i l h = rw (take_all i ss l, drop_all i ss l, append-nil) at h

all_cleared : (c : goal.After-self-1) → (with_items c.self.inside.sets c.loop-set.set-items).items ≡ map cleared c.self.inside.sets.items
all_cleared c =
    let all = whole_map c.deref_mut-set-items.result.now c.loop-set.set-items c.loop-set.set-index c.loop-set-test.false c.loop-set.invariant in
    with_items_is c.self.inside.sets c.loop-set.set-items (omega (arith, c.loop-set.auto.set-items, c.deref_mut-set-items.ensures.len)) ∙ all ∙ ap (map cleared) c.deref_mut-set-items.ensures.value

pub invariant_of-self : goal.invariant_of-self
invariant_of-self c = rw (all_cleared c) (AreSets-cleared c.self.inside.sets.items c.self.invariant)

pub returns-clause-every_page : goal.returns-clause-every_page
returns-clause-every_page c = λ w. rw (all_cleared c, entries_of_sets-cleared c.self.inside.sets.items) refl

pub returns-clause-whole : goal.returns-clause-whole
returns-clause-whole c = rw (← c.self.view_is, all_cleared c) (view-cleared c.self.inside.sets.items)
