use Rattle.std.proofs.Common.{◌≡◌, refl, sym, ◌∙◌, arith}
use Rattle.std.proofs.lemmas.Bool.Decides.{nat_tests}
use Rattle.nm_xlat.specs.Entries.{entries_without}
use Rattle.nm_xlat.proofs.Lookups.{entry_at-entries_without}
use Rattle.nm_xlat.proofs.Ascending.{IsAscending-entries_without}
use Rattle.nm_xlat.proofs.Placed.{at_within, entry_at-gap, entries_without-at, entries_without-gap}
use Rattle.nm_xlat.proofs.xlat_cache.XlatCacheTranslations.drop_entry.Goals as goal

-- the page has an entry, which is removed
pub remove-requires : goal.remove-requires
remove-requires c =
    let found = rw (← c.self.view_is) at c.in-Ok.ensures.found in
    omega (arith, at_within _ _ _ found)

removed : (c : goal.After-remove) → c.remove.new.self.items ≡ entries_without c.args.v c.self.inside.entries.items
removed c =
    let found = rw (← c.self.view_is) at c.in-Ok.ensures.found in
    c.remove.ensures.items ∙ sym (entries_without-at _ _ _ c.self.invariant.0 found)

pub invariant_of-self : goal.invariant_of-self
invariant_of-self c =
    (rw (removed c) (IsAscending-entries_without _ _ c.self.invariant.0), c.self.invariant.1, omega (arith, c.self.invariant), omega (arith, c.self.invariant))

pub returns-in-Ok-clause-this_page : goal.returns-in-Ok-clause-this_page
returns-in-Ok-clause-this_page c =
    rw (removed c) (grind (arith, nat_tests, entry_at-entries_without c.args.v c.args.v c.self.inside.entries.items))

pub returns-in-Ok-clause-other_pages : goal.returns-in-Ok-clause-other_pages
returns-in-Ok-clause-other_pages c = λ w ne.
    rw (removed c, ← c.self.view_is) (grind (arith, nat_tests, entry_at-entries_without w c.args.v c.self.inside.entries.items))

pub returns-in-Ok-clause-whole : goal.returns-in-Ok-clause-whole
returns-in-Ok-clause-whole c = rw (← c.self.view_is, removed c) refl

-- the page has none
pub returns-in_default-clause-this_page : goal.returns-in_default-clause-this_page
returns-in_default-clause-this_page c =
    let gap = rw (← c.self.view_is) at c.in_default.ensures.absent in
    rw (← c.self.view_is) (entry_at-gap _ _ _ c.self.invariant.0 gap)

pub returns-in_default-clause-whole : goal.returns-in_default-clause-whole
returns-in_default-clause-whole c =
    let gap = rw (← c.self.view_is) at c.in_default.ensures.absent in
    rw (← c.self.view_is, entries_without-gap _ _ _ c.self.invariant.0 gap) refl
