use Rattle.std.proofs.Common.{◌≡◌, ◌%◌, length, set, ap, ◌∙◌, arith}
use Rattle.std.proofs.lemmas.Bool.Decides.{nat_tests}
use Rattle.nm_xlat.specs.Entries.{entries_without}
use Rattle.nm_xlat.proofs.Lookups.{entry_at-entries_without}
use Rattle.nm_setcache.specs.Sets.{entries_of_sets}
use Rattle.nm_setcache.proofs.Updates.{AreSets-drop, view-drop, set_at, drop_in, entries_of_sets-drop}
use Rattle.nm_setcache.proofs.set_cache.SetCacheTranslations.drop_entry.Goals as goal

-- the sets after the drop
sets_after : (c : goal.After-self-1) → set c.self.inside.sets.items (c.args.v % c.len.result) c.drop_entry.new.self ≡ set c.self.inside.sets.items (c.args.v % length c.self.inside.sets.items) (drop_in c.args.v (set_at c.self.inside.sets.items c.args.v c.index_mut.result.now))
sets_after c =
    let ss = c.self.inside.sets.items in
    let len : c.len.result ≡ length ss = omega (arith, c.self.inside.sets.ok.0) in
    let read : c.index_mut.result.now ≡ set_at ss c.args.v c.index_mut.result.now = rw len at c.index_mut.ensures.value in
    rw (len, c.drop_entry.ensures.whole) (ap (λ s. set ss (c.args.v % length ss) (drop_in c.args.v s)) read)

pub invariant_of-self : goal.invariant_of-self
invariant_of-self c = rw (sets_after c) (AreSets-drop c.self.inside.sets.items c.self.invariant c.args.v c.index_mut.result.now)

pub returns-clause-whole : goal.returns-clause-whole
returns-clause-whole c = rw (← c.self.view_is, sets_after c) (view-drop c.self.inside.sets.items c.self.invariant c.args.v c.index_mut.result.now)

entries_after : (c : goal.After-self-1) → entries_of_sets (set c.self.inside.sets.items (c.args.v % c.len.result) c.drop_entry.new.self) ≡ entries_without c.args.v (entries_of_sets c.self.inside.sets.items)
entries_after c = ap entries_of_sets (sets_after c) ∙ entries_of_sets-drop c.self.inside.sets.items c.self.invariant c.args.v c.index_mut.result.now

pub returns-clause-this_page : goal.returns-clause-this_page
returns-clause-this_page c =
    rw (entries_after c) (grind (arith, nat_tests, entry_at-entries_without c.args.v c.args.v (entries_of_sets c.self.inside.sets.items)))

pub returns-clause-other_pages : goal.returns-clause-other_pages
returns-clause-other_pages c = λ w ne.
    rw (← c.self.view_is, entries_after c) (grind (arith, nat_tests, entry_at-entries_without w c.args.v (entries_of_sets c.self.inside.sets.items)))
