use Rattle.std.proofs.Common.{◌≡◌, ◌%◌, length, set, ap, ◌∙◌, arith}
use Rattle.nm_xlat.specs.declared.xlat_cache.CachedPage.{CachedPage}
use Rattle.nm_xlat.specs.Entries.{put_entry, staying_entries}
use Rattle.nm_xlat.specs.FullyAssociative.{put_in}
use Rattle.nm_xlat.proofs.Lookups.{this_page_at-put, other_pages_at-put}
use Rattle.nm_setcache.specs.SetAssociative.{entries_of_set}
use Rattle.nm_setcache.specs.Sets.{entries_of_sets, ways_of}
use Rattle.nm_setcache.proofs.Updates.{AreSets-put, view-put, set_at, entries_of_sets-put}
use Rattle.nm_setcache.proofs.set_cache.SetCacheTranslations.put.Goals as goal

-- the sets after the put
sets_after : (c : goal.After-self-1) → set c.self.inside.sets.items (c.args.v % c.len.result) c.put.new.self ≡ set c.self.inside.sets.items (c.args.v % length c.self.inside.sets.items) (put_in (record { page = c.args.v; entry = record { frame = c.args.frame; dirty = c.args.dirty; stamp = c.args.stamp } }) (set_at c.self.inside.sets.items c.args.v c.index_mut.result.now))
sets_after c =
    let ss = c.self.inside.sets.items in
    let put : CachedPage = record { page = c.args.v; entry = record { frame = c.args.frame; dirty = c.args.dirty; stamp = c.args.stamp } } in
    let len : c.len.result ≡ length ss = omega (arith, c.self.inside.sets.ok.0) in
    let read : c.index_mut.result.now ≡ set_at ss c.args.v c.index_mut.result.now = rw len at c.index_mut.ensures.value in
    rw (len, c.put.ensures.whole) (ap (λ s. set ss (c.args.v % length ss) (put_in put s)) read)

pub invariant_of-self : goal.invariant_of-self
invariant_of-self c =
    let put : CachedPage = record { page = c.args.v; entry = record { frame = c.args.frame; dirty = c.args.dirty; stamp = c.args.stamp } } in
    rw (sets_after c) (AreSets-put c.self.inside.sets.items c.self.invariant put c.index_mut.result.now)

pub returns-clause-whole : goal.returns-clause-whole
returns-clause-whole c =
    let put : CachedPage = record { page = c.args.v; entry = record { frame = c.args.frame; dirty = c.args.dirty; stamp = c.args.stamp } } in
    rw (← c.self.view_is, sets_after c) (view-put c.self.inside.sets.items c.self.invariant put c.index_mut.result.now)

entries_after : (c : goal.After-self-1) → entries_of_sets (set c.self.inside.sets.items (c.args.v % c.len.result) c.put.new.self) ≡ put_entry (record { page = c.args.v; entry = record { frame = c.args.frame; dirty = c.args.dirty; stamp = c.args.stamp } }) (staying_entries (ways_of c.self.inside.sets.items) c.args.v (entries_of_set (length c.self.inside.sets.items) c.args.v (entries_of_sets c.self.inside.sets.items)) (entries_of_sets c.self.inside.sets.items))
entries_after c =
    let put : CachedPage = record { page = c.args.v; entry = record { frame = c.args.frame; dirty = c.args.dirty; stamp = c.args.stamp } } in
    ap entries_of_sets (sets_after c) ∙ entries_of_sets-put c.self.inside.sets.items c.self.invariant put c.index_mut.result.now

pub returns-clause-this_page : goal.returns-clause-this_page
returns-clause-this_page c =
    let ss = c.self.inside.sets.items in
    let xs = entries_of_sets ss in
    let put : CachedPage = record { page = c.args.v; entry = record { frame = c.args.frame; dirty = c.args.dirty; stamp = c.args.stamp } } in
    rw (entries_after c) (this_page_at-put put (staying_entries (ways_of ss) c.args.v (entries_of_set (length ss) c.args.v xs) xs))

pub returns-clause-other_pages : goal.returns-clause-other_pages
returns-clause-other_pages c = λ w ne.
    let ss = c.self.inside.sets.items in
    let xs = entries_of_sets ss in
    let put : CachedPage = record { page = c.args.v; entry = record { frame = c.args.frame; dirty = c.args.dirty; stamp = c.args.stamp } } in
    rw (← c.self.view_is, entries_after c) (other_pages_at-put put (ways_of ss) (entries_of_set (length ss) c.args.v xs) xs w ne)
