use Rattle.nm_xlat.specs.declared.xlat_cache.CachedPage.{CachedPage}
use Rattle.nm_xlat.specs.Entries.{staying_entries}
use Rattle.nm_xlat.proofs.Lookups.{this_page_at-put, other_pages_at-put}
use Rattle.nm_xlat.proofs.xlat_cache.XlatCacheTranslations.put.Goals as goal

pub returns-clause-this_page : goal.returns-clause-this_page
returns-clause-this_page c =
    let put : CachedPage = record { page = c.args.v; entry = record { frame = c.args.frame; dirty = c.args.dirty; stamp = c.args.stamp } } in
    let old = c.args.self.now in
    rw c.put_page.ensures (this_page_at-put put (staying_entries old.room put.page old.entries old.entries))

pub returns-clause-other_pages : goal.returns-clause-other_pages
returns-clause-other_pages c = λ w ne.
    let put : CachedPage = record { page = c.args.v; entry = record { frame = c.args.frame; dirty = c.args.dirty; stamp = c.args.stamp } } in
    let old = c.args.self.now in
    rw c.put_page.ensures (other_pages_at-put put old.room old.entries old.entries w ne)
