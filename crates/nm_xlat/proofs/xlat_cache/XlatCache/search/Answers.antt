use Rattle.std.proofs.Common.{rules}
use Rattle.std.proofs.lemmas.List.Sorted.{answers_always}
use Rattle.nm_xlat.proofs.Placed.{searched}
use Rattle.nm_xlat.proofs.xlat_cache.XlatCache.search.Goals as goal

-- the closure gives an entry's page, and the slice is the cache's entries
pub returns : goal.returns
returns c =
    let facts = c.binary_search_by_key.ensures in
    let by_page = facts.position (λ x. x.page) (answers_always _ _ _ (λ f a r g called. search rules)) in
    let ends = searched c.args.v _ (rw c.deref.ensures.value c.self.invariant.0) _ facts.bound by_page in
    rw (← c.self.view_is, ← c.deref.ensures.value) (record { found = ends.0; absent = ends.1 })
