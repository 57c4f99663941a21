use Rattle.std.proofs.Common.{◌≡◌, ◌%◌, length, get_or, sym, ap, ◌∙◌, arith}
use Rattle.nm_xlat.specs.FullyAssociative.{FullyAssociative}
use Rattle.nm_setcache.proofs.Merged.{entries_of_set-entries_of_sets}
use Rattle.nm_setcache.proofs.set_cache.SetCache.set_of.Goals as goal

pub returns : goal.returns
returns c =
    let s = c.index.result.now in
    let ss = c.self.inside.sets.items in
    let len : c.len.result ≡ length ss = omega (arith, c.self.inside.sets.ok.0) in
    let read : s ≡ get_or ss (c.args.v % length ss) s = rw len at c.index.ensures in
    rw (← c.self.view_is) (ap (λ (t : FullyAssociative). t.entries) read ∙ sym (entries_of_set-entries_of_sets ss c.self.invariant c.args.v s))
