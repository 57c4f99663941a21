use Rattle.std.proofs.Common.{◌≡◌, ◌<◌, ◌≤◌, length, get_or, sym, subst, arith}
use Rattle.std.proofs.lemmas.Bool.Decides.{nat_tests}
use Rattle.nm_xlat.specs.Entries.{entry_at}
use Rattle.nm_xlat.specs.Translations.{IsLeastFrom}
use Rattle.nm_xlat.proofs.Placed.{none_from, least_from}
use Rattle.nm_xlat.proofs.xlat_cache.XlatCacheTranslations.next.Goals as goal

-- no entry stands at the place
pub returns-in_err-get : goal.returns-in_err-get
returns-in_err-get c =
    let from = rw (← c.self.view_is) at c.place_from-at.ensures in
    let lookup = c.in_err-get.ensures.lookup in
    let past : length c.self.inside.entries.items ≤ c.place_from-at.result = grind (arith, nat_tests, lookup.0, c.deref.ensures.len) in
    rw (c.from_residual.ensures, ← c.self.view_is) (none_from _ _ _ from past)

-- the page at the place is the least
pub returns : goal.returns
returns c =
    let from = rw (← c.self.view_is) at c.place_from-at.ensures in
    let lookup = rw c.deref.ensures.value at c.in_ok-get.ensures.lookup in
    let x = c.in_ok-get.field-0.now in
    let items = c.self.inside.entries.items in
    let within : c.place_from-at.result < length items = grind (arith, nat_tests, lookup.0) in
    let read : x ≡ get_or items c.place_from-at.result x = lookup.1 in
    let least = least_from _ items _ x c.self.invariant.0 from within in
    rw (← c.self.view_is) (subst (λ y. IsLeastFrom (λ w. entry_at w items) c.args.from y.page) (sym read) least)
