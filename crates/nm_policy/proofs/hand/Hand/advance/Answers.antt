-- Before the last page, one more is the remainder by the number of pages.
use Rattle.std.proofs.Common.{◌≡◌, ◌+◌, ◌<◌, ◌%◌, arith}
use Rattle.std.proofs.Math.Nat.{mod-eq_of_lt}
use Rattle.nm_policy.proofs.hand.Hand.advance.Goals as goal

pub returns-else-self : goal.returns-else-self
returns-else-self c =
    let within : c.self.inside.at + 1 < c.self.inside.pages = omega arith in
    let same : (c.self.inside.at + 1) % c.self.inside.pages ≡ c.self.inside.at + 1 = mod-eq_of_lt within in
    grind (arith, c.self.view_is, same)
