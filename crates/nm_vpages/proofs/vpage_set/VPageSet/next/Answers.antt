use Rattle.std.proofs.Common.{◌≡◌, ℕ, ◌+◌, List, [], ◌∷◌, subst, arith}
use Rattle.nm_vpages.specs.VPages.{at_or_after}
use Rattle.nm_vpages.proofs.Sets.{next-bit, members-next, members-end}
use Rattle.nm_vpages.proofs.vpage_set.VPageSet.next.Goals as goal

first-from : (pages : List ℕ) (from v : ℕ) (ws : List ℕ) → ws ≡ pages → at_or_after from ws ≡ v ∷ at_or_after (v + 1) ws → at_or_after from pages ≡ v ∷ at_or_after (v + 1) pages
first-from pages from v ws same h = subst (λ (l : List ℕ). at_or_after from l ≡ v ∷ at_or_after (v + 1) l) same h

pub returns-in-Some-clause-some : goal.returns-in-Some-clause-some
returns-in-Some-clause-some c =
    first-from c.args.self.now c.args.from _ _ c.self.view_is (members-next c.self.inside.words c.args.from _ (next-bit c.self.inside.words c.args.from c.loop-at.at c.in-Some.bit c.loop-at.invariant.start (omega (arith, c.self.told)) c.in-Some.ensures.some c.loop-at.invariant.none))

pub returns-clause-none : goal.returns-clause-none
returns-clause-none c = subst (λ (l : List ℕ). at_or_after c.args.from l ≡ []) c.self.view_is (members-end c.self.inside.words c.args.from c.loop-at.at (omega (arith, c.self.told)) c.loop-at.invariant.none)
