use Rattle.std.proofs.Common.{◌+◌, ◌*◌, ◌≤◌, ℕ, List, length, ap, ◌∙◌, subst, arith, zero-add}
use Rattle.nm_vpages.proofs.Numbers.{at-least-zero}
use Rattle.nm_vpages.proofs.Sets.{members-most}
use Rattle.nm_vpages.proofs.vpage_set.VPageSet.len.Goals as goal

pub loop-vpage-init : goal.loop-vpage-init
loop-vpage-init c = ap (λ (l : List ℕ). 0 + length l) (at-least-zero c.args.self.now) ∙ zero-add (length c.args.self.now)

pub overflow_add-count : goal.overflow_add-count
overflow_add-count c = let most = subst (λ (l : List ℕ). length l ≤ 64 * length c.self.inside.words) c.self.view_is (members-most c.self.inside.words) in omega (arith, most, c.self.told, c.loop-vpage.invariant)

pub returns-clause-few : goal.returns-clause-few
returns-clause-few c = let most = subst (λ (l : List ℕ). length l ≤ 64 * length c.self.inside.words) c.self.view_is (members-most c.self.inside.words) in omega (arith, most, c.self.told, c.loop-vpage.invariant)
