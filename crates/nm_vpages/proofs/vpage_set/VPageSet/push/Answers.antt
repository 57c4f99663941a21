use Rattle.std.proofs.Common.{ℕ, List, ◌∷◌, [], ◌++◌, sym, ap, ◌∙◌, subst, arith}
use Rattle.nm_vpages.specs.VPages.{AreBelow}
use Rattle.nm_vpages.proofs.Sets.{members-push}
use Rattle.nm_vpages.proofs.vpage_set.VPageSet.push.Goals as goal

pub returns : goal.returns
returns c =
    let v = c.args.vpage in
    let below = subst (AreBelow v) (sym c.self.view_is) c.requires.last in
    members-push c.self.inside.words v (omega (arith, c.self.told)) below ∙ ap (λ (l : List ℕ). l ++ v ∷ []) c.self.view_is
