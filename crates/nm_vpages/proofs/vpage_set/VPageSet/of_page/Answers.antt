use Rattle.std.proofs.Common.{◌≡◌, ◌++◌, ◌∷◌, [], ℕ, List, sym, ap, ◌∙◌, arith}
use Rattle.nm_vpages.proofs.Pages.{vpages-next, vpages-before, vpages-over, vpage-within}
use Rattle.nm_vpages.proofs.vpage_set.VPageSet.of_page.Goals as goal

pub push-requires-clause-last : goal.push-requires-clause-last
push-requires-clause-last c = vpages-before c.args.page c.args.g.now.vpages c.loop-vpage.from c.in-Some.vpage c.loop-vpage.pages c.loop-vpage.invariant.within c.loop-vpage.invariant.pages c.in-Some.ensures.some

pub loop-vpage-preserved : goal.loop-vpage-preserved
loop-vpage-preserved c =
    let vs = c.args.g.now.vpages in
    let next = c.in-Some.ensures.some in
    record {
      within = omega (arith, vpage-within vs c.args.page c.loop-vpage.from c.in-Some.vpage next);
      pages = c.push.ensures ∙ ap (λ (l : List ℕ). l ++ c.in-Some.vpage ∷ []) c.loop-vpage.invariant.pages ∙ sym (vpages-next c.args.page vs c.loop-vpage.from c.in-Some.vpage next);
    }

pub loop-vpage-smaller : goal.loop-vpage-smaller
loop-vpage-smaller c = omega (arith, vpage-within c.args.g.now.vpages c.args.page c.loop-vpage.from c.in-Some.vpage c.in-Some.ensures.some, c.in-Some.ensures.some.from)

pub returns : goal.returns
returns c = c.loop-vpage.invariant.pages ∙ vpages-over c.args.page c.args.g.now.vpages c.loop-vpage.from c.loop-vpage.invariant.within c.in_default.ensures.none
