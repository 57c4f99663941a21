-- One virtual page more.
use Rattle.std.proofs.Common.{◌∷◌, [], ◌++◌, ap, sym, ◌∙◌, arith}
use Rattle.std.proofs.lemmas.List.FromFn.{map-range_with_len_more}
use Rattle.nm_gen.specs.Generated.{one_to_one}
use Rattle.nm_gen.proofs.random.make_vpages.Goals as goal

pub loop-page-preserved : goal.loop-page-preserved
loop-page-preserved c =
    c.in_ok-push.ensures.items ∙ ap (λ l. l ++ one_to_one c.loop-page.page ∷ []) c.loop-page.invariant ∙ sym (map-range_with_len_more one_to_one 0 c.loop-page.page c.loop-page.page (omega arith))
