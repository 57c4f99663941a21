-- One virtual page more.
use Rattle.std.proofs.Common.{◌∷◌, [], ◌++◌, ap, sym, ◌∙◌, arith}
use Rattle.std.proofs.lemmas.List.FromFn.{map-range_with_len_more}
use Rattle.nm_trace.specs.Imports.{own_page}
use Rattle.nm_trace.proofs.draft.make_vpages.Goals as goal

pub loop-page-preserved : goal.loop-page-preserved
loop-page-preserved c =
    c.in_ok-push.ensures.items ∙ ap (λ l. l ++ own_page c.loop-page.page ∷ []) c.loop-page.invariant ∙ sym (map-range_with_len_more own_page 0 c.loop-page.page c.loop-page.page (omega arith))
