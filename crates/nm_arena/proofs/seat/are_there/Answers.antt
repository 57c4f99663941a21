-- One view more is there.
use Rattle.std.proofs.Common.{◌≡◌, ◌<◌, ◌+◌, [], ◌∷◌, ◌++◌, length, take, All, sym, ap, ◌∙◌, subst, arith, rules}
use Rattle.std.proofs.lemmas.List.{take_more, take_all}
use Rattle.std.proofs.lemmas.List.Elements.{All-push}
use Rattle.nm_arena.specs.Views.{IsThere}
use Rattle.nm_arena.proofs.seat.are_there.Goals as goal

pub loop-view-preserved : goal.loop-view-preserved
loop-view-preserved c =
    let xs = c.args.views.now in
    let i = c.loop-view.view-index in
    let x = c.view-item.result in
    let lt : i < length xs = omega arith in
    let more : take (i + 1) xs ≡ take i xs ++ x ∷ [] = take_more xs i x lt ∙ ap (λ y. take i xs ++ y ∷ []) (sym c.view-item.is) in
    let here : IsThere x = c.is_there.ensures.0 (search rules) in
    subst (All IsThere) (sym more) (All-push IsThere (take i xs) x c.loop-view.invariant here)

pub returns : goal.returns
returns c =
    let xs = c.args.views.now in
    let all : take c.loop-view.view-index xs ≡ xs = take_all c.loop-view.view-index xs (omega arith) in
    (λ told_of. subst (All IsThere) all c.loop-view.invariant, λ told_of. search rules)
