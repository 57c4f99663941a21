-- One program is longer by a line, and the others are as they were.
use Rattle.std.proofs.Common.{[], ◌∷◌, ◌++◌, map, set, sym, ap, ◌∙◌, arith}
use Rattle.std.proofs.lemmas.List.{map-set, get_or-map}
use Rattle.nm_gen.proofs.random.push_line.Goals as goal

pub returns : goal.returns
returns c =
    let old = get_or-map (λ v. v.items) c.args.programs.now.items c.args.p c.index_mut.result.now [] (omega (arith, c.requires, c.args.programs.now.ok.0)) ∙ ap (λ v. v.items) (sym c.index_mut.ensures.value) in
    map-set (λ v. v.items) c.args.programs.now.items c.args.p c.push.new.self
    ∙ ap (λ l. set (map (λ v. v.items) c.args.programs.now.items) c.args.p l) (c.in_ok-push.ensures.items ∙ ap (λ l. l ++ c.args.line ∷ []) (sym old))
