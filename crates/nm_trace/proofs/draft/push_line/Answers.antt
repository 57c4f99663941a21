-- One program is longer by a line, and the others are as they were.
use Rattle.std.proofs.Common.{[], ◌∷◌, ◌++◌, map, set, sym, ap, ◌∙◌, arith}
use Rattle.std.proofs.lemmas.List.{map-set, get_or-map}
use Rattle.nm_trace.proofs.draft.push_line.Goals as goal

pub returns-in-Ok-clause-pushed : goal.returns-in-Ok-clause-pushed
returns-in-Ok-clause-pushed c =
    let old = get_or-map (λ v. v.items) c.args.programs.now.items c.args.cpu c.index_mut.result.now [] (omega (arith, c.requires, c.args.programs.now.ok.0)) ∙ ap (λ v. v.items) (sym c.index_mut.ensures.value) in
    map-set (λ v. v.items) c.args.programs.now.items c.args.cpu c.push.new.self
    ∙ ap (λ l. set (map (λ v. v.items) c.args.programs.now.items) c.args.cpu l) (c.in-Ok.ensures.items ∙ ap (λ l. l ++ c.args.line ∷ []) (sym old))
