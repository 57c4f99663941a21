use Rattle.std.proofs.Common.{ℕ, List, [], ◌∷◌, ◌++◌, ap, sym, ◌∙◌, append_assoc}
use Rattle.crossbeam_queue.specs.Passes.{view}
use Rattle.nm_queue.specs.Histories.{pages_left}
use Rattle.nm_queue.proofs.Alone.{taken_alone}
use Rattle.nm_queue.proofs.rule.move_first.Goals as goal

pub returns-clause-moved : goal.returns-clause-moved
returns-clause-moved g c =
    let rest = pages_left (view c.take.new.pass).seen in
    let into = c.args.into.now.items in
    ap (λ (t : List ℕ). t ++ rest) c.push_reserved.ensures.items
    ∙ append_assoc into (c.in-Some.page ∷ []) rest
    ∙ ap (λ (t : List ℕ). into ++ t) (sym (taken_alone c.in-Some.page (view c.args.pass.now) (view c.take.new.pass) c.in-Some.ensures.answer c.requires.alone))
