use Rattle.std.proofs.Common.{◌-◌, arith, rules}
use Rattle.nm_script.proofs.Memory.{with_line-set}
use Rattle.nm_script.proofs.draft.add_line.Goals as goal

pub returns : goal.returns
returns c =
    with_line-set (λ p. p.items) c.args.programs.now.items c.push.new.self c.args.line c.index_mut.result.now (c.len-last.result - 1) (omega (arith, c.requires, c.len-last.ensures)) (search rules)
