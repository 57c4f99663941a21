use Rattle.std.proofs.Common.{rules}
use Rattle.nm_script.proofs.Printed.{rows-more}
use Rattle.nm_script.proofs.printing.push_programs.Goals as goal

pub loop-p-preserved : goal.loop-p-preserved
loop-p-preserved c =
    rows-more (λ program. program.items) c.args.cpus c.args.out.now.items c.loop-p.out.items c.push_cpu.new.out.items c.args.programs.now c.loop-p.p c.index-programs-p.result (search rules) c.loop-p.invariant (search rules)
