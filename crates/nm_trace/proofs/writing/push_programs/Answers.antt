use Rattle.std.proofs.Common.{rules}
use Rattle.nm_trace.proofs.Written.{programs-more}
use Rattle.nm_trace.proofs.writing.push_programs.Goals as goal

pub loop-cpu-preserved : goal.loop-cpu-preserved
loop-cpu-preserved c =
    programs-more (λ p. p.items) c.args.out.now.items c.loop-cpu.out.items c.push_program.new.out.items c.args.programs.now c.loop-cpu.cpu c.index-programs-cpu.result (search rules) c.loop-cpu.invariant (search rules)
