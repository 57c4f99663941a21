use Rattle.std.proofs.Common.{rules}
use Rattle.nm_report.proofs.Made.{AllFit-at, cpus-pushed}
use Rattle.nm_report.proofs.printing.push_each_cpu.Goals as goal

pub push_cpu-requires : goal.push_cpu-requires
push_cpu-requires c =
    rw (c.deref.ensures.value, c.deref-in-loop-p.ensures.value, c.index-programs-p.is, c.index-results-p.is) (AllFit-at (λ p. p.items) (λ r. r.items) c.args.programs.now c.args.results.now c.loop-p.p c.index-programs-p.result c.index-results-p.result (search rules) (search rules) c.requires.fits)

pub loop-p-preserved : goal.loop-p-preserved
loop-p-preserved c =
    cpus-pushed (λ p. p.items) (λ r. r.items) c.args.programs.now c.args.results.now c.args.out.now.items c.loop-p.out.items c.push_cpu.new.out.items c.loop-p.p c.index-programs-p.result c.index-results-p.result (search rules) (search rules) c.loop-p.invariant (search rules)
