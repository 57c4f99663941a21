use Rattle.std.proofs.Common.{arith}
use Rattle.nm_report.proofs.Made.{AllFit-length, made-pushed, made-all}
use Rattle.nm_report.proofs.printing.push_all_made.Goals as goal

pub bounds-program-i : goal.bounds-program-i
bounds-program-i c = omega (arith, AllFit-length c.args.program.now c.args.results.now c.requires)

pub loop-i-preserved : goal.loop-i-preserved
loop-i-preserved c =
    made-pushed c.args.program.now c.args.results.now c.args.out.now.items c.loop-i.out.items c.push_made.new.out.items c.loop-i.i _ _
    (omega (arith, c.loop-i-test.true, AllFit-length c.args.program.now c.args.results.now c.requires)) c.loop-i-test.true c.loop-i.invariant c.in_ok-push_made.ensures

pub returns : goal.returns
returns c =
    made-all c.args.program.now c.args.results.now c.args.out.now.items c.loop-i.out.items c.loop-i.i c.requires (omega (arith, c.loop-i-test.false, c.loop-i.auto.i-end)) c.loop-i.invariant
