-- The run was watched by a counter.
use Rattle.std.proofs.Common.{ap}
use Rattle.nm_lab_run.proofs.Labs.{measured_run}
use Rattle.nm_lab_run.proofs.running.measured.Goals as goal

pub simulate_with-requires-clause-nothing : goal.simulate_with-requires-clause-nothing
simulate_with-requires-clause-nothing c = c.new.ensures c.args.script.now.geometry

pub returns : goal.returns
returns c =
    let run = c.in_ok-run.run' in
    measured_run c.args.script.now c.args.retry _ _ run.end run.tally run.turns _ c.requires.script c.in_ok-run.ensures
    (ap (λ r. record { retry = c.args.retry; slow = r.watcher.slow; committed = r.tally.committed; moved = r.tally.moved; aborted = r.tally.aborted; settled = r.end.settled }) c.run.view_is)
