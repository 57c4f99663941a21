use Rattle.std.proofs.Common.{map}
use Rattle.nm_sched.proofs.Keeping.{kept-run}
use Rattle.nm_sched.proofs.simulation.simulate.Goals as goal

pub simulate_with-requires-clause-nothing : goal.simulate_with-requires-clause-nothing
simulate_with-requires-clause-nothing c = record { listed = c.new.ensures.events; ordered = c.new.ensures.order }

pub returns : goal.returns
returns c =
    let run = c.in_ok-run.run' in
    kept-run c.args.script.now run.watcher.events.items run.watcher.order.items (map (λ r. r.items) run.results.items) run.end run.tally run.turns c.in_ok-run.ensures
