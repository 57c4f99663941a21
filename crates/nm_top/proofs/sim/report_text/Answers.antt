-- What was printed is the report of the run that was made.
use Rattle.std.proofs.Common.{◌≡◌, ap, map}
use Rattle.std.proofs.lemmas.Result.{IfOk-weaker}
use Rattle.nm_report.specs.Plain.{Report}
use Rattle.nm_sched.specs.Plain.{SimRun}
use Rattle.nm_top.proofs.Simulations.{IsReportOf-made}
use Rattle.nm_top.proofs.sim.report_text.Goals as goal

pub returns : goal.returns
returns c =
    let run = c.in_ok-run.run' in
    let watched = c.in_ok-run.ensures in
    let made : SimRun = record { events = watched.events; order = watched.order; results = map (λ v. v.items) run.results.items; end = run.end; tally = run.tally; turns = run.turns } in
    let report : Report = record { script = c.args.script.now; results = map (λ v. v.items) c.deref.result.now; end = run.end; tally = run.tally } in
    let same : report ≡ record { script = c.args.script.now; results = map (λ v. v.items) run.results.items; end = run.end; tally = run.tally } =
    ap (λ l. record { script = c.args.script.now; results = map (λ v. v.items) l; end = run.end; tally = run.tally }) c.deref.ensures.value in
    let holds = c.the_facts_hold_of_each_simulation.ensures c.args.script.now made c.requires watched.run in
    IfOk-weaker c.print.result _ _ (λ text e. IsReportOf-made c.args.script.now made report text.items watched.run holds same e) c.print.ensures
