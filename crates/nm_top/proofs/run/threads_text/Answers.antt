-- What was printed is the report of the run that threads made.
use Rattle.std.proofs.Common.{◌≡◌, ap, map}
use Rattle.std.proofs.lemmas.Result.{IfOk-weaker}
use Rattle.nm_report.specs.Plain.{Report}
use Rattle.nm_thread_facts.specs.ThreadRuns.{ThreadRun}
use Rattle.nm_top.proofs.Simulations.{IsThreadReportOf-made}
use Rattle.nm_top.proofs.run.threads_text.Goals as goal

pub returns : goal.returns
returns g c =
    let run = c.in_ok-run.run' in
    let events = c.in_ok-run.ensures.0 in
    let made : ThreadRun = record { events = events; results = map (λ v. v.items) run.results.items; end = run.end; tally = run.tally } in
    let report : Report = record { script = c.args.script.now; results = map (λ v. v.items) c.deref.result.now; end = run.end; tally = run.tally } in
    let same : report ≡ record { script = c.args.script.now; results = map (λ v. v.items) run.results.items; end = run.end; tally = run.tally } =
    ap (λ l. record { script = c.args.script.now; results = map (λ v. v.items) l; end = run.end; tally = run.tally }) c.deref.ensures.value in
    let holds = c.each_run_of_threads_holds.ensures c.args.script.now made c.requires c.in_ok-run.ensures.1 in
    IfOk-weaker c.print.result _ _ (λ text e. IsThreadReportOf-made c.args.script.now made report text.items c.in_ok-run.ensures.1 holds same e) c.print.ensures
