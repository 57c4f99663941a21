-- What was printed is the summary of the run that was made of the generated script.
use Rattle.std.proofs.Common.{◌≡◌, ap, map, sym, subst}
use Rattle.std.proofs.lemmas.Result.{IfOk-weaker}
use Rattle.nm_script.specs.Plain.{Script}
use Rattle.nm_report.specs.Plain.{Report}
use Rattle.nm_report.specs.Summary.{HasNoAwait}
use Rattle.nm_sched.specs.Plain.{SimRun}
use Rattle.nm_top.proofs.Drills.{generated-plain}
use Rattle.nm_top.proofs.Simulations.{IsSummary-made}
use Rattle.nm_top.proofs.drill.summary_text.Goals as goal

pub summary-requires-clause-no_await : goal.summary-requires-clause-no_await
summary-requires-clause-no_await c = subst (λ (s : Script). HasNoAwait s.programs) (sym c.requires.is) (generated-plain c.args.number c.args.size)

pub returns : goal.returns
returns c =
    let run = c.in_ok-run.run' in
    let watched = c.in_ok-run.ensures in
    let made : SimRun = record { events = watched.events; order = watched.order; results = map (λ v. v.items) run.results.items; end = run.end; tally = run.tally; turns = run.turns } in
    let report : Report = record { script = c.args.script.now; results = map (λ v. v.items) c.deref.result.now; end = run.end; tally = run.tally } in
    let same : report ≡ record { script = c.args.script.now; results = map (λ v. v.items) run.results.items; end = run.end; tally = run.tally } =
    ap (λ l. record { script = c.args.script.now; results = map (λ v. v.items) l; end = run.end; tally = run.tally }) c.deref.ensures.value in
    let holds = c.the_facts_hold_of_each_simulation.ensures c.args.script.now made c.requires.script watched.run in
    IfOk-weaker c.summary.result _ _
    (λ text e. IsSummary-made c.args.number c.args.size c.args.script.now made report text.items c.requires.is watched.run holds same e) c.summary.ensures.text
