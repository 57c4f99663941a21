-- One event more was followed; where one is no step, it is the first.
use Rattle.std.proofs.Common.{◌≡◌, take, get_or, subst, arith, ap, ◌+◌}
use Rattle.std.proofs.lemmas.List.{take_all}
use Rattle.nm_core.specs.Runs.{IsRun}
use Rattle.nm_laws.specs.Lists.{IsFirstFailure}
use Rattle.nm_runs.proofs.EachRun.{all_in_run}
use Rattle.nm_laws.proofs.Holding.{facts_in_run}
use Rattle.nm_laws.proofs.Following.{no_event, next_fails, no_actor, fails_whole, fails_fails, whole_fails, state-more, run-more, geometry-reached}
use Rattle.nm_laws.proofs.lists.run_list.Goals.{then-event-actors-via-then-event-actors, then-event-actors-via-else-event-actors+then-not-is_made}
use Rattle.nm_laws.proofs.lists.run_list.Goals as goal

pub is_made-requires : goal.is_made-requires
is_made-requires c =
    let same = geometry-reached c.args.state.geometry (take c.loop-event.event-index c.args.events.now) c.loop-event.state c.loop-event.invariant.state in
    record { actor = rw same (omega (arith, c.if-event-actors.false, ap (λ g. g.cpus) c.geometry.ensures.same, ap (λ g. g.cpus) c.behind-state.view_is)) }

pub loop-event-preserved : goal.loop-event-preserved
loop-event-preserved c =
    let g = c.args.state.geometry in
    let events = c.args.events.now in
    let made = c.if-not-is_made.false in
    record {
      count = ap (λ n. n + 1) c.loop-event.invariant.count;
      run = run-more g events c.loop-event.event-index _ c.loop-event.state c.loop-event-test.true c.loop-event.invariant.state c.loop-event.invariant.run (c.is_made.ensures.is.0 made);
      state = state-more g events c.loop-event.event-index _ c.loop-event.state c.is_made.new.state c.loop-event-test.true c.loop-event.invariant.state (c.is_made.ensures.after made);
    }

pub returns-then-event-actors-clause-whole : goal.returns-then-event-actors-clause-whole
returns-then-event-actors-clause-whole c =
    let g = c.args.state.geometry in
    let events = c.args.events.now in
    let n = c.loop-event.event-index in
    let at = c.loop-event.invariant in
    let same = geometry-reached g (take n events) c.loop-event.state at.state in
    let first : IsFirstFailure g events c.loop-event.number = elim c.then-event-actors.branch [
      | then-event-actors-via-then-event-actors w ↦
          next_fails g events n c.loop-event.number no_event c.loop-event.state c.loop-event-test.true at.count at.state at.run (no_actor g c.loop-event.state (get_or events n no_event) same (omega (arith, w.if-event-actors.true, ap (λ m. m.cpus) c.geometry.ensures.same, ap (λ m. m.cpus) c.behind-state.view_is)))
      | then-event-actors-via-else-event-actors+then-not-is_made w ↦
          next_fails g events n c.loop-event.number no_event c.loop-event.state c.loop-event-test.true at.count at.state at.run (λ made. let told = w.is_made.ensures.is.1 made in let no = w.if-not-is_made.true in cc)
    ] in
    fails_whole g events c.loop-event.number first

pub returns-then-event-actors-clause-fails : goal.returns-then-event-actors-clause-fails
returns-then-event-actors-clause-fails c =
    let g = c.args.state.geometry in
    let events = c.args.events.now in
    let n = c.loop-event.event-index in
    let at = c.loop-event.invariant in
    let same = geometry-reached g (take n events) c.loop-event.state at.state in
    let first : IsFirstFailure g events c.loop-event.number = elim c.then-event-actors.branch [
      | then-event-actors-via-then-event-actors w ↦
          next_fails g events n c.loop-event.number no_event c.loop-event.state c.loop-event-test.true at.count at.state at.run (no_actor g c.loop-event.state (get_or events n no_event) same (omega (arith, w.if-event-actors.true, ap (λ m. m.cpus) c.geometry.ensures.same, ap (λ m. m.cpus) c.behind-state.view_is)))
      | then-event-actors-via-else-event-actors+then-not-is_made w ↦
          next_fails g events n c.loop-event.number no_event c.loop-event.state c.loop-event-test.true at.count at.state at.run (λ made. let told = w.is_made.ensures.is.1 made in let no = w.if-not-is_made.true in cc)
    ] in
    fails_fails g events c.loop-event.number first

pub returns-clause-fails : goal.returns-clause-fails
returns-clause-fails c =
    let g = c.args.state.geometry in
    let events = c.args.events.now in
    let all : take c.loop-event.event-index events ≡ events = take_all _ events (omega (arith, c.loop-event-test.false)) in
    whole_fails g events c.loop-event.state (subst (IsRun g) all c.loop-event.invariant.run)

pub returns-clause-lawful : goal.returns-clause-lawful
returns-clause-lawful c = λ front rest is run. all_in_run c.args.state.geometry front c.geometry.ensures.kept.geometry run

pub returns-then-event-actors-clause-lawful : goal.returns-then-event-actors-clause-lawful
returns-then-event-actors-clause-lawful c = λ front rest is run. all_in_run c.args.state.geometry front c.geometry.ensures.kept.geometry run

pub returns-clause-facts : goal.returns-clause-facts
returns-clause-facts c = λ front rest is run. facts_in_run c.args.state.geometry front c.geometry.ensures.kept.geometry run

pub returns-then-event-actors-clause-facts : goal.returns-then-event-actors-clause-facts
returns-then-event-actors-clause-facts c = λ front rest is run. facts_in_run c.args.state.geometry front c.geometry.ensures.kept.geometry run
