-- What was printed is the journal of the run that was made.
use Rattle.std.proofs.Common.{ap, map, sym, subst, ◌∙◌}
use Rattle.std.specs.List.{AllByRecursion}
use Rattle.std.proofs.lemmas.Result.{IfOk-weaker}
use Rattle.nm_script.specs.Script.{script_text}
use Rattle.nm_event_text.specs.Events.{FitsEvent}
use Rattle.nm_journal_text.specs.Journals.{events_text, journal_text}
use Rattle.nm_sched.specs.Plain.{SimRun}
use Rattle.nm_top.proofs.Simulations.{IsJournalOf-made}
use Rattle.nm_top.proofs.journal.journal_text.Goals as goal

pub returns : goal.returns
returns c =
    let s = c.args.script.now in
    let run = c.in_ok-run.run' in
    let watched = c.in_ok-run.ensures in
    let made : SimRun = record { events = watched.events; order = watched.order; results = map (λ v. v.items) run.results.items; end = run.end; tally = run.tally; turns = run.turns } in
    let fits : AllByRecursion FitsEvent watched.events = subst (AllByRecursion FitsEvent) (sym watched.run.simulated.listed) watched.told.fits in
    let lines = c.deref-2.ensures.value ∙ watched.told.is ∙ ap events_text (sym watched.run.simulated.listed) in
    let holds = c.the_facts_hold_of_each_simulation.ensures s made c.requires watched.run in
    let same = ap (λ l. journal_text (script_text s) s watched.events (map (λ v. v.items) l) run.end) c.deref.ensures.value in
    IfOk-weaker c.print_with_lines.result _ _ (λ text e. IsJournalOf-made s made text.items c.requires watched.run holds fits (e watched.events lines ∙ same)) c.print_with_lines.ensures
