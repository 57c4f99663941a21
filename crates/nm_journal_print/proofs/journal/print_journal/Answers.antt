use Rattle.nm_script.specs.Script.{script_text}
use Rattle.nm_journal_text.specs.Journals.{events_text}
use Rattle.nm_journal_print.proofs.Joining.{journal_joined}
use Rattle.nm_journal_print.proofs.journal.print_journal.Goals as goal

pub returns-clause-text : goal.returns-clause-text
returns-clause-text c =
    let report = c.args.report.now in
    journal_joined (script_text c.args.script.now) (events_text c.args.events.now) c.in_ok-out.out.items c.push_events.new.out.items c.push_report.new.out.items c.args.script.now report.script report.results report.end c.requires.same
    c.in_ok-out.ensures c.in_ok-push_events.ensures.text c.in_ok-push_report.ensures
