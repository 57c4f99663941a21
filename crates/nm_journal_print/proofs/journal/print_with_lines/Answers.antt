use Rattle.std.proofs.Common.{◌++◌, ap, ◌∙◌}
use Rattle.nm_script.specs.Script.{script_text}
use Rattle.nm_journal_text.specs.Journals.{events_text}
use Rattle.nm_journal_print.proofs.Joining.{journal_joined}
use Rattle.nm_journal_print.proofs.journal.print_with_lines.Goals as goal

pub returns : goal.returns
returns c = λ events is.
    let report = c.args.report.now in
    journal_joined (script_text c.args.script.now) (events_text events) c.in_ok-out.out.items c.extend_from_slice.new.self.items c.push_report.new.out.items c.args.script.now report.script report.results report.end c.requires.same
    c.in_ok-out.ensures (c.in_ok-extend_from_slice.ensures.items ∙ ap (λ t. c.in_ok-out.out.items ++ t) is) c.in_ok-push_report.ensures
