-- The command line as it was built.
use Rattle.std.proofs.Common.{◌≡◌, ap, ap₂, rules, ◌∙◌}
use Rattle.std.proofs.lemmas.Result.{IfOk-weaker}
use Rattle.clap.specs.Words.{app_of, with_subcommand, App}
use Rattle.nm_command.specs.Line.{script_line, running, journal, checking, lab}
use Rattle.nm_command.proofs.line.make_command.Goals as goal

pub returns : goal.returns
returns c =
    let first_is : app_of c.in_ok-script_commands.field-0 ≡ script_line = search rules in
    let running_is : app_of c.new-running.result ≡ running = c.new-running.ensures.app in
    let journal_is : app_of c.new-journal.result ≡ journal = c.new-journal.ensures.app in
    let checking_is : app_of c.new-checking.result ≡ checking = c.new-checking.ensures.app in
    let lab_is : app_of c.in_ok-lab.lab ≡ lab = search rules in
    let second : app_of c.in_ok-subcommand.field-0 ≡ with_subcommand script_line running.top = c.in_ok-subcommand.ensures.shape (search rules) ∙ ap₂ with_subcommand first_is (ap (λ (a : App). a.top) running_is) in
    let third : app_of c.in_ok-subcommand-2.field-0 ≡ with_subcommand (with_subcommand script_line running.top) journal.top = c.in_ok-subcommand-2.ensures.shape (search rules) ∙ ap₂ with_subcommand second (ap (λ (a : App). a.top) journal_is) in
    let fourth : app_of c.in_ok-subcommand-3.field-0 ≡ with_subcommand (with_subcommand (with_subcommand script_line running.top) journal.top) checking.top = c.in_ok-subcommand-3.ensures.shape (search rules) ∙ ap₂ with_subcommand third (ap (λ (a : App). a.top) checking_is) in
    IfOk-weaker c.subcommand-4.result _ _ (λ m h. h.shape (search rules) ∙ ap₂ with_subcommand fourth (ap (λ (a : App). a.top) lab_is)) c.subcommand-4.ensures
