-- The commands as they were built.
use Rattle.std.proofs.Common.{◌≡◌, ap, ap₂, rules, ◌∙◌}
use Rattle.std.proofs.lemmas.Result.{IfOk-weaker}
use Rattle.clap.specs.Words.{app_of, with_subcommand, App}
use Rattle.nm_command.specs.Line.{bare, drill, generate, importing, sim}
use Rattle.nm_command.proofs.Splits.{bare_line}
use Rattle.nm_command.proofs.line.script_commands.Goals as goal

pub returns : goal.returns
returns c =
    let sim_is : app_of c.new-sim.result ≡ sim = c.new-sim.ensures.app in
    let generate_is : app_of c.in_ok-generate.generate ≡ generate = search rules in
    let drill_is : app_of c.in_ok-drill.drill ≡ drill = search rules in
    let importing_is : app_of c.in_ok-importing.importing ≡ importing = search rules in
    let bare_is : app_of c.disable_help_subcommand.result ≡ bare = bare_line c.new.result c.no_binary_name.result c.disable_help_flag.result c.disable_help_subcommand.result c.new.ensures.app c.no_binary_name.ensures c.disable_help_flag.ensures c.disable_help_subcommand.ensures in
    let first : app_of c.in_ok-subcommand.field-0 ≡ with_subcommand bare sim.top = c.in_ok-subcommand.ensures.shape (search rules) ∙ ap₂ with_subcommand bare_is (ap (λ (a : App). a.top) sim_is) in
    let second : app_of c.in_ok-subcommand-2.field-0 ≡ with_subcommand (with_subcommand bare sim.top) generate.top = c.in_ok-subcommand-2.ensures.shape (search rules) ∙ ap₂ with_subcommand first (ap (λ (a : App). a.top) generate_is) in
    let third : app_of c.in_ok-subcommand-3.field-0 ≡ with_subcommand (with_subcommand (with_subcommand bare sim.top) generate.top) drill.top = c.in_ok-subcommand-3.ensures.shape (search rules) ∙ ap₂ with_subcommand second (ap (λ (a : App). a.top) drill_is) in
    IfOk-weaker c.subcommand-4.result _ _ (λ m h. h.shape (search rules) ∙ ap₂ with_subcommand third (ap (λ (a : App). a.top) importing_is)) c.subcommand-4.ensures
