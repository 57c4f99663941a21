-- What clap took is read of the words, and what it refused is none.
use Rattle.std.proofs.Common.{◌≡◌, ap, rules, subst, sym, map, string_bytes, true, ◌∙◌}
use Rattle.clap.specs.Words.{App, app_of, is_simple, subcommand_of}
use Rattle.clap.specs.Faults.{fault_of, is_simple_and_free}
use Rattle.clap.specs.Kinds.{HasKind}
use Rattle.clap.specs.Values.{kind_of}
use Rattle.nm_command.specs.Line.{nomad}
use Rattle.nm_command.proofs.Splits.{fields_texts, is_free_line, is_simple_line, no_kind, texts_fields, words_some}
use Rattle.nm_command.proofs.line.matches_of.Goals as goal

pub returns-then-not-are_fields : goal.returns-then-not-are_fields
returns-then-not-are_fields c = λ fields accepted. let held = c.are_fields.ensures.1 (texts_fields c.args.words.now fields) in absurd (search (rules, held))

pub returns-in-Ok : goal.returns-in-Ok
returns-in-Ok c =
    let ws = map string_bytes c.args.words.now in
    let line : app_of c.in_ok-command.command ≡ nomad = c.in_ok-command.ensures in
    let free : is_simple_and_free (app_of c.in_ok-command.command) ≡ true = ap is_simple_and_free line ∙ is_free_line in
    let simple : is_simple (app_of c.in_ok-command.command) ≡ true = ap is_simple line ∙ is_simple_line in
    record {
      some = words_some c.args.words.now (search rules);
      fields = fields_texts c.args.words.now (search rules);
      accepted = ap (λ (a : App). fault_of a ws) (sym line) ∙ c.in-Ok.ensures.kinds free;
      entered = (c.in-Ok.ensures.matches simple).1 ∙ ap (λ (a : App). subcommand_of a ws) line;
    }

pub returns : goal.returns
returns c = λ fields accepted.
    let ws = map string_bytes c.args.words.now in
    let line : app_of c.in_ok-command.command ≡ nomad = c.in_ok-command.ensures in
    let free : is_simple_and_free (app_of c.in_ok-command.command) ≡ true = ap is_simple_and_free line ∙ is_free_line in
    let fails = subst (λ (a : App). HasKind (fault_of a ws) c.in-Err-2.field-0) line (c.in-Err-2.ensures.kinds free) in
    absurd (no_kind (kind_of c.in-Err-2.field-0) (search rules) fails accepted)
