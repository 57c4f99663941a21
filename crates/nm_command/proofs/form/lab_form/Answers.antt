-- The form has the retries that the words say.
use Rattle.std.proofs.Common.{◌≡◌, length, rules, arith}
use Rattle.std.proofs.lemmas.List.{length-map}
use Rattle.std.specs.Borrow.{Bor}
use Rattle.clap.specs.Walk.{Text, texts}
use Rattle.nm_command.proofs.Forms.{lab_form_is}
use Rattle.nm_command.proofs.form.lab_form.Goals as goal

pub returns-in-Some : goal.returns-in-Some
returns-in-Some c = λ least most.
    let size : length (texts c.args.retries.now) ≡ length c.args.retries.now = length-map c.args.retries.now (λ (s : Bor Text). s.now) in
    lab_form_is (texts c.args.retries.now) c.in-Some.items.items (search rules) (omega (arith, size, least)) (omega (arith, size, most))
