-- The form is the one that clap's matches name, and words that clap refuses have none.
use Rattle.std.proofs.Common.{map, string_bytes, rules}
use Rattle.std.proofs.lemmas.Result.{IfOk-weaker}
use Rattle.nm_command.proofs.Forms.{none_read_answer}
use Rattle.nm_command.proofs.form.form_of.Goals as goal

pub returns-in-None : goal.returns-in-None
returns-in-None c = none_read_answer (map string_bytes c.args.words.now) (search rules)

pub returns-in-Some : goal.returns-in-Some
returns-in-Some c = IfOk-weaker c.form_in.result _ _ (λ o h. h (map string_bytes c.args.words.now) (search rules)) c.form_in.ensures
