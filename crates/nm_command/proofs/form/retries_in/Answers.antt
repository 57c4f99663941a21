-- A word that says no retry is in no list of words that say some.
use Rattle.std.proofs.Common.{sym, ◌∙◌}
use Rattle.std.proofs.lemmas.Option.{none-some}
use Rattle.nm_command.proofs.Forms.{none_said_at}
use Rattle.nm_command.proofs.form.retries_in.Goals as goal

pub returns-in-None-clause-none : goal.returns-in-None-clause-none
returns-in-None-clause-none c =
    none_said_at c.args.words.now c.loop-word.word-index _ c.loop-word-test.true (λ r h. none-some _ (sym c.in-None.is ∙ (c.read_retry.ensures r).1 h))
