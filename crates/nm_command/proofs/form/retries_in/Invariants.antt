-- The words so far say the retries.
use Rattle.std.proofs.Common.{take}
use Rattle.clap.specs.Walk.{texts}
use Rattle.nm_command.specs.Words.{SayRetries}
use Rattle.nm_command.proofs.form.retries_in.Given as goal

abbrev pub invariant-loop-word : goal.invariant-loop-word
invariant-loop-word l = SayRetries (texts (take l.word-index l.words)) l.retries.items
