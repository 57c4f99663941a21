use Rattle.std.proofs.Common.{sym, subst, rules}
use Rattle.nm_script.specs.Plain.{Script}
use Rattle.nm_script.specs.Script.{IsScript}
use Rattle.nm_script.proofs.Finished.{told-script}
use Rattle.nm_script.proofs.Whole.{reading-missing}
use Rattle.nm_script.proofs.parsing.read_script.Goals as goal

pub returns-then-not-is_whole-clause-exact : goal.returns-then-not-is_whole-clause-exact
returns-then-not-is_whole-clause-exact c =
    reading-missing c.args.bytes.now c.in_ok-draft.draft c.in_ok-draft.lines (search rules) (search rules) (search rules) (search rules)

pub returns-in-Ok-clause-script : goal.returns-in-Ok-clause-script
returns-in-Ok-clause-script c =
    subst (λ (s : Script). IsScript s) (sym c.in-Ok.ensures) (told-script c.in_ok-draft.draft c.in_ok-draft.ensures.told (search rules))
