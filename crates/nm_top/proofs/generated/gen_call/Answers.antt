-- The text was written, or a write failed.
use Rattle.std.proofs.Common.{◌≡◌, ap}
use Rattle.nm_script.specs.Script.{script_text}
use Rattle.nm_gen.specs.Generated.{generated}
use Rattle.nm_answer.proofs.Causes.{IsUnreadCall-text, SomeTextCause-of}
use Rattle.nm_top.proofs.generated.gen_call.Goals as goal

pub returns-in-Ok : goal.returns-in-Ok
returns-in-Ok g c =
    IsUnreadCall-text _ _ _ (λ text. text ≡ script_text (generated c.args.number c.args.size)) _
    (SomeTextCause-of _ _ _ (λ text. text ≡ script_text (generated c.args.number c.args.size)) _ c.print_call.result (ap script_text c.in-Ok.ensures.is) c.print_call.ensures)
