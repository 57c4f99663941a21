-- The line was written, or a write failed.
use Rattle.std.proofs.Common.{◌≡◌, subst, sym}
use Rattle.nm_answer.proofs.Causes.{SomeTextCause-written}
use Rattle.nm_check_call.specs.Checking.{verdict_text}
use Rattle.nm_check_call.proofs.checking.verdict_call.Goals as goal

pub returns-in-Ok : goal.returns-in-Ok
returns-in-Ok g c =
    SomeTextCause-written _ _ _ (λ text. text ≡ verdict_text c.args.verdict) c.deref.result.now c.write_text.result (subst (λ text. text ≡ verdict_text c.args.verdict) (sym c.deref.ensures.value) c.in-Ok.ensures) c.write_text.ensures
