use Rattle.std.proofs.Common.{[], arith}
use Rattle.nm_action.specs.declared.action.Action.TheVariants.{Bump}
use Rattle.nm_view.specs.Opening.{opening}
use Rattle.nm_actor_rows.proofs.Surveyed.{awaited-at, bare, may-bump, fits-bumped}
use Rattle.nm_actor_rows.proofs.composites.an_action_ends_with_its_reply.Goals as goal

pub first-requires-clause-begin : goal.first-requires-clause-begin
first-requires-clause-begin w c = record { geometry = bare; view = opening bare 0; allowed = may-bump c.new.result.action bare c.new.ensures }

pub after-requires : goal.after-requires
after-requires w c =
    let v = opening bare 0 in
    let s0 = awaited-at (c.in-Do-Bump.ensures.step bare v (may-bump c.new.result.action bare c.new.ensures)) Bump c.in-Do-Bump.field-0-is in
    record { geometry = bare; view = v; own = []; action = Bump; awaited = s0; fits = fits-bumped bare v 6 (omega arith) (omega arith) }
