-- The parts are those of the state in which nothing was done.
use Rattle.nm_core.proofs.Starts.{started}
use Rattle.nm_core.proofs.state.State.start.Goals as goal

pub invariant_of-result : goal.invariant_of-result
invariant_of-result c =
    started c.args.g.now c.in_ok-copied.field-0 c.in_ok-start.field-0 c.in_ok-opening_views.field-0.items c.in_ok-copied.ensures.same c.in_ok-start.ensures.words c.in_ok-opening_views.ensures c.in_ok-copied.ensures.sound
