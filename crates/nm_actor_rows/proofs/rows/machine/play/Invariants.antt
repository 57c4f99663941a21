use Rattle.std.proofs.Common.{◌≡◌}
use Rattle.nm_core.specs.State.{view_of}
use Rattle.nm_actor_rows.specs.Following.{IsFollowing}
use Rattle.nm_actor_rows.proofs.rows.machine.play.Given as goal

abbrev pub invariant-loop-line : goal.invariant-loop-line
invariant-loop-line g l =
    (l.state.geometry ≡ l.fn.state.geometry)
    × (g.P.Part.made l.part ≡ g.P.Part.made l.fn.part)
    × IsFollowing (g.P.Part.awaits l.part) (g.P.Part.shape (g.P.Part.made l.fn.part)) (g.P.Part.leaves (g.P.Part.made l.fn.part)) (g.P.Part.ended l.part) l.fn.state.geometry (view_of l.fn.state l.fn.actor) (view_of l.state l.fn.actor) l.step
