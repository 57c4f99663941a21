use Rattle.std.proofs.Common.{◌≡◌}
use Rattle.nm_core.specs.State.{view_of}
use Rattle.nm_actor_rows.specs.Following.{IsActing}
use Rattle.nm_actor_rows.proofs.rows.machine.act.Given as goal

abbrev pub invariant-loop-line : goal.invariant-loop-line
invariant-loop-line g l =
    (l.state.geometry ≡ l.fn.state.geometry)
    × (g.A.Actor.made l.actor ≡ g.A.Actor.made l.fn.actor)
    × IsActing (g.A.Actor.geometry (g.A.Actor.made l.fn.actor)) (g.A.Actor.number (g.A.Actor.made l.fn.actor)) (g.A.Actor.agrees l.actor) (view_of l.state l.fn.number) l.turn
