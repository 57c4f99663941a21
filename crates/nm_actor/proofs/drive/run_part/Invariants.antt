use Rattle.std.proofs.Common.{◌≡◌}
use Rattle.nm_actor.specs.Drives.{IsDriving}
use Rattle.nm_actor.proofs.drive.run_part.Given as goal

abbrev pub invariant-loop : goal.invariant-loop
invariant-loop g l =
    (goal.iterator-loop g).can_next l.iterator' × (goal.iterator-loop g).is_finite l.iterator'
    × (g.P.Part.made l.part ≡ g.P.Part.made l.fn.part)
    × IsDriving (g.P.Part.awaits l.part) (g.P.Part.shape (g.P.Part.made l.fn.part)) (g.P.Part.leaves (g.P.Part.made l.fn.part)) (g.P.Part.ended l.part) (g.S.Tells.state l.fn.chair) (g.S.Tells.state l.chair) l.step
