use Rattle.std.proofs.Common.{◌≡◌}
use Rattle.nm_play.specs.Played.{AreGivenBelow}
use Rattle.nm_play.proofs.run.first_turns.Given as goal

abbrev pub invariant-loop-actor : goal.invariant-loop-actor
invariant-loop-actor g l =
    (g.K.Crew.made l.crew ≡ g.K.Crew.made l.fn.crew)
    × AreGivenBelow (g.K.Crew.geometry (g.K.Crew.made l.fn.crew)) (g.K.Crew.agrees l.crew) l.given.items l.actor
