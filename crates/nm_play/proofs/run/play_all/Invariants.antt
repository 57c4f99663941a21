use Rattle.std.proofs.Common.{◌≡◌}
use Rattle.nm_play.specs.Played.{IsAtTurn}
use Rattle.nm_play.proofs.run.play_all.Given as goal

abbrev pub invariant-loop-turns : goal.invariant-loop-turns
invariant-loop-turns g l =
    (g.K.Crew.made l.play.crew ≡ g.K.Crew.made l.fn.play.crew)
    × IsAtTurn (g.K.Crew.geometry (g.K.Crew.made l.fn.play.crew)) l.schedule (g.K.Crew.agrees l.play.crew) l.play.state l.play.lanes l.play.given.items (g.W.Watcher.kept l.play.watcher (g.K.Crew.geometry (g.K.Crew.made l.fn.play.crew))) l.picker l.turns
