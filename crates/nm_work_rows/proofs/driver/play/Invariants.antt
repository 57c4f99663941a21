use Rattle.std.proofs.Common.{◌≡◌}
use Rattle.nm_core.specs.State.{view_of}
use Rattle.nm_actor_rows.specs.Following.{IsFollowing}
use Rattle.nm_work_rows.specs.Reached.{IsReached}
use Rattle.nm_work_rows.proofs.driver.play.Given as goal

abbrev pub invariant-loop-line : goal.invariant-loop-line
invariant-loop-line g l = record {
  reached : IsReached l.g l.state;
  made : g.P.Part.made l.part ≡ g.P.Part.made l.fn.part;
  following : IsFollowing (g.P.Part.awaits l.part) (g.P.Part.shape (g.P.Part.made l.fn.part)) (g.P.Part.leaves (g.P.Part.made l.fn.part)) (g.P.Part.ended l.part) l.g (view_of l.fn.state l.fn.actor) (view_of l.state l.fn.actor) l.given;
}

abbrev pub invariant-loop-more : goal.invariant-loop-more
invariant-loop-more g l = record {
  reached : IsReached l.g l.state;
  made : g.P.Part.made l.part ≡ g.P.Part.made l.fn.part;
  following : IsFollowing (g.P.Part.awaits l.part) (g.P.Part.shape (g.P.Part.made l.fn.part)) (g.P.Part.leaves (g.P.Part.made l.fn.part)) (g.P.Part.ended l.part) l.g (view_of l.fn.state l.fn.actor) (view_of l.state l.fn.actor) l.given;
}
