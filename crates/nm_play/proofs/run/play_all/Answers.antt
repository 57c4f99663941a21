use Rattle.std.proofs.Common.{◌<◌, ◌∙◌, rules}
use Rattle.nm_schedule.specs.Picks.{most_turns}
use Rattle.nm_play.proofs.Starting.{turn-made}
use Rattle.nm_play.proofs.run.play_all.Goals as goal

pub loop-turns-preserved : goal.loop-turns-preserved
loop-turns-preserved g c =
    let early : c.loop-turns.turns < most_turns c.args.schedule.now = search rules in (
      c.turn.ensures.made ∙ c.loop-turns.invariant.0,
      turn-made g.K.Crew.geometry (g.K.Crew.made c.args.play.now.crew) (g.K.Crew.made c.loop-turns.play.crew) c.args.schedule.now (g.K.Crew.agrees c.loop-turns.play.crew) (g.K.Crew.agrees c.turn.new.self.crew) c.loop-turns.play.state c.turn.new.self.state c.loop-turns.play.lanes c.turn.new.self.lanes
          c.loop-turns.play.given.items c.turn.new.self.given.items (g.W.Watcher.kept c.loop-turns.play.watcher) (g.W.Watcher.kept c.turn.new.self.watcher) c.loop-turns.picker c.note.new.self c.loop-turns.turns c.in-Some.actor c.in_ok-played.played
          c.loop-turns.invariant.0 c.loop-turns.invariant.1 early c.in-Some.ensures.picked c.in_ok-played.ensures.played c.note.ensures,
    )
