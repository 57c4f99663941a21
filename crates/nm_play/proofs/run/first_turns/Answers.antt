use Rattle.nm_play.proofs.Starting.{there-is, heard-first}
use Rattle.nm_play.proofs.run.first_turns.Goals as goal

pub next-turn-requires-clause-exists : goal.next-turn-requires-clause-exists
next-turn-requires-clause-exists g c =
    there-is g.K.Crew.geometry (g.K.Crew.made c.args.crew.now) (g.K.Crew.made c.loop-actor.crew) c.args.actors c.loop-actor.actor c.loop-actor.invariant.0 c.requires.actors c.loop-actor-test.true

pub next-turn-requires-clause-heard : goal.next-turn-requires-clause-heard
next-turn-requires-clause-heard g c =
    heard-first g.K.Crew.geometry (g.K.Crew.made c.args.crew.now) (g.K.Crew.made c.loop-actor.crew) (g.K.Crew.agrees c.loop-actor.crew) c.loop-actor.given.items c.args.actors c.loop-actor.actor c.loop-actor.invariant.0 c.requires.actors c.loop-actor-test.true c.loop-actor.invariant.1
