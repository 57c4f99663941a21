-- The event is counted, and the next turn is given and kept.
use Rattle.std.proofs.Common.{refl}
use Rattle.nm_cpu.proofs.Noting.{heard-noted, turn-follows}
use Rattle.nm_cpu.proofs.actor.ProcessorActor.next.Goals as goal

pub advance-turn-requires : goal.advance-turn-requires
advance-turn-requires g c κs = ((refl, tt), heard-noted _ g.F.Part.made g.F.Part.awaits c.args.self.now c.note.new.self c.args.heard c.note.ensures.rest c.requires)

pub returns-clause-turn : goal.returns-clause-turn
returns-clause-turn g c = λ turns last h answer.
    turn-follows _ g.F.Part.made g.F.Part.awaits c.args.self.now c.note.new.self c.advance-turn.new.self c.advance-turn.result c.args.heard turns last c.note.ensures.rest c.note.ensures.pages (c.note.ensures.counted turns last h answer)
    c.advance-turn.ensures.made c.advance-turn.ensures.counter (c.advance-turn.ensures.advanced turns last) h answer
