-- The event of the answered turn is counted.
use Rattle.std.proofs.Common.{refl}
use Rattle.nm_cpu.proofs.Noting.{noted-reply, noted-none}
use Rattle.nm_cpu.proofs.actor.Processor.note.Goals as goal

pub returns-in-Do-clause-counted : goal.returns-in-Do-clause-counted
returns-in-Do-clause-counted g c = λ turns last h answer.
    noted-reply _ g.F.Part.made g.F.Part.awaits c.args.self.now c.note.new.self c.args.heard c.in-Answer.reply c.in-Do.action turns last c.in-Answer.is c.in-Do.is c.note.ensures.counted h answer

pub returns-in_default : goal.returns-in_default
returns-in_default g c = record {
  rest = refl;
  pages = refl;
  counted = λ turns last h answer. noted-none _ g.F.Part.made g.F.Part.awaits c.args.self.now c.args.heard turns last c.in_default.not-Answer h answer;
}
