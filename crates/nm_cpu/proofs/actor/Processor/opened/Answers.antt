-- The first catch up goes on, or is over.
use Rattle.nm_cpu.proofs.Opening.{opening-goes, opening-over}
use Rattle.nm_cpu.proofs.actor.Processor.opened.Goals as goal

pub returns-in-Do-clause-advanced : goal.returns-in-Do-clause-advanced
returns-in-Do-clause-advanced g c = λ turns last h answer.
    opening-goes _ g.F.Part.made g.F.Part.awaits c.args.self.now c.opened.new.self c.args.reply c.opened.result c.in-Do.action turns last c.requires.stage c.opened.ensures.rest c.in-Do.is c.opened.ensures.step h answer

pub returns-in-Over-clause-advanced : goal.returns-in-Over-clause-advanced
returns-in-Over-clause-advanced g c = λ turns last h answer.
    c.go_on.ensures.advanced _ (opening-over _ g.F.Part.made g.F.Part.awaits c.args.self.now c.opened.new.self c.args.reply c.opened.result turns last c.requires.stage c.opened.ensures.rest c.in-Over.is c.opened.ensures.step h answer)
