-- The turn that comes next, by the stage.
use Rattle.nm_cpu.proofs.Opening.{new-goes}
use Rattle.nm_cpu.proofs.Ended.{ends}
use Rattle.nm_cpu.proofs.actor.Processor.advance.Goals as goal

pub returns-in-New-clause-advanced : goal.returns-in-New-clause-advanced
returns-in-New-clause-advanced g c = λ turns last h answer.
    new-goes _ g.F.Part.made g.F.Part.awaits c.args.self.now c.open.new.self c.open.result turns last c.args.heard c.in-New.is c.open.ensures.rest c.open.ensures.kept c.open.ensures.stage c.open.ensures.poll h

pub returns-in-Ending-clause-advanced : goal.returns-in-Ending-clause-advanced
returns-in-Ending-clause-advanced g c = λ turns last h answer. ends _ g.F.Part.made g.F.Part.awaits c.args.self.now turns last c.args.heard c.in-Ending.is h answer
