-- An access goes on, or is over.
use Rattle.std.proofs.Common.{refl}
use Rattle.nm_cpu.proofs.Accessed.{access-heard, access-goes-on, access-over}
use Rattle.nm_cpu.proofs.actor.Processor.accessed.Goals as goal

pub after-requires : goal.after-requires
after-requires g c κs = ((refl, tt), access-heard _ g.F.Part.made g.F.Part.awaits c.args.self.now c.args.heard c.requires.stage c.requires.heard)

pub returns-in-Give-clause-advanced : goal.returns-in-Give-clause-advanced
returns-in-Give-clause-advanced g c = λ turns last h answer.
    access-goes-on _ g.F.Part.made g.F.Part.awaits c.args.self.now c.after.new.self c.args.heard c.after.result c.in-Give.turn turns last c.requires.stage c.after.ensures.made c.in-Give.is c.after.ensures.touched c.after.ensures.step h answer

pub returns-in-Over-clause-advanced : goal.returns-in-Over-clause-advanced
returns-in-Over-clause-advanced g c = λ turns last h answer.
    c.touched.ensures.advanced _ (access-over _ g.F.Part.made g.F.Part.awaits c.args.self.now c.after.new.self c.args.heard c.after.result c.in-Over.word turns last c.requires.stage c.after.ensures.made c.in-Over.is c.after.ensures.touched c.after.ensures.step h answer)
