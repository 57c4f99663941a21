-- The next access, or the end.
use Rattle.std.proofs.Common.{refl, arith, ◌∙◌}
use Rattle.nm_script.specs.declared.script.Line.TheVariants.{Load}
use Rattle.nm_cpu.proofs.Going.{access-begins, ending-begins}
use Rattle.nm_cpu.proofs.actor.Processor.go_on.Goals as goal

pub returns-in-Give-clause-advanced : goal.returns-in-Give-clause-advanced
returns-in-Give-clause-advanced g c = λ turns h.
    access-begins _ g.F.Part.made g.F.Part.awaits c.args.self.now c.begin.new.self c.line_access.result c.in-Give.turn _ (Load 0 0) c.len-next.result turns (c.len-next.ensures ∙ c.args.self.now.results.ok.0) c.if-next-program.true refl c.line_access.ensures.made c.line_access.ensures.value c.begin.ensures.made c.in-Give.ensures.step h

pub returns-else-next-program-clause-advanced : goal.returns-else-next-program-clause-advanced
returns-else-next-program-clause-advanced g c = λ turns h.
    ending-begins _ g.F.Part.made g.F.Part.awaits c.args.self.now c.len-next.result turns (c.len-next.ensures ∙ c.args.self.now.results.ok.0) (omega (arith, c.if-next-program.false)) h
