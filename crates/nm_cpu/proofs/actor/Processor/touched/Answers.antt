-- The line gave something, or is tried again.
use Rattle.std.proofs.Common.{refl, ap, ◌∙◌, sym, vec_capacity}
use Rattle.nm_script.specs.declared.script.Line.TheVariants.{Load}
use Rattle.nm_cpu.specs.declared.actor.Processor.{Processor}
use Rattle.nm_cpu.proofs.Gave.{line-gave, line-again}
use Rattle.nm_cpu.proofs.actor.Processor.touched.Goals.{in-Some, in-None}
use Rattle.nm_cpu.proofs.actor.Processor.touched.Goals as goal

pub returns-clause-advanced : goal.returns-clause-advanced
returns-clause-advanced g c = λ turns h. elim c.match-line_result.branch [
  | in-Some w ↦ c.go_on.ensures.advanced turns (line-gave _ c.args.self.now c.match-line_result.self _ (Load 0 0) c.len.result c.args.word w.in-Some.result turns (c.len.ensures ∙ c.args.self.now.results.ok.0) refl (sym c.line_result.ensures.gives ∙ w.in-Some.is)
      (ap (λ (x : Processor g.row.F.Denot). x.made) w.self-is) (ap (λ (x : Processor g.row.F.Denot). x.access) w.self-is) (ap (λ (x : Processor g.row.F.Denot). x.loads) w.self-is)
      (ap (λ (x : Processor g.row.F.Denot). x.results.items) w.self-is ∙ w.push_reserved.ensures.items) (ap (λ (x : Processor g.row.F.Denot). vec_capacity x.results) w.self-is ∙ w.push_reserved.ensures.capacity) h)
  | in-None w ↦ c.go_on.ensures.advanced turns (line-again _ c.args.self.now c.match-line_result.self _ (Load 0 0) c.len.result c.args.word turns (c.len.ensures ∙ c.args.self.now.results.ok.0) refl (sym c.line_result.ensures.gives ∙ w.in-None.is) w.self-is h)
]
