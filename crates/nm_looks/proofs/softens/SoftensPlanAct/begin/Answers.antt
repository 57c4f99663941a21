use Rattle.std.proofs.Common.{sym, ap, ◌∙◌}
use Rattle.nm_vpages.proofs.Numbers.{at-least-zero}
use Rattle.nm_looks.specs.declared.softens.Softens.{Softens}
use Rattle.nm_looks.proofs.Softening.{begins-softens}
use Rattle.nm_looks.proofs.softens.SoftensPlanAct.begin.Goals as goal

pub unreachable-requires : goal.unreachable-requires
unreachable-requires c = c.requires.some (sym (at-least-zero c.args.self.now.pages) ∙ c.in_default.ensures.none)

pub returns-clause-run : goal.returns-clause-run
returns-clause-run c = λ g view may.
    (begins-softens c.args.self.now.pages c.soften.new.self c.soften.result c.in-Some.vpage g view
    (ap (λ (p : Softens). p.pages) c.soften.ensures.place) (ap (λ (p : Softens). p.at) c.soften.ensures.place)
    c.soften.ensures.act c.in-Some.ensures.small c.in-Some.ensures.some may).run
