use Rattle.std.proofs.Common.{sym, ap, ◌∙◌}
use Rattle.nm_mappings.specs.declared.visits.VisitPlan.{VisitPlan}
use Rattle.nm_vpages.proofs.Numbers.{at-least-zero}
use Rattle.nm_mappings.proofs.Visiting.{begins}
use Rattle.nm_mappings.proofs.visits.VisitPlanPlanAct.begin.Goals as goal

pub unreachable-requires : goal.unreachable-requires
unreachable-requires c = c.requires.some (sym (at-least-zero c.args.self.now.made.pages) ∙ c.in_default.ensures.none)

pub returns-clause-run : goal.returns-clause-run
returns-clause-run c = λ g view may.
    (begins c.args.self.now.made c.visit.new.self c.visit.result c.in-Some.vpage g view
    (ap (λ (p : VisitPlan). p.made) c.visit.ensures.place) (ap (λ (p : VisitPlan). p.at) c.visit.ensures.place) (ap (λ (p : VisitPlan). p.found) c.visit.ensures.place ∙ c.requires.none)
    c.visit.ensures.act c.in-Some.ensures.small c.in-Some.ensures.some may).run
