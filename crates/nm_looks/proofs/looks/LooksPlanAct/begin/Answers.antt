use Rattle.std.proofs.Common.{sym, ap, ◌∙◌}
use Rattle.nm_vpages.proofs.Numbers.{at-least-zero}
use Rattle.nm_looks.specs.declared.looks.Looks.{Looks}
use Rattle.nm_looks.specs.Looking.{looks_data}
use Rattle.nm_looks.proofs.Looking.{begins-looks}
use Rattle.nm_looks.proofs.looks.LooksPlanAct.begin.Goals as goal

pub unreachable-requires : goal.unreachable-requires
unreachable-requires c = c.requires.some (sym (at-least-zero c.args.self.now.made.pages) ∙ c.in_default.ensures.none)

pub returns-clause-run : goal.returns-clause-run
returns-clause-run c = λ g view may.
    (begins-looks (looks_data c.args.self.now) c.look.new.self c.look.result c.in-Some.vpage g view
    (ap looks_data c.look.ensures.place) (ap (λ (p : Looks). p.at) c.look.ensures.place) (ap (λ (p : Looks). p.seen) c.look.ensures.place ∙ c.requires.none)
    c.look.ensures.act c.in-Some.ensures.small c.in-Some.ensures.some may).run
