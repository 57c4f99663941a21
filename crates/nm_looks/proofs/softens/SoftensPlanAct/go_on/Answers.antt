use Rattle.std.proofs.Common.{ap}
use Rattle.nm_looks.specs.declared.softens.Softens.{Softens}
use Rattle.nm_looks.proofs.Softening.{softens-on, softens-over}
use Rattle.nm_looks.proofs.softens.SoftensPlanAct.go_on.Goals as goal

pub returns-in-Some-next-clause-next : goal.returns-in-Some-next-clause-next
returns-in-Some-next-clause-next c = λ g first now later own known shown left over.
    softens-on c.args.self.now c.soften.new.self c.soften.result c.in-Some.vpage c.in-Some-next.next c.args._end g first now later _ c.in-Some.is known left
    (ap (λ (p : Softens). p.pages) c.soften.ensures.place) (ap (λ (p : Softens). p.at) c.soften.ensures.place)
    c.soften.ensures.act c.in-Some-next.ensures.small c.in-Some-next.ensures.some

pub returns-in-None-clause-next : goal.returns-in-None-clause-next
returns-in-None-clause-next c = λ g first now later own known shown left over.
    softens-over c.args.self.now c.in-Some.vpage c.args._end g first now later _ c.in-Some.is known left c.in-None.ensures.none
