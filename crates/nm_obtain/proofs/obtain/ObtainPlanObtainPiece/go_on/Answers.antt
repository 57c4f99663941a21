use Rattle.std.proofs.Common.{sym, ap, ◌∙◌, refl}
use Rattle.nm_compose.specs.declared.or.Or.TheVariants.{This}
use Rattle.nm_reclaim.specs.declared.sweep.ReclaimMade.{ReclaimMade}
use Rattle.nm_reclaim.specs.Tasks.{first_visited}
use Rattle.nm_obtain.proofs.Searching.{got-first, floor-first, floor-unvisited, reclaimed, got-second, floor-second}
use Rattle.nm_obtain.proofs.obtain.ObtainPlanObtainPiece.go_on.Goals as goal

pub returns-in-Got-clause-next : goal.returns-in-Got-clause-next
returns-in-Got-clause-next c = λ g first now later own known shown left over.
    got-first c.args.self.now c.args.end c.in-Got.frame _ g first now later own (record { at = c.in-Trying.is; ended = c.in-This.is ∙ ap This c.in-Got.is; known = known; left = left; shown = shown })

pub returns-in-Some-clause-next : goal.returns-in-Some-clause-next
returns-in-Some-clause-next c = λ g first now later own known shown left over.
    let old = c.args.self.now in
    floor-first old c.reclaim.new.self c.reclaim.result c.in-Some.first c.in-AtFloor.field-0 c.args.end _ g first now later own
    (record { at = c.in-Trying.is; ended = c.in-This.is ∙ ap This c.in-AtFloor.is; known = known; left = left; shown = shown })
    (ap (λ (r : ReclaimMade). first_visited old.geometry.now r) (sym c.reclaim_for.ensures) ∙ (sym c.first_visited.ensures ∙ c.in-Some.is))
    (record { is = c.reclaim.ensures.stage; makes = c.reclaim.ensures.made; fresh = c.reclaim.ensures.new })

pub returns-in-None-clause-next : goal.returns-in-None-clause-next
returns-in-None-clause-next c = λ g first now later own known shown left over.
    let old = c.args.self.now in
    floor-unvisited old c.take.new.self c.take.result c.in-AtFloor.field-0 c.args.end _ g first now later own
    (record { at = c.in-Trying.is; ended = c.in-This.is ∙ ap This c.in-AtFloor.is; known = known; left = left; shown = shown })
    (ap (λ (r : ReclaimMade). first_visited old.geometry.now r) (sym c.reclaim_for.ensures) ∙ (sym c.first_visited.ensures ∙ c.in-None.is))
    (record { is = c.take.ensures.stage; makes = c.take.ensures.made; fresh = c.take.ensures.new })

pub returns-in-Reclaiming-clause-next : goal.returns-in-Reclaiming-clause-next
returns-in-Reclaiming-clause-next c = λ g first now later own known shown left over.
    let step = c.take-in-Reclaiming in
    reclaimed c.args.self.now step.new.self step.result c.in-Reclaiming.field-0 c.args.end _ g first now later own
    (record { at = c.in-Reclaiming.is; ended = refl; known = known; left = left; shown = shown })
    (record { is = step.ensures.stage; makes = step.ensures.made; fresh = step.ensures.new })

pub returns-in-Got-taken-clause-next : goal.returns-in-Got-taken-clause-next
returns-in-Got-taken-clause-next c = λ g first now later own known shown left over.
    got-second c.args.self.now c.args.end c.in-Got-taken.frame _ g first now later own
    (record { at = c.in-TryingAgain.is; ended = c.in-This-end.is ∙ ap This c.in-Got-taken.is; known = known; left = left; shown = shown })

pub returns-in-AtFloor-taken-clause-next : goal.returns-in-AtFloor-taken-clause-next
returns-in-AtFloor-taken-clause-next c = λ g first now later own known shown left over.
    floor-second c.args.self.now c.args.end c.in-AtFloor-taken.free _ g first now later own
    (record { at = c.in-TryingAgain.is; ended = c.in-This-end.is ∙ ap This c.in-AtFloor-taken.is; known = known; left = left; shown = shown })
