use Rattle.std.proofs.Common.{◌≡◌, ◌+◌, ◌∷◌, [], ap, ◌∙◌, subst}
use Rattle.nm_mappings.specs.declared.visits.VisitsMade.{VisitsMade}
use Rattle.nm_mappings.specs.declared.visits.VisitPlan.{VisitPlan}
use Rattle.nm_vpages.specs.VPages.{at_or_after}
use Rattle.nm_mappings.specs.Visits.{visit_action}
use Rattle.nm_mappings.proofs.Visiting.{goes-on, goes-over, notes, note-below}
use Rattle.nm_mappings.proofs.visits.VisitPlanPlanAct.go_on.Goals as goal

pub note-requires-clause-last : goal.note-requires-clause-last
note-requires-clause-last c =
    let old = c.args.self.now in
    let r = c.requires in
    note-below old c.in-Some.vpage r.geometry r.first r.now (notes old c.in-Some.vpage r.geometry r.first r.now _ c.in-Some.is r.known)

pub returns-in-Some-next-clause-next : goal.returns-in-Some-next-clause-next
returns-in-Some-next-clause-next c = λ g first now later own known shown left over.
    let old = c.args.self.now in
    let made-is = ap (λ (p : VisitPlan). p.made) c.note.ensures in
    let next = subst (λ (m : VisitsMade). at_or_after (c.in-Some.vpage + 1) m.pages ≡ c.in-Some-next.next ∷ at_or_after (c.in-Some-next.next + 1) m.pages) made-is c.in-Some-next.ensures.some in
    let acts = c.visit.ensures.act ∙ ap (λ (m : VisitsMade). visit_action m.visit c.in-Some-next.next) made-is in
    goes-on old c.visit.new.self c.visit.result c.in-Some.vpage c.in-Word.word c.in-Some-next.next c.args.end g first now later _ c.in-Some.is c.in-Word.is known left
    (ap (λ (p : VisitPlan). p.made) c.visit.ensures.place ∙ made-is) (ap (λ (p : VisitPlan). p.at) c.visit.ensures.place) (ap (λ (p : VisitPlan). p.found) c.visit.ensures.place ∙ ap (λ (p : VisitPlan). p.found) c.note.ensures)
    acts c.in-Some-next.ensures.small next

pub returns-in-None-clause-next : goal.returns-in-None-clause-next
returns-in-None-clause-next c = λ g first now later own known shown left over.
    let old = c.args.self.now in
    let made-is = ap (λ (p : VisitPlan). p.made) c.note.ensures in
    let none = subst (λ (m : VisitsMade). at_or_after (c.in-Some.vpage + 1) m.pages ≡ []) made-is c.in-None.ensures.none in
    goes-over old c.in-Some.vpage c.in-Word.word c.args.end g first now later _ c.copy.result c.in-Some.is c.in-Word.is known left
    (c.copy.ensures ∙ ap (λ (p : VisitPlan). p.found) c.note.ensures) none
