use Rattle.std.proofs.Common.{◌≡◌, ◌+◌, ◌∷◌, [], ap, ◌∙◌, subst}
use Rattle.nm_vpages.specs.VPages.{at_or_after}
use Rattle.nm_looks.specs.declared.looks.LooksMade.{LooksMade}
use Rattle.nm_looks.specs.declared.looks.Looks.{Looks}
use Rattle.nm_looks.specs.Looking.{looks_data}
use Rattle.nm_looks.proofs.Looking.{looks-on, looks-over, looks-at, mapped-below, outside-below, look-frame}
use Rattle.nm_looks.proofs.looks.LooksPlanAct.go_on.Goals as goal

pub note-requires-clause-mapped : goal.note-requires-clause-mapped
note-requires-clause-mapped c =
    let old = c.args.self.now in
    let r = c.requires in
    mapped-below (looks_data old) c.in-Some.vpage old.seen r.geometry r.first r.now (looks-at old c.in-Some.vpage r.geometry r.first r.now _ c.in-Some.is r.known)

pub note-requires-clause-outside : goal.note-requires-clause-outside
note-requires-clause-outside c =
    let old = c.args.self.now in
    let r = c.requires in
    outside-below (looks_data old) c.in-Some.vpage old.seen r.geometry r.first r.now (looks-at old c.in-Some.vpage r.geometry r.first r.now _ c.in-Some.is r.known)

pub note-requires-clause-frame : goal.note-requires-clause-frame
note-requires-clause-frame c =
    let r = c.requires in
    look-frame c.args.self.now c.in-Some.vpage c.in-Word.word c.args.end r.geometry r.first r.now r.later _ c.in-Some.is c.in-Word.is r.known r.left

pub returns-in-Some-next-clause-next : goal.returns-in-Some-next-clause-next
returns-in-Some-next-clause-next c = λ g first now later own known shown left over.
    let old = c.args.self.now in
    let made-is = ap (λ (p : Looks). p.made) c.note.ensures in
    let next = subst (λ (m : LooksMade). at_or_after (c.in-Some.vpage + 1) m.pages ≡ c.in-Some-next.next ∷ at_or_after (c.in-Some-next.next + 1) m.pages) made-is c.in-Some-next.ensures.some in
    looks-on old c.look.new.self c.look.result c.in-Some.vpage c.in-Word.word c.in-Some-next.next c.args.end g first now later _ c.in-Some.is c.in-Word.is known left
    (ap looks_data c.look.ensures.place ∙ ap looks_data c.note.ensures) (ap (λ (p : Looks). p.at) c.look.ensures.place) (ap (λ (p : Looks). p.seen) c.look.ensures.place ∙ ap (λ (p : Looks). p.seen) c.note.ensures)
    c.look.ensures.act c.in-Some-next.ensures.small next

pub returns-in-None-clause-next : goal.returns-in-None-clause-next
returns-in-None-clause-next c = λ g first now later own known shown left over.
    let old = c.args.self.now in
    let made-is = ap (λ (p : Looks). p.made) c.note.ensures in
    let none = subst (λ (m : LooksMade). at_or_after (c.in-Some.vpage + 1) m.pages ≡ []) made-is c.in-None.ensures.none in
    looks-over old c.in-Some.vpage c.in-Word.word c.args.end g first now later _ c.copy.result c.in-Some.is c.in-Word.is known left
    (c.copy.ensures ∙ ap (λ (p : Looks). p.seen) c.note.ensures) none
