use Rattle.std.proofs.Common.{◌≡◌, ℕ, ◌+◌, ◌∷◌, [], ap, ◌∙◌, subst, arith}
use Rattle.nm_vpages.specs.VPages.{at_or_after}
use Rattle.nm_transfer.specs.declared.transfer.Stage.TheVariants.{Unmapping, Raising}
use Rattle.nm_transfer.specs.declared.transfer.TransferMade.{TransferMade}
use Rattle.nm_transfer.specs.declared.transfer.Transfer.{Transfer}
use Rattle.nm_transfer.specs.Stages.{transfer_piece, noted}
use Rattle.nm_transfer.proofs.Running.{after-unmap-next, after-unmap-all, after-raise, after-shoot, after-copy, after-unshade, after-home, after-map, few-places}
use Rattle.nm_transfer.proofs.transfer.TransferPlanTransferPiece.go_on.Goals as goal

pub overflow_add-index : goal.overflow_add-index
overflow_add-index c =
    let r = c.requires in
    let few = few-places c.args.self.now c.in-Mapping.index c.in-Mapping.vpage c.in-Mapping.word r.geometry r.first r.now _ c.in-Mapping.is r.known in
    omega (arith, few)

pub returns-in-Some-clause-next : goal.returns-in-Some-clause-next
returns-in-Some-clause-next c = λ g first now later own known shown left over.
    let old = c.args.self.now in
    let made-is = ap (λ (t : Transfer). t.made) c.note.ensures in
    let next = subst (λ (m : TransferMade). at_or_after (c.in-Unmapping.vpage + 1) m.pages ≡ c.in-Some.next ∷ at_or_after (c.in-Some.next + 1) m.pages) made-is c.in-Some.ensures.some in
    let runs = c.go.ensures.made ∙ ap (λ (m : TransferMade). transfer_piece m (Unmapping c.in-Some.next)) made-is in
    let taken = ap (λ (t : Transfer). t.taken) c.go.ensures.stage ∙ ap (λ (t : Transfer). t.taken) c.note.ensures ∙ ap (λ (w : ℕ). noted c.in-Unmapping.vpage w old.taken) c.transfer_told.ensures in
    after-unmap-next old c.go.new.self c.go.result c.in-Unmapping.vpage c.in-Some.next c.args.end g first now later _ c.in-Unmapping.is known left
    (ap (λ (t : Transfer). t.made) c.go.ensures.stage ∙ made-is) (ap (λ (t : Transfer). t.stage) c.go.ensures.stage) taken runs c.go.ensures.new c.in-Some.ensures.small next

pub returns-in-None-clause-next : goal.returns-in-None-clause-next
returns-in-None-clause-next c = λ g first now later own known shown left over.
    let old = c.args.self.now in
    let made-is = ap (λ (t : Transfer). t.made) c.note.ensures in
    let go = c.go-in-None in
    let none = subst (λ (m : TransferMade). at_or_after (c.in-Unmapping.vpage + 1) m.pages ≡ []) made-is c.in-None.ensures.none in
    let runs = go.ensures.made ∙ ap (λ (m : TransferMade). transfer_piece m Raising) made-is in
    let taken = ap (λ (t : Transfer). t.taken) go.ensures.stage ∙ ap (λ (t : Transfer). t.taken) c.note.ensures ∙ ap (λ (w : ℕ). noted c.in-Unmapping.vpage w old.taken) c.transfer_told.ensures in
    after-unmap-all old go.new.self go.result c.in-Unmapping.vpage c.args.end g first now later _ c.in-Unmapping.is known left
    (ap (λ (t : Transfer). t.made) go.ensures.stage ∙ made-is) (ap (λ (t : Transfer). t.stage) go.ensures.stage) taken runs go.ensures.new none

pub returns-in-Raising-clause-next : goal.returns-in-Raising-clause-next
returns-in-Raising-clause-next c = λ g first now later own known shown left over.
    after-raise c.args.self.now c.go-in-Raising.new.self c.go-in-Raising.result c.args.end g first now later _ c.in-Raising.is known left c.go-in-Raising.ensures.stage c.go-in-Raising.ensures.made c.go-in-Raising.ensures.new

pub returns-in-Flushing-clause-next : goal.returns-in-Flushing-clause-next
returns-in-Flushing-clause-next c = λ g first now later own known shown left over.
    after-shoot c.args.self.now c.go-in-Flushing.new.self c.go-in-Flushing.result c.filling_stage-stage.result c.args.end g first now later _ c.in-Flushing.is c.filling_stage-stage.ensures known left
    c.go-in-Flushing.ensures.stage c.go-in-Flushing.ensures.made c.go-in-Flushing.ensures.new

pub returns-in-Copying-clause-next : goal.returns-in-Copying-clause-next
returns-in-Copying-clause-next c = λ g first now later own known shown left over.
    after-copy c.args.self.now c.go-in-Copying.new.self c.go-in-Copying.result c.args.end g first now later _ c.in-Copying.is known left c.go-in-Copying.ensures.stage c.go-in-Copying.ensures.made c.go-in-Copying.ensures.new

pub returns-in-Unshading-clause-next : goal.returns-in-Unshading-clause-next
returns-in-Unshading-clause-next c = λ g first now later own known shown left over.
    after-unshade c.args.self.now c.go-in-Unshading.new.self c.go-in-Unshading.result c.args.end g first now later _ c.in-Unshading.is known left c.go-in-Unshading.ensures.stage c.go-in-Unshading.ensures.made c.go-in-Unshading.ensures.new

pub returns-in-Homing-clause-next : goal.returns-in-Homing-clause-next
returns-in-Homing-clause-next c = λ g first now later own known shown left over.
    after-home c.args.self.now c.map_from.new.self c.map_from.result c.args.end g first now later _ c.in-Homing.is known left c.map_from.ensures

pub returns-in-Mapping-clause-next : goal.returns-in-Mapping-clause-next
returns-in-Mapping-clause-next c = λ g first now later own known shown left over.
    after-map c.args.self.now c.map_from-in-Mapping.new.self c.in-Mapping.index c.in-Mapping.vpage c.in-Mapping.word c.map_from-in-Mapping.result c.args.end g first now later _ c.in-Mapping.is known left c.map_from-in-Mapping.ensures
