use Rattle.std.proofs.Common.{◌≡◌, not, Bool, true, false, refl, sym, ◌∙◌}
use Rattle.nm_inspect.specs.declared.inspect.Inspected.TheVariants.{Elsewhere, Idle}
use Rattle.nm_inspect.proofs.Steps.{softens-next, softens-some, looks-end, softens-end, ends-elsewhere, ends-idle}
use Rattle.nm_inspect.proofs.inspect.InspectPlanInspectPiece.go_on.Goals as goal

holds : (b : Bool) → not b ≡ false → b ≡ true
holds true e = refl
holds false e = cc

fails : (b : Bool) → not b ≡ true → b ≡ false
fails true e = cc
fails false e = refl

pub go-requires : goal.go-requires
go-requires c =
    let r = c.requires in
    softens-some c.args.self.now c.args.end c.in-This.seen _ r.geometry r.first r.now r.later r.own (sym c.replace.ensures.value ∙ c.in-Looking.is) c.in-This.is r.known r.left r.shown (holds c.in-This.seen.inside c.if-not-seen.false)

pub returns-then-not-seen-clause-next : goal.returns-then-not-seen-clause-next
returns-then-not-seen-clause-next c = λ g first now later own known shown left over.
    looks-end c.args.self.now Elsewhere c.args.end c.in-This.seen _ g first now later own (sym c.replace.ensures.value ∙ c.in-Looking.is) c.in-This.is known left shown
    (ends-elsewhere g c.in-This.seen (fails c.in-This.seen.inside c.if-not-seen.true))

pub returns-then-not-seen-2-clause-next : goal.returns-then-not-seen-2-clause-next
returns-then-not-seen-2-clause-next c = λ g first now later own known shown left over.
    looks-end c.args.self.now Idle c.args.end c.in-This.seen _ g first now later own (sym c.replace.ensures.value ∙ c.in-Looking.is) c.in-This.is known left shown
    (ends-idle g c.in-This.seen (holds c.in-This.seen.inside c.if-not-seen.false) (fails c.in-This.seen.accessed c.if-not-seen-2.true))

pub returns-else-not-seen-2-clause-next : goal.returns-else-not-seen-2-clause-next
returns-else-not-seen-2-clause-next c = λ g first now later own known shown left over.
    softens-next c.args.self.now c.go.new.self c.args.end c.in-This.seen _ c.go.result g first now later own (sym c.replace.ensures.value ∙ c.in-Looking.is) c.in-This.is known left shown
    c.go.ensures.stage c.go.ensures.made c.go.ensures.new (holds c.in-This.seen.inside c.if-not-seen.false) (holds c.in-This.seen.accessed c.if-not-seen-2.false)

pub returns-in-Softening-clause-next : goal.returns-in-Softening-clause-next
returns-in-Softening-clause-next c = λ g first now later own known shown left over.
    softens-end c.args.self.now c.in-Softening.field-0 c.args.end _ g first now later own (sym c.replace.ensures.value ∙ c.in-Softening.is) known left shown
