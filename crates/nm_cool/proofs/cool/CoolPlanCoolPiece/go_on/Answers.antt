use Rattle.std.proofs.Common.{◌≡◌, sym, ap, ◌∙◌, subst, refl}
use Rattle.nm_action.specs.declared.action.Reply.TheVariants.{Done}
use Rattle.nm_action.specs.declared.action.Reply.TheVariants as replies
use Rattle.nm_compose.specs.declared.or.Or.TheVariants.{This}
use Rattle.nm_part.proofs.Patterns.{ends-now}
use Rattle.nm_cool.specs.declared.cool.CoolStage.{CoolStage}
use Rattle.nm_cool.specs.declared.cool.CoolStage.TheVariants.{Locking, Looking, Arming, Marking, Unlocking}
use Rattle.nm_cool.specs.declared.cool.Cooled.TheVariants as ends
use Rattle.nm_cool.specs.Stages.{cool_data, outside_in, cool_arm_stage, cool_left}
use Rattle.nm_cool.proofs.Steps.{RunsCool, step-cool, over-cool, after-locking, after-busy, after-looking, after-arming, after-marking, after-unlocking}
use Rattle.nm_cool.proofs.cool.CoolPlanCoolPiece.go_on.Goals as goal

pub returns-in-Done-clause-next : goal.returns-in-Done-clause-next
returns-in-Done-clause-next c = λ g first now later own known shown left over.
    let old = c.args.self.now in
    let at = sym c.replace.ensures.value ∙ c.in-Locking.is in
    step-cool old c.go.new.self Locking Looking c.args.end (This Done) _ c.go.result g first now later own at (c.in-This.is ∙ ap This c.in-Done.is) known left shown c.go.ensures.stage c.go.ensures.made c.go.ensures.new
    (λ k a. after-locking (cool_data old) g first now later own k a)

pub returns-in-Busy-clause-next : goal.returns-in-Busy-clause-next
returns-in-Busy-clause-next c = λ g first now later own known shown left over.
    let old = c.args.self.now in
    let at = sym c.replace.ensures.value ∙ c.in-Locking.is in
    over-cool old Locking c.args.end (This (replies.Busy c.in-Busy.field-0)) _ ends.Busy g first now later own at (c.in-This.is ∙ ap This c.in-Busy.is) known left shown
    (λ k a. record { shown = ends-now ends.Busy; left = after-busy (cool_data old) g first now later own c.in-Busy.field-0 k a; over = tt })

pub returns-in-Looking-clause-next : goal.returns-in-Looking-clause-next
returns-in-Looking-clause-next c = λ g first now later own known shown left over.
    let old = c.args.self.now in
    let at = sym c.replace.ensures.value ∙ c.in-Looking.is in
    let e : c.cool_arm_stage.result ≡ cool_arm_stage (outside_in c.args.end) = c.cool_arm_stage.ensures ∙ ap cool_arm_stage c.outside_in.ensures in
    step-cool old c.go-in-Looking.new.self Looking c.cool_arm_stage.result c.args.end c.args.end _ c.go-in-Looking.result g first now later own at refl known left shown c.go-in-Looking.ensures.stage c.go-in-Looking.ensures.made c.go-in-Looking.ensures.new
    (λ k a. subst (λ (s : CoolStage). RunsCool (cool_data old) s (cool_left (cool_data old) Looking g c.args.end) g first later) (sym e) (after-looking (cool_data old) g first now later own c.args.end k a))

pub returns-in-Arming-clause-next : goal.returns-in-Arming-clause-next
returns-in-Arming-clause-next c = λ g first now later own known shown left over.
    let old = c.args.self.now in
    let at = sym c.replace.ensures.value ∙ c.in-Arming.is in
    step-cool old c.go-in-Arming.new.self (Arming c.in-Arming.field-0) Marking c.args.end c.args.end _ c.go-in-Arming.result g first now later own at refl known left shown c.go-in-Arming.ensures.stage c.go-in-Arming.ensures.made c.go-in-Arming.ensures.new
    (λ k a. after-arming (cool_data old) c.in-Arming.field-0 g first now later own c.args.end k a)

pub returns-in-Marking-clause-next : goal.returns-in-Marking-clause-next
returns-in-Marking-clause-next c = λ g first now later own known shown left over.
    let old = c.args.self.now in
    let at = sym c.replace.ensures.value ∙ c.in-Marking.is in
    step-cool old c.go-in-Marking.new.self Marking Unlocking c.args.end c.args.end _ c.go-in-Marking.result g first now later own at refl known left shown c.go-in-Marking.ensures.stage c.go-in-Marking.ensures.made c.go-in-Marking.ensures.new
    (λ k a. after-marking (cool_data old) g first now later own c.args.end k a)

pub returns-in-Unlocking-clause-next : goal.returns-in-Unlocking-clause-next
returns-in-Unlocking-clause-next c = λ g first now later own known shown left over.
    let old = c.args.self.now in
    let at = sym c.replace.ensures.value ∙ c.in-Unlocking.is in
    over-cool old Unlocking c.args.end c.args.end _ ends.Cold g first now later own at refl known left shown
    (λ k a. record { shown = ends-now ends.Cold; left = after-unlocking (cool_data old) g first now later own c.args.end k a; over = tt })
