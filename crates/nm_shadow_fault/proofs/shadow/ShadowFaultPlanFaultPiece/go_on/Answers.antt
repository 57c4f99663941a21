use Rattle.std.proofs.Common.{◌∙◌, ◌-◌, ap, refl, rules}
use Rattle.nm_compose.specs.declared.or.Or.TheVariants.{This, Other}
use Rattle.nm_shadow_fault.specs.declared.shadow.ShadowStage.TheVariants.{Unlocking}
use Rattle.nm_shadow_fault.proofs.Stepping.{after-lock, after-look, after-free, after-home, after-none, after-shadow, after-discard, after-grant, after-unlock, ends-ready, ends-granted, ends-back}
use Rattle.nm_shadow_fault.proofs.shadow.ShadowFaultPlanFaultPiece.go_on.Goals as goal

pub returns-in_default-clause-next : goal.returns-in_default-clause-next
returns-in_default-clause-next c = λ g first now later own known shown left over.
    after-lock c.args.self.now c.go.new.self c.go.result c.args.end c.in_default.field-0 g first now later _ (record { from = c.in-Locking.is; ended = c.in_default.is }) (record { is = c.go.ensures.stage; makes = c.go.ensures.made; fresh = c.go.ensures.new }) known left

pub returns-in_default-done-clause-next : goal.returns-in_default-done-clause-next
returns-in_default-done-clause-next c = λ g first now later own known shown left over.
    ends-back c.args.self.now c.args.end c.in-PuttingBack.shadow c.in_default-done.field-0 g first now later own _ (record { from = c.in-PuttingBack.is; ended = c.in-Other.is ∙ ap (λ d. Other d) c.in_default-done.is }) known shown left

pub returns-then-needs_grant-clause-next : goal.returns-then-needs_grant-clause-next
returns-then-needs_grant-clause-next c = λ g first now later own known shown left over.
    after-look c.args.self.now c.go-then-needs_grant.new.self c.go-then-needs_grant.result c.args.end c.in-Word.word g first now later _ (search rules) (record { from = c.in-Looking.is; ended = c.in-Other.is ∙ ap (λ d. Other d) (c.in-This.is ∙ ap (λ r. This r) c.in-Word.is) }) (record { is = c.go-then-needs_grant.ensures.stage; makes = c.go-then-needs_grant.ensures.made; fresh = c.go-then-needs_grant.ensures.new }) known left

pub returns-else-needs_grant-clause-next : goal.returns-else-needs_grant-clause-next
returns-else-needs_grant-clause-next c = λ g first now later own known shown left over.
    after-free c.args.self.now c.go-else-needs_grant.new.self c.go-else-needs_grant.result c.args.end c.in-Word.word g first now later _ (search rules) (record { from = c.in-Looking.is; ended = c.in-Other.is ∙ ap (λ d. Other d) (c.in-This.is ∙ ap (λ r. This r) c.in-Word.is) }) (record { is = c.go-else-needs_grant.ensures.stage; makes = c.go-else-needs_grant.ensures.made; fresh = c.go-else-needs_grant.ensures.new }) known left

pub returns-in-Leaving-clause-next : goal.returns-in-Leaving-clause-next
returns-in-Leaving-clause-next c = λ g first now later own known shown left over.
    ends-ready c.args.self.now c.args.end c.in-This.reply g first now later _ (record { from = c.in-Leaving.is; ended = c.in-Other.is ∙ ap (λ d. Other d) c.in-This.is }) known left

pub returns-in-Word-reply-clause-next : goal.returns-in-Word-reply-clause-next
returns-in-Word-reply-clause-next c = λ g first now later own known shown left over.
    after-home c.args.self.now c.go-in-ReadingHome.new.self c.go-in-ReadingHome.result c.args.end c.in-Word-reply.word (c.in-Word-reply.word - 1) g first now later _ refl (record { from = c.in-ReadingHome.is; ended = c.in-Other.is ∙ ap (λ d. Other d) (c.in-This.is ∙ ap (λ r. This r) c.in-Word-reply.is) }) (record { is = c.go-in-ReadingHome.ensures.stage; makes = c.go-in-ReadingHome.ensures.made; fresh = c.go-in-ReadingHome.ensures.new }) known left

pub returns-then-word-eq0-clause-next : goal.returns-then-word-eq0-clause-next
returns-then-word-eq0-clause-next c = λ g first now later own known shown left over.
    after-none c.args.self.now c.go-then-word-eq0.new.self c.go-then-word-eq0.result c.args.end c.in-ReadingShadow.master c.in-Word-reply-2.word g first now later _ c.if-word-eq0.true (record { from = c.in-ReadingShadow.is; ended = c.in-Other.is ∙ ap (λ d. Other d) (c.in-This.is ∙ ap (λ r. This r) c.in-Word-reply-2.is) }) (record { is = c.go-then-word-eq0.ensures.stage; makes = c.go-then-word-eq0.ensures.made; fresh = c.go-then-word-eq0.ensures.new }) known left

pub returns-else-word-eq0-clause-next : goal.returns-else-word-eq0-clause-next
returns-else-word-eq0-clause-next c = λ g first now later own known shown left over.
    after-shadow c.args.self.now c.go-in-ReadingShadow.new.self c.go-in-ReadingShadow.result c.args.end c.in-ReadingShadow.master c.in-Word-reply-2.word c.shadow_frame-shadow.result g first now later _ c.if-word-eq0.false c.shadow_frame-shadow.ensures (record { from = c.in-ReadingShadow.is; ended = c.in-Other.is ∙ ap (λ d. Other d) (c.in-This.is ∙ ap (λ r. This r) c.in-Word-reply-2.is) }) (record { is = c.go-in-ReadingShadow.ensures.stage; makes = c.go-in-ReadingShadow.ensures.made; fresh = c.go-in-ReadingShadow.ensures.new }) known left

pub returns-in-Discarding-clause-next : goal.returns-in-Discarding-clause-next
returns-in-Discarding-clause-next c = λ g first now later own known shown left over.
    after-discard c.args.self.now c.go-in-Discarding.new.self c.go-in-Discarding.result c.args.end c.in-This.reply c.in-Discarding.master c.in-Discarding.shadow g first now later _ (record { from = c.in-Discarding.is; ended = c.in-Other.is ∙ ap (λ d. Other d) c.in-This.is }) (record { is = c.go-in-Discarding.ensures.stage; makes = c.go-in-Discarding.ensures.made; fresh = c.go-in-Discarding.ensures.new }) known left

pub returns-in-Granting-clause-next : goal.returns-in-Granting-clause-next
returns-in-Granting-clause-next c = λ g first now later own known shown left over.
    after-grant c.args.self.now c.go-in-Granting.new.self c.go-in-Granting.result c.args.end c.in-This.reply c.in-Granting.shadow g first now later _ (record { from = c.in-Granting.is; ended = c.in-Other.is ∙ ap (λ d. Other d) c.in-This.is }) (record { is = c.go-in-Granting.ensures.stage; makes = c.go-in-Granting.ensures.made; fresh = c.go-in-Granting.ensures.new }) known left

pub returns-in-Some-clause-next : goal.returns-in-Some-clause-next
returns-in-Some-clause-next c = λ g first now later own known shown left over.
    after-unlock c.args.self.now c.go-in-Some.new.self c.go-in-Some.result c.args.end c.in-This.reply c.in-Some.shadow g first now later _ (record { from = c.in-Unlocking.is ∙ ap (λ s. Unlocking s) c.in-Some.is; ended = c.in-Other.is ∙ ap (λ d. Other d) c.in-This.is }) (record { is = c.go-in-Some.ensures.stage; makes = c.go-in-Some.ensures.made; fresh = c.go-in-Some.ensures.new }) known left

pub returns-in-None-clause-next : goal.returns-in-None-clause-next
returns-in-None-clause-next c = λ g first now later own known shown left over.
    ends-granted c.args.self.now c.args.end c.in-This.reply g first now later _ (record { from = c.in-Unlocking.is ∙ ap (λ s. Unlocking s) c.in-None.is; ended = c.in-Other.is ∙ ap (λ d. Other d) c.in-This.is }) known left
