use Rattle.std.proofs.Common.{◌-◌, ◌∙◌, ap, refl, rules}
use Rattle.nm_compose.specs.declared.or.Or.TheVariants.{This, Other}
use Rattle.nm_reclaim.proofs.Sweeping.{after-lock, after-busy, after-no-home, after-home, after-kept, after-shadow, after-discard, after-free, after-unlock, after-back, freed-fits, shadow-frame}
use Rattle.nm_reclaim.proofs.sweep.SweepPlanSweepPiece.go_on.Goals as goal

pub overflow_add-self-in-Other : goal.overflow_add-self-in-Other
overflow_add-self-in-Other c = freed-fits c.args.self.now c.in-PuttingBack.field-0 c.args.end (Other c.in-Other.field-0) c.requires.geometry c.requires.first c.requires.now c.requires.later _ c.in-PuttingBack.is c.in-Other.is c.requires.known c.requires.left

pub is_shadow_in-requires : goal.is_shadow_in-requires
is_shadow_in-requires c = shadow-frame c.args.self.now c.in-ReadingShadow.master c.in-Word-reply-2.word c.args.end c.requires.geometry c.requires.first c.requires.now c.requires.later _ c.in-ReadingShadow.is (c.in-This.is ∙ ap (λ r. This r) c.in-Word-reply-2.is) c.requires.known c.requires.left

pub returns-in-Done-clause-next : goal.returns-in-Done-clause-next
returns-in-Done-clause-next c = λ g first now later own known shown left over.
    after-lock c.args.self.now c.go.new.self c.go.result c.args.end g first now later _ (record { from = c.in-Locking.is; ended = c.in-This.is ∙ ap (λ r. This r) c.in-Done.is; is = c.go.ensures.stage; makes = c.go.ensures.made; fresh = c.go.ensures.new }) known left

pub returns-in-Busy-clause-next : goal.returns-in-Busy-clause-next
returns-in-Busy-clause-next c = λ g first now later own known shown left over.
    after-busy c.args.self.now c.visit_from-in-Busy.new.self c.visit_from-in-Busy.result c.args.end c.in-Busy.field-0 g first now later _ (record { from = c.in-Locking.is; ended = c.in-This.is ∙ ap (λ r. This r) c.in-Busy.is; next = c.visit_from-in-Busy.ensures }) known left

pub returns-then-word-eq0-clause-next : goal.returns-then-word-eq0-clause-next
returns-then-word-eq0-clause-next c = λ g first now later own known shown left over.
    after-no-home c.args.self.now c.go-then-word-eq0.new.self c.go-then-word-eq0.result c.args.end c.in-Word-reply.word g first now later _ c.if-word-eq0.true (record { from = c.in-ReadingHome.is; ended = c.in-This.is ∙ ap (λ r. This r) c.in-Word-reply.is; is = c.go-then-word-eq0.ensures.stage; makes = c.go-then-word-eq0.ensures.made; fresh = c.go-then-word-eq0.ensures.new }) known left

pub returns-else-word-eq0-clause-next : goal.returns-else-word-eq0-clause-next
returns-else-word-eq0-clause-next c = λ g first now later own known shown left over.
    after-home c.args.self.now c.go-in-ReadingHome.new.self c.go-in-ReadingHome.result c.args.end c.in-Word-reply.word (c.in-Word-reply.word - 1) g first now later _ c.if-word-eq0.false refl (record { from = c.in-ReadingHome.is; ended = c.in-This.is ∙ ap (λ r. This r) c.in-Word-reply.is; is = c.go-in-ReadingHome.ensures.stage; makes = c.go-in-ReadingHome.ensures.made; fresh = c.go-in-ReadingHome.ensures.new }) known left

pub returns-then-not-is_shadow_in-clause-next : goal.returns-then-not-is_shadow_in-clause-next
returns-then-not-is_shadow_in-clause-next c = λ g first now later own known shown left over.
    after-kept c.args.self.now c.go-then-not-is_shadow_in.new.self c.go-then-not-is_shadow_in.result c.args.end c.in-ReadingShadow.master c.in-Word-reply-2.word g first now later _ (search rules) (record { from = c.in-ReadingShadow.is; ended = c.in-This.is ∙ ap (λ r. This r) c.in-Word-reply-2.is; is = c.go-then-not-is_shadow_in.ensures.stage; makes = c.go-then-not-is_shadow_in.ensures.made; fresh = c.go-then-not-is_shadow_in.ensures.new }) known left

pub returns-else-not-is_shadow_in-clause-next : goal.returns-else-not-is_shadow_in-clause-next
returns-else-not-is_shadow_in-clause-next c = λ g first now later own known shown left over.
    after-shadow c.args.self.now c.go-in-ReadingShadow.new.self c.go-in-ReadingShadow.result c.args.end c.in-ReadingShadow.master c.in-Word-reply-2.word c.shadow_frame-shadow.result g first now later _ (search rules) c.shadow_frame-shadow.ensures (record { from = c.in-ReadingShadow.is; ended = c.in-This.is ∙ ap (λ r. This r) c.in-Word-reply-2.is; is = c.go-in-ReadingShadow.ensures.stage; makes = c.go-in-ReadingShadow.ensures.made; fresh = c.go-in-ReadingShadow.ensures.new }) known left

pub returns-in-Discarding-clause-next : goal.returns-in-Discarding-clause-next
returns-in-Discarding-clause-next c = λ g first now later own known shown left over.
    after-discard c.args.self.now c.go-in-Discarding.new.self c.go-in-Discarding.result c.args.end c.in-This.reply c.in-Discarding.master c.in-Discarding.shadow g first now later _ (record { from = c.in-Discarding.is; ended = c.in-This.is; is = c.go-in-Discarding.ensures.stage; makes = c.go-in-Discarding.ensures.made; fresh = c.go-in-Discarding.ensures.new }) known left

pub returns-in-Freeing-clause-next : goal.returns-in-Freeing-clause-next
returns-in-Freeing-clause-next c = λ g first now later own known shown left over.
    after-free c.args.self.now c.go-in-Freeing.new.self c.go-in-Freeing.result c.args.end c.in-This.reply c.in-Freeing.shadow g first now later _ (record { from = c.in-Freeing.is; ended = c.in-This.is; is = c.go-in-Freeing.ensures.stage; makes = c.go-in-Freeing.ensures.made; fresh = c.go-in-Freeing.ensures.new }) known left

pub returns-in-Unlocking-clause-next : goal.returns-in-Unlocking-clause-next
returns-in-Unlocking-clause-next c = λ g first now later own known shown left over.
    after-unlock c.args.self.now c.visit_from-in-Unlocking.new.self c.visit_from-in-Unlocking.result c.args.end c.in-This.reply g first now later _ (record { from = c.in-Unlocking.is; ended = c.in-This.is; next = c.visit_from-in-Unlocking.ensures }) known left

pub returns-in-PuttingBack-clause-next : goal.returns-in-PuttingBack-clause-next
returns-in-PuttingBack-clause-next c = λ g first now later own known shown left over.
    after-back c.args.self.now c.visit_from.new.self c.visit_from.result c.args.end c.in-PuttingBack.field-0 c.in-Other.field-0 g first now later own _ (record { from = c.in-PuttingBack.is; ended = c.in-Other.is; next = c.visit_from.ensures }) known shown left
