use Rattle.std.proofs.Common.{sym, ap, ◌∙◌, refl}
use Rattle.nm_compose.specs.declared.or.Or.TheVariants.{This, Other}
use Rattle.nm_demote.specs.Pieces.{demote_parts}
use Rattle.nm_demote.proofs.DemoteSteps.{after-busy-page, after-early, after-ready, after-moving, after-unlocking-demoted, after-giving-back, same-made}
use Rattle.nm_demote.proofs.demote.DemotePlanDemotePiece.go_on.Goals as goal

pub returns-in-Busy-clause-made : goal.returns-in-Busy-clause-made
returns-in-Busy-clause-made c = same-made c.args.self.now c.over.new.self c.over.ensures.geometry c.over.ensures.made

pub returns-in-Busy-clause-next : goal.returns-in-Busy-clause-next
returns-in-Busy-clause-next c = λ g first now later own known shown left over.
    after-busy-page c.args.self.now c.over.new.self c.over.result c.args.end _ g first now later own
    (record { at = sym c.replace.ensures.value ∙ c.in-Selecting.is; ended = c.in-This.is ∙ ap This c.in-Busy.is; known = known; left = left; shown = shown }) c.over.ensures.over

pub returns-in-Closed-clause-made : goal.returns-in-Closed-clause-made
returns-in-Closed-clause-made c = same-made c.args.self.now c.over-in-Closed.new.self c.over-in-Closed.ensures.geometry c.over-in-Closed.ensures.made

pub returns-in-Closed-clause-next : goal.returns-in-Closed-clause-next
returns-in-Closed-clause-next c = λ g first now later own known shown left over.
    after-early c.args.self.now c.over-in-Closed.new.self c.over-in-Closed.result c.args.end c.in-Closed.early c.demote_early_end.result _ g first now later own
    (record { at = sym c.replace.ensures.value ∙ c.in-Selecting.is; ended = c.in-This.is ∙ ap This c.in-Closed.is; known = known; left = left; shown = shown }) c.demote_early_end.ensures c.over-in-Closed.ensures.over

pub returns-in-Ready-clause-next : goal.returns-in-Ready-clause-next
returns-in-Ready-clause-next c = λ g first now later own known shown left over. record {
  new = c.transfer.ensures.new;
  run = after-ready c.args.self.now c.transfer.new.self (demote_parts c.transfer.result) c.args.end c.in-Ready.home c.in-Ready.frame c.in-Ready.source c.in-Ready.pages _ g first now later own
      (record { at = sym c.replace.ensures.value ∙ c.in-Selecting.is; ended = c.in-This.is ∙ ap This c.in-Ready.is; known = known; left = left; shown = shown }) c.transfer.ensures.stage c.transfer.ensures.made;
}

pub returns-in-This-end-clause-next : goal.returns-in-This-end-clause-next
returns-in-This-end-clause-next c = λ g first now later own known shown left over. record {
  new = c.unlock.ensures.new;
  run = after-moving c.args.self.now c.unlock.new.self (demote_parts c.unlock.result) c.args.end c.in-Moving.home c.in-Moving.frame c.in-Moving.source c.in-Moving.pages c.in-This-end.taken _ g first now later own
      (record { at = sym c.replace.ensures.value ∙ c.in-Moving.is; ended = c.in-Other.is ∙ ap Other c.in-This-end.is; known = known; left = left; shown = shown }) c.unlock.ensures.stage c.unlock.ensures.made;
}

pub returns-in-Unlocking-clause-next : goal.returns-in-Unlocking-clause-next
returns-in-Unlocking-clause-next c = λ g first now later own known shown left over. record {
  new = c.give_back.ensures.new;
  run = after-unlocking-demoted c.args.self.now c.give_back.new.self (demote_parts c.give_back.result) c.args.end c.in-Unlocking.home c.in-Unlocking.source _ g first now later own
      (record { at = sym c.replace.ensures.value ∙ c.in-Unlocking.is; ended = refl; known = known; left = left; shown = shown }) c.give_back.ensures.stage c.give_back.ensures.made;
}

pub returns-in-GivingBack-clause-made : goal.returns-in-GivingBack-clause-made
returns-in-GivingBack-clause-made c = same-made c.args.self.now c.over-in-GivingBack.new.self c.over-in-GivingBack.ensures.geometry c.over-in-GivingBack.ensures.made

pub returns-in-GivingBack-clause-next : goal.returns-in-GivingBack-clause-next
returns-in-GivingBack-clause-next c = λ g first now later own known shown left over.
    after-giving-back c.args.self.now c.over-in-GivingBack.new.self c.over-in-GivingBack.result c.args.end c.in-GivingBack.home c.in-GivingBack.source c.demoted_end.result _ g first now later own
    (record { at = sym c.replace.ensures.value ∙ c.in-GivingBack.is; ended = refl; known = known; left = left; shown = shown }) c.demoted_end.ensures c.over-in-GivingBack.ensures.over
