use Rattle.std.proofs.Common.{sym, ap, ◌∙◌}
use Rattle.nm_compose.specs.declared.or.Or.TheVariants.{This, Other}
use Rattle.nm_locked.specs.Pieces.{locked_parts}
use Rattle.nm_locked.proofs.LockedSteps.{after-busy-page, after-early, after-ready, after-moving, after-marking-moved, after-unlocking-moved, after-giving-back, same-made}
use Rattle.nm_locked.proofs.locked.LockedPlanLockedPiece.go_on.Goals as goal

pub returns-in-Busy-clause-made : goal.returns-in-Busy-clause-made
returns-in-Busy-clause-made c = same-made c.args.self.now c.over.new.self c.over.ensures.geometry c.over.ensures.made

pub returns-in-Busy-clause-next : goal.returns-in-Busy-clause-next
returns-in-Busy-clause-next c = λ g first now later own known shown left over.
    let old = c.args.self.now in
    let at = sym c.replace.ensures.value ∙ c.in-Choosing.is in
    after-busy-page old c.over.new.self c.over.result c.args.end _ g first now later own at (c.in-This.is ∙ ap This c.in-Busy.is) known left shown c.over.ensures.over

pub returns-in-Closed-clause-made : goal.returns-in-Closed-clause-made
returns-in-Closed-clause-made c = same-made c.args.self.now c.over-in-Closed.new.self c.over-in-Closed.ensures.geometry c.over-in-Closed.ensures.made

pub returns-in-Closed-clause-next : goal.returns-in-Closed-clause-next
returns-in-Closed-clause-next c = λ g first now later own known shown left over.
    let old = c.args.self.now in
    let at = sym c.replace.ensures.value ∙ c.in-Choosing.is in
    after-early old c.over-in-Closed.new.self c.over-in-Closed.result c.args.end c.in-Closed.early c.move_early_end.result _ g first now later own at (c.in-This.is ∙ ap This c.in-Closed.is) c.move_early_end.ensures known left shown c.over-in-Closed.ensures.over

pub returns-in-Ready-clause-next : goal.returns-in-Ready-clause-next
returns-in-Ready-clause-next c = λ g first now later own known shown left over. record {
  new = c.transfer.ensures.new;
  run = let old = c.args.self.now in
      let at = sym c.replace.ensures.value ∙ c.in-Choosing.is in
      after-ready old c.transfer.new.self (locked_parts c.transfer.result) c.args.end c.in-Ready.home c.in-Ready.frame c.in-Ready.pages _ g first now later own at (c.in-This.is ∙ ap This c.in-Ready.is) known left shown c.transfer.ensures.stage c.transfer.ensures.made;
}

pub returns-in-This-end-clause-next : goal.returns-in-This-end-clause-next
returns-in-This-end-clause-next c = λ g first now later own known shown left over. record {
  new = c.act.ensures.new;
  run = let old = c.args.self.now in
      let at = sym c.replace.ensures.value ∙ c.in-Moving.is in
      after-moving old c.act.new.self (locked_parts c.act.result) c.args.end c.in-Moving.home c.in-Moving.frame c.in-Moving.pages c.in-This-end.taken _ g first now later own at (c.in-Other.is ∙ ap Other c.in-This-end.is) known left shown c.act.ensures.stage c.act.ensures.made;
}

pub returns-in-Marking-clause-next : goal.returns-in-Marking-clause-next
returns-in-Marking-clause-next c = λ g first now later own known shown left over. record {
  new = c.act-in-Marking.ensures.new;
  run = let old = c.args.self.now in
      let at = sym c.replace.ensures.value ∙ c.in-Marking.is in
      after-marking-moved old c.act-in-Marking.new.self (locked_parts c.act-in-Marking.result) c.args.end c.in-Marking.home _ g first now later own at known left shown c.act-in-Marking.ensures.stage c.act-in-Marking.ensures.made;
}

pub returns-in-Unlocking-clause-next : goal.returns-in-Unlocking-clause-next
returns-in-Unlocking-clause-next c = λ g first now later own known shown left over. record {
  new = c.give_back.ensures.new;
  run = let old = c.args.self.now in
      let at = sym c.replace.ensures.value ∙ c.in-Unlocking.is in
      after-unlocking-moved old c.give_back.new.self (locked_parts c.give_back.result) c.args.end c.in-Unlocking.home _ g first now later own at known left shown c.give_back.ensures.stage c.give_back.ensures.made;
}

pub returns-in-GivingBack-clause-made : goal.returns-in-GivingBack-clause-made
returns-in-GivingBack-clause-made c = same-made c.args.self.now c.over-in-GivingBack.new.self c.over-in-GivingBack.ensures.geometry c.over-in-GivingBack.ensures.made

pub returns-in-GivingBack-clause-next : goal.returns-in-GivingBack-clause-next
returns-in-GivingBack-clause-next c = λ g first now later own known shown left over.
    let old = c.args.self.now in
    let at = sym c.replace.ensures.value ∙ c.in-GivingBack.is in
    after-giving-back old c.over-in-GivingBack.new.self c.over-in-GivingBack.result c.args.end c.in-GivingBack.field-0 _ g first now later own at known left shown c.over-in-GivingBack.ensures.over
