use Rattle.std.proofs.Common.{refl, ap, sym}
use Rattle.nm_fault.specs.Tasks.{FaultBegun, fault_in}
use Rattle.nm_fault.proofs.Tasking.{heard-inside, keeps-more, task-next, task-over}
use Rattle.nm_fault.proofs.task.FaultTaskPart.after.Goals as goal

pub after-requires : goal.after-requires
after-requires c = heard-inside _ _ c.args.self.now c.args.reply c.requires

pub returns-in-Do-clause-step : goal.returns-in-Do-clause-step
returns-in-Do-clause-step c = λ g v own action awaited fits.
    task-next _ _ _ _ _ g v _ c.in-Do.action c.after.result c.in-Do.is refl
    (keeps-more _ _ _ c.args.self.now _ g v own action c.args.reply awaited (ap (λ (made : FaultBegun). (fault_in made).1.page) (sym c.after.ensures.made)) refl c.note.ensures.page c.note.ensures.counted)
    (c.after.ensures.step g v own action awaited.awaited fits)

pub returns-in-Over-clause-step : goal.returns-in-Over-clause-step
returns-in-Over-clause-step c = λ g v own action awaited fits.
    task-over _ _ _ _ _ g v _ c.in-Over.end c.either_end.result c.after.result c.in-Over.is c.either_end.ensures
    (keeps-more _ _ _ c.args.self.now _ g v own action c.args.reply awaited (ap (λ (made : FaultBegun). (fault_in made).1.page) (sym c.after.ensures.made)) refl c.note.ensures.page c.note.ensures.counted)
    (c.after.ensures.step g v own action awaited.awaited fits)
