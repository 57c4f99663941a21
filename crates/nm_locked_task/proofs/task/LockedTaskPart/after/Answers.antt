use Rattle.nm_locked_task.specs.Tasks.{locked_task_made}
use Rattle.nm_locked_task.proofs.Tasks.{awaited-move, move-asked, move-ended}
use Rattle.nm_locked_task.proofs.task.LockedTaskPart.after.Goals as goal

pub after-requires : goal.after-requires
after-requires c =
    let h = c.requires in
    record {
      geometry = h.geometry;
      view = h.view;
      own = h.own;
      action = h.action;
      awaited = (awaited-move _ _ (locked_task_made c.args.self.now) c.args.self.now.run c.in-Some.run' h.geometry h.view h.own h.action c.in-Some.is h.awaited).held;
      fits = h.fits;
    }

pub returns-in-Do-clause-step : goal.returns-in-Do-clause-step
returns-in-Do-clause-step c = λ g v own action awaited fits.
    let h = awaited-move _ _ (locked_task_made c.args.self.now) c.args.self.now.run c.in-Some.run' g v own action c.in-Some.is awaited in
    move-asked (locked_task_made c.args.self.now) _ _ _ g v _ c.in-Do.action h.for c.after.ensures.made (c.in-Do.ensures.step g v own action h.held fits)

pub returns-in-Over-clause-step : goal.returns-in-Over-clause-step
returns-in-Over-clause-step c = λ g v own action awaited fits.
    let h = awaited-move _ _ (locked_task_made c.args.self.now) c.args.self.now.run c.in-Some.run' g v own action c.in-Some.is awaited in
    move-ended (locked_task_made c.args.self.now) _ g v _ c.in-Over.over _ _ h.for (c.in-Over.ensures.step g v own action h.held fits) tt
