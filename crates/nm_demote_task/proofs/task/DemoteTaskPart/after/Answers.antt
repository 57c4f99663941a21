use Rattle.std.proofs.Common.{[], ◌∷◌, ◌++◌, refl}
use Rattle.nm_demote_task.specs.Tasks.{demote_task_made}
use Rattle.nm_demote_task.proofs.Tasks.{awaited-run, run-asked, run-ended, counts-more}
use Rattle.nm_demote_task.proofs.task.DemoteTaskPart.after.Goals as goal

pub after-requires : goal.after-requires
after-requires c =
    let h = c.requires in
    record {
      geometry = h.geometry;
      view = h.view;
      own = h.own;
      action = h.action;
      awaited = (awaited-run _ _ (demote_task_made c.args.self.now) c.args.self.now.run c.in-Some.run' h.geometry h.view h.own h.action c.in-Some.is h.awaited.run).held;
      fits = h.fits;
    }

pub returns-in-Do-clause-step : goal.returns-in-Do-clause-step
returns-in-Do-clause-step c = λ g v own action awaited fits.
    let made = demote_task_made c.args.self.now in
    let h = awaited-run _ _ made c.args.self.now.run c.in-Some.run' g v own action c.in-Some.is awaited.run in
    run-asked _ _ made _ _ _ g v (own ++ (action, c.args.reply) ∷ []) c.in-Do.action refl refl h.for c.after.ensures.made refl
    (counts-more c.args.self.now _ own action c.args.reply c.note.new.self refl refl awaited.given c.note.ensures.page c.note.ensures.counted awaited.counts)
    (c.in-Do.ensures.step g v own action h.held fits)

pub returns-in-Over-clause-step : goal.returns-in-Over-clause-step
returns-in-Over-clause-step c = λ g v own action awaited fits.
    let made = demote_task_made c.args.self.now in
    let h = awaited-run _ _ made c.args.self.now.run c.in-Some.run' g v own action c.in-Some.is awaited.run in
    run-ended _ made _ _ g v (own ++ (action, c.args.reply) ∷ []) c.in-Over.over _ h.for refl
    (record { idle = tt; counts = counts-more c.args.self.now _ own action c.args.reply c.note.new.self refl refl awaited.given c.note.ensures.page c.note.ensures.counted awaited.counts })
    (c.in-Over.ensures.step g v own action h.held fits)
