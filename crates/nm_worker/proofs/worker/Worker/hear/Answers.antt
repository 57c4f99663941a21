use Rattle.std.proofs.Common.{[], ◌∷◌, ◌++◌, Some, ap, ◌∙◌}
use Rattle.nm_action.specs.declared.tally.Tally.{Tally}
use Rattle.nm_action.specs.declared.turn.Turn.TheVariants as turn
use Rattle.nm_action.specs.declared.turn.Heard.TheVariants.{Answer}
use Rattle.nm_action.specs.Tally.{sum_of}
use Rattle.nm_worker.specs.declared.routine.Task.TheVariants.{Run}
use Rattle.nm_worker.specs.declared.routine.Ended.TheVariants as ended
use Rattle.nm_worker.proofs.Working.{ended-over, work-heard, work-more, work-over}
use Rattle.nm_worker.proofs.worker.Worker.hear.Goals as goal

pub after-requires : goal.after-requires
after-requires g c =
    work-heard g.P.Part.made g.P.Part.is_new g.P.Part.may_begin g.P.Part.shape g.P.Part.awaits g.R.Routine.counts (g.R.Routine.knows c.args.self.now.routine) (g.R.Routine.left c.args.self.now.routine) (g.R.Routine.stop c.args.self.now.routine) (g.R.Routine.shape (g.R.Routine.made c.args.self.now.routine)) (g.R.Routine.geometry (g.R.Routine.made c.args.self.now.routine)) (g.R.Routine.number (g.R.Routine.made c.args.self.now.routine)) c.args.self.now.action c.args.self.now.task c.in-Run.piece c.args.self.now.spent c.args.reply c.in-Run.is c.requires

pub go_on-requires : goal.go_on-requires
go_on-requires g c =
    let h = c.requires in
    ended-over g.P.Part.made g.P.Part.shape g.P.Part.leaves g.P.Part.ended (g.R.Routine.knows c.args.self.now.routine) (g.R.Routine.left c.args.self.now.routine) (g.R.Routine.shape (g.R.Routine.made c.args.self.now.routine)) (g.R.Routine.geometry (g.R.Routine.made c.args.self.now.routine)) (g.R.Routine.number (g.R.Routine.made c.args.self.now.routine)) c.args.self.now.spent (Run c.after.new.self) _ (ended.Run c.in-Over.end)
    (work-over g.P.Part.made g.P.Part.is_new g.P.Part.may_begin g.P.Part.shape g.P.Part.awaits g.P.Part.leaves g.P.Part.ended g.R.Routine.counts (g.R.Routine.knows c.args.self.now.routine) (g.R.Routine.left c.args.self.now.routine) (g.R.Routine.stop c.args.self.now.routine) (g.R.Routine.shape (g.R.Routine.made c.args.self.now.routine)) (g.R.Routine.geometry (g.R.Routine.made c.args.self.now.routine)) (g.R.Routine.number (g.R.Routine.made c.args.self.now.routine)) c.args.self.now.action c.args.self.now.task c.in-Run.piece c.after.new.self c.args.reply c.after.result c.in-Over.end c.args.self.now.spent
    c.in-Run.is c.after.ensures.made c.in-Over.is c.after.ensures.step
    h.notes h.action h.here h.fits h.drawn)

pub returns-in-Do-clause-given : goal.returns-in-Do-clause-given
returns-in-Do-clause-given g c =
    work-more g.P.Part.made g.P.Part.is_new g.P.Part.may_begin g.P.Part.shape g.P.Part.awaits g.P.Part.leaves g.P.Part.ended g.R.Routine.counts (g.R.Routine.knows c.args.self.now.routine) (g.R.Routine.left c.args.self.now.routine) (g.R.Routine.stop c.args.self.now.routine) (g.R.Routine.shape (g.R.Routine.made c.args.self.now.routine)) (g.R.Routine.geometry (g.R.Routine.made c.args.self.now.routine)) (g.R.Routine.number (g.R.Routine.made c.args.self.now.routine)) c.args.self.now.action c.args.self.now.task c.in-Run.piece c.after.new.self c.in-Do.action c.args.reply c.after.result c.args.self.now.ends c.args.self.now.spent
    c.in-Run.is c.after.ensures.made c.in-Do.is c.after.ensures.step

pub returns-in-Over-clause-given : goal.returns-in-Over-clause-given
returns-in-Over-clause-given g c = λ notes action here fits drawn.
    let over = work-over g.P.Part.made g.P.Part.is_new g.P.Part.may_begin g.P.Part.shape g.P.Part.awaits g.P.Part.leaves g.P.Part.ended g.R.Routine.counts (g.R.Routine.knows c.args.self.now.routine) (g.R.Routine.left c.args.self.now.routine) (g.R.Routine.stop c.args.self.now.routine) (g.R.Routine.shape (g.R.Routine.made c.args.self.now.routine)) (g.R.Routine.geometry (g.R.Routine.made c.args.self.now.routine)) (g.R.Routine.number (g.R.Routine.made c.args.self.now.routine)) c.args.self.now.action c.args.self.now.task c.in-Run.piece c.after.new.self c.args.reply c.after.result c.in-Over.end c.args.self.now.spent
    c.in-Run.is c.after.ensures.made c.in-Over.is c.after.ensures.step
    notes action here fits drawn in
    record {
      counts = Some (g.R.Routine.counts c.in-Over.end);
      ends = c.go_on.ensures.ends ∙ c.plus-self.ensures ∙ ap (λ (t : Tally). sum_of c.args.self.now.ends t) c.counts.ensures;
      next = c.go_on.ensures.given (notes ++ record { turn = turn.Do action; heard = Answer c.args.reply; counts = Some (g.R.Routine.counts c.in-Over.end) } ∷ []) over.now over.known over.over over.drawn over.due;
    }
