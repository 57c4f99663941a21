use Rattle.std.proofs.Common.{[], ◌∷◌, ◌++◌, Some, None, true, false, ap, sym, subst, ◌∙◌, length, arith}
use Rattle.nm_action.specs.declared.spent.Spent.{Spent}
use Rattle.nm_tally.specs.declared.counter.Counter.{Counter}
use Rattle.nm_tally.specs.Counting.{CountsEvents}
use Rattle.nm_worker.proofs.Turning.{first-turn, action-counts, work-requires, work-turn}
use Rattle.nm_worker.proofs.Lanes.{put-requires, put-turn, take-requires, take-turn}
use Rattle.nm_worker.proofs.worker.WorkerActor.next.Goals as goal

pub returns-in-Start-clause-turn : goal.returns-in-Start-clause-turn
returns-in-Start-clause-turn g c = rw c.in-Start.is (
    first-turn g.P.Part.made g.P.Part.is_new g.P.Part.may_begin g.P.Part.shape g.P.Part.awaits g.R.Routine.counts g.R.Routine.knows g.R.Routine.left g.R.Routine.stop g.R.Routine.made g.R.Routine.shape g.R.Routine.geometry g.R.Routine.number c.args.self.now.routine c.give.new.self.routine c.args.self.now.action c.give.new.self.action c.args.self.now.task c.give.new.self.task c.args.self.now.events c.give.new.self.events c.args.self.now.ends c.give.new.self.ends c.args.self.now.spent c.give.new.self.spent c.give.result
    c.give.ensures.routine c.give.ensures.events c.give.ensures.ends c.give.ensures.spent c.give.ensures.given)

pub note-requires : goal.note-requires
note-requires g c = let h = rw c.in-Answer.is at c.requires in
    action-counts g.P.Part.made g.P.Part.is_new g.P.Part.may_begin g.P.Part.shape g.P.Part.awaits g.R.Routine.counts (g.R.Routine.knows c.args.self.now.routine) (g.R.Routine.left c.args.self.now.routine) (g.R.Routine.stop c.args.self.now.routine) (g.R.Routine.shape (g.R.Routine.made c.args.self.now.routine)) (g.R.Routine.geometry (g.R.Routine.made c.args.self.now.routine)) (g.R.Routine.number (g.R.Routine.made c.args.self.now.routine)) c.args.self.now.action c.args.self.now.task c.args.self.now.events c.args.self.now.ends c.args.self.now.spent c.in-Answer.reply h

pub count-requires : goal.count-requires
count-requires g c = record { bumps = omega (arith, c.requires.agreed.few.bumps); raises = omega (arith, c.requires.agreed.few.raises) }

pub hear-requires : goal.hear-requires
hear-requires g c = let h = rw c.in-Answer.is at c.requires in
    work-requires g.P.Part.made g.P.Part.is_new g.P.Part.may_begin g.P.Part.shape g.P.Part.awaits g.R.Routine.counts (g.R.Routine.knows c.args.self.now.routine) (g.R.Routine.left c.args.self.now.routine) (g.R.Routine.stop c.args.self.now.routine) (g.R.Routine.shape (g.R.Routine.made c.args.self.now.routine)) (g.R.Routine.geometry (g.R.Routine.made c.args.self.now.routine)) (g.R.Routine.number (g.R.Routine.made c.args.self.now.routine)) c.args.self.now.action c.args.self.now.task c.args.self.now.events c.args.self.now.ends c.args.self.now.spent c.count.new.self c.in-Answer.reply h c.count.ensures

pub returns-in-Answer-clause-turn : goal.returns-in-Answer-clause-turn
returns-in-Answer-clause-turn g c = rw c.in-Answer.is (
    work-turn g.P.Part.made g.P.Part.is_new g.P.Part.may_begin g.P.Part.shape g.P.Part.awaits g.R.Routine.counts g.R.Routine.knows g.R.Routine.left g.R.Routine.stop g.R.Routine.made g.R.Routine.shape g.R.Routine.geometry g.R.Routine.number c.args.self.now.routine c.hear.new.self.routine c.args.self.now.action c.hear.new.self.action c.args.self.now.task c.hear.new.self.task c.args.self.now.events c.hear.new.self.events c.args.self.now.ends c.hear.new.self.ends c.args.self.now.spent c.hear.new.self.spent c.hear.result c.in-Answer.reply
    c.hear.ensures.made (c.hear.ensures.spent ∙ c.count.ensures)
    (λ own h. let D : Counter → Type 0 = λ k. CountsEvents k (own ++ (c.args.self.now.action, c.in-Answer.reply) ∷ []) in subst D (sym c.hear.ensures.events) (c.note.ensures.counted own h))
    (ap (λ (k : Counter). length k.locked.items) c.hear.ensures.events ∙ c.note.ensures.pages)
    (λ notes action here fits drawn. c.hear.ensures.given notes action here fits (record {
      bumps = sym (ap (λ (s : Spent). s.bumps) c.hear.ensures.spent) ∙ drawn.bumps;
      raises = sym (ap (λ (s : Spent). s.raises) c.hear.ensures.spent) ∙ drawn.raises;
    })))

pub go_on-requires : goal.go_on-requires
go_on-requires g c = let h = rw c.in-PutDone.is at c.requires in
    put-requires g.P.Part.made g.P.Part.is_new g.P.Part.may_begin g.P.Part.shape g.P.Part.awaits g.P.Part.leaves g.P.Part.ended g.R.Routine.counts (g.R.Routine.knows c.args.self.now.routine) (g.R.Routine.left c.args.self.now.routine) (g.R.Routine.stop c.args.self.now.routine) (g.R.Routine.shape (g.R.Routine.made c.args.self.now.routine)) (g.R.Routine.geometry (g.R.Routine.made c.args.self.now.routine)) (g.R.Routine.number (g.R.Routine.made c.args.self.now.routine)) c.args.self.now.action c.args.self.now.task c.args.self.now.events c.args.self.now.ends c.args.self.now.spent false h

pub returns-in-PutDone-clause-turn : goal.returns-in-PutDone-clause-turn
returns-in-PutDone-clause-turn g c = rw c.in-PutDone.is (
    put-turn g.P.Part.made g.P.Part.is_new g.P.Part.may_begin g.P.Part.shape g.P.Part.awaits g.P.Part.leaves g.P.Part.ended g.R.Routine.counts g.R.Routine.knows g.R.Routine.left g.R.Routine.stop g.R.Routine.made g.R.Routine.shape g.R.Routine.geometry g.R.Routine.number c.args.self.now.routine c.go_on.new.self.routine c.args.self.now.action c.go_on.new.self.action c.args.self.now.task c.go_on.new.self.task c.args.self.now.events c.go_on.new.self.events c.args.self.now.ends c.go_on.new.self.ends c.args.self.now.spent c.go_on.new.self.spent c.go_on.result false
    c.go_on.ensures.made c.go_on.ensures.events c.go_on.ensures.ends c.go_on.ensures.spent c.go_on.ensures.given)

pub go_on-requires-in-PutFull : goal.go_on-requires-in-PutFull
go_on-requires-in-PutFull g c = let h = rw c.in-PutFull.is at c.requires in
    put-requires g.P.Part.made g.P.Part.is_new g.P.Part.may_begin g.P.Part.shape g.P.Part.awaits g.P.Part.leaves g.P.Part.ended g.R.Routine.counts (g.R.Routine.knows c.args.self.now.routine) (g.R.Routine.left c.args.self.now.routine) (g.R.Routine.stop c.args.self.now.routine) (g.R.Routine.shape (g.R.Routine.made c.args.self.now.routine)) (g.R.Routine.geometry (g.R.Routine.made c.args.self.now.routine)) (g.R.Routine.number (g.R.Routine.made c.args.self.now.routine)) c.args.self.now.action c.args.self.now.task c.args.self.now.events c.args.self.now.ends c.args.self.now.spent true h

pub returns-in-PutFull-clause-turn : goal.returns-in-PutFull-clause-turn
returns-in-PutFull-clause-turn g c = rw c.in-PutFull.is (
    put-turn g.P.Part.made g.P.Part.is_new g.P.Part.may_begin g.P.Part.shape g.P.Part.awaits g.P.Part.leaves g.P.Part.ended g.R.Routine.counts g.R.Routine.knows g.R.Routine.left g.R.Routine.stop g.R.Routine.made g.R.Routine.shape g.R.Routine.geometry g.R.Routine.number c.args.self.now.routine c.go_on-in-PutFull.new.self.routine c.args.self.now.action c.go_on-in-PutFull.new.self.action c.args.self.now.task c.go_on-in-PutFull.new.self.task c.args.self.now.events c.go_on-in-PutFull.new.self.events c.args.self.now.ends c.go_on-in-PutFull.new.self.ends c.args.self.now.spent c.go_on-in-PutFull.new.self.spent c.go_on-in-PutFull.result true
    c.go_on-in-PutFull.ensures.made c.go_on-in-PutFull.ensures.events c.go_on-in-PutFull.ensures.ends c.go_on-in-PutFull.ensures.spent c.go_on-in-PutFull.ensures.given)

pub go_on-requires-in-Took : goal.go_on-requires-in-Took
go_on-requires-in-Took g c = let h = rw c.in-Took.is at c.requires in
    take-requires g.P.Part.made g.P.Part.is_new g.P.Part.may_begin g.P.Part.shape g.P.Part.awaits g.P.Part.leaves g.P.Part.ended g.R.Routine.counts (g.R.Routine.knows c.args.self.now.routine) (g.R.Routine.left c.args.self.now.routine) (g.R.Routine.stop c.args.self.now.routine) (g.R.Routine.shape (g.R.Routine.made c.args.self.now.routine)) (g.R.Routine.geometry (g.R.Routine.made c.args.self.now.routine)) (g.R.Routine.number (g.R.Routine.made c.args.self.now.routine)) c.args.self.now.action c.args.self.now.task c.args.self.now.events c.args.self.now.ends c.args.self.now.spent (Some c.in-Took.page) h

pub returns-in-Took-clause-turn : goal.returns-in-Took-clause-turn
returns-in-Took-clause-turn g c = rw c.in-Took.is (
    take-turn g.P.Part.made g.P.Part.is_new g.P.Part.may_begin g.P.Part.shape g.P.Part.awaits g.P.Part.leaves g.P.Part.ended g.R.Routine.counts g.R.Routine.knows g.R.Routine.left g.R.Routine.stop g.R.Routine.made g.R.Routine.shape g.R.Routine.geometry g.R.Routine.number c.args.self.now.routine c.go_on-in-Took.new.self.routine c.args.self.now.action c.go_on-in-Took.new.self.action c.args.self.now.task c.go_on-in-Took.new.self.task c.args.self.now.events c.go_on-in-Took.new.self.events c.args.self.now.ends c.go_on-in-Took.new.self.ends c.args.self.now.spent c.go_on-in-Took.new.self.spent c.go_on-in-Took.result (Some c.in-Took.page)
    c.go_on-in-Took.ensures.made c.go_on-in-Took.ensures.events c.go_on-in-Took.ensures.ends c.go_on-in-Took.ensures.spent c.go_on-in-Took.ensures.given)

pub go_on-requires-in-TookNone : goal.go_on-requires-in-TookNone
go_on-requires-in-TookNone g c = let h = rw c.in-TookNone.is at c.requires in
    take-requires g.P.Part.made g.P.Part.is_new g.P.Part.may_begin g.P.Part.shape g.P.Part.awaits g.P.Part.leaves g.P.Part.ended g.R.Routine.counts (g.R.Routine.knows c.args.self.now.routine) (g.R.Routine.left c.args.self.now.routine) (g.R.Routine.stop c.args.self.now.routine) (g.R.Routine.shape (g.R.Routine.made c.args.self.now.routine)) (g.R.Routine.geometry (g.R.Routine.made c.args.self.now.routine)) (g.R.Routine.number (g.R.Routine.made c.args.self.now.routine)) c.args.self.now.action c.args.self.now.task c.args.self.now.events c.args.self.now.ends c.args.self.now.spent None h

pub returns-in-TookNone-clause-turn : goal.returns-in-TookNone-clause-turn
returns-in-TookNone-clause-turn g c = rw c.in-TookNone.is (
    take-turn g.P.Part.made g.P.Part.is_new g.P.Part.may_begin g.P.Part.shape g.P.Part.awaits g.P.Part.leaves g.P.Part.ended g.R.Routine.counts g.R.Routine.knows g.R.Routine.left g.R.Routine.stop g.R.Routine.made g.R.Routine.shape g.R.Routine.geometry g.R.Routine.number c.args.self.now.routine c.go_on-in-TookNone.new.self.routine c.args.self.now.action c.go_on-in-TookNone.new.self.action c.args.self.now.task c.go_on-in-TookNone.new.self.task c.args.self.now.events c.go_on-in-TookNone.new.self.events c.args.self.now.ends c.go_on-in-TookNone.new.self.ends c.args.self.now.spent c.go_on-in-TookNone.new.self.spent c.go_on-in-TookNone.result None
    c.go_on-in-TookNone.ensures.made c.go_on-in-TookNone.ensures.events c.go_on-in-TookNone.ensures.ends c.go_on-in-TookNone.ensures.spent c.go_on-in-TookNone.ensures.given)
