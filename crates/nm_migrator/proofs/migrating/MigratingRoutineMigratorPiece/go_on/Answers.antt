use Rattle.std.proofs.Common.{◌<◌, ◌≤◌, ◌+◌, ℕ, Bool, List, Option, sym, ap, ◌∙◌, subst, arith}
use Rattle.nm_action.specs.declared.action.Reply.{Reply}
use Rattle.nm_action.specs.declared.spent.Spent.{Spent}
use Rattle.nm_base.specs.Geometry.{page_count}
use Rattle.nm_txn.specs.declared.end.TxnEnd.{TxnEnd}
use Rattle.nm_looks.specs.declared.seen.Seen.{Seen}
use Rattle.nm_cool.specs.declared.cool.Cooled.{Cooled}
use Rattle.nm_drawing.specs.declared.drawing.Drawn.{Drawn}
use Rattle.nm_transfer.specs.Stages.{HoldsWords}
use Rattle.nm_migrator_work.specs.Works.{MigratorWorkEnd, IsNewMigratorWork, MigratorWorkEnded}
use Rattle.nm_migrator.specs.declared.migrating.MigratingStage.TheVariants.{New, TakingCandidate, Judging, Heating, PuttingHot, Cooling, PuttingBack, Spilling, TakingPending, PuttingTwice, Planning, Batching, PuttingAgain, Moving, PuttingMoved, Asking, TakingLast, Unmarking, Over}
use Rattle.nm_migrator_work.specs.Ends.{mark_reply_in, looks_in, cooled_in, batch_in, move_in, drawn_in, all_ended_in, words_in, work_in}
use Rattle.nm_migrator_work.specs.Planned.{is_busy_move}
use Rattle.nm_migrator.specs.Stages.{migrator_kept, CandidateLeft, LastLeft, JudgedLeft, HeatedLeft, CooledLeft, BackLeft, PutLeft, CandidatesLeft, TakenLeft, PageLeft, PlannedLeft, BatchedLeft, AgainLeft, MovesLeft, MovedLeft, AskedLeft, Gives}
use Rattle.nm_migrator.proofs.Resting.{known-at, after-at, words-back, goes-on}
use Rattle.nm_migrator.proofs.migrating.MigratingRoutineMigratorPiece.go_on.Goals as goal

pub unreachable-requires : goal.unreachable-requires
unreachable-requires c =
    let old = c.args.self.now in
    known-at old New c.requires.now _ c.in-New.is c.requires.known

pub unreachable-requires-in-Over : goal.unreachable-requires-in-Over
unreachable-requires-in-Over c =
    let old = c.args.self.now in
    after-at MigratorWorkEnded old Over c.requires.now c.requires.later c.args._task.now c.args.end c.in-Over.is (c.requires.known, c.requires.over)

pub candidate-requires : goal.candidate-requires
candidate-requires c =
    let old = c.args.self.now in
    known-at old TakingCandidate c.requires.now _ c.in-TakingCandidate.is c.requires.known

pub returns-in-TakingCandidate-clause-next : goal.returns-in-TakingCandidate-clause-next
returns-in-TakingCandidate-clause-next c = λ now later known over drawn.
    let old = c.args.self.now in
    goes-on IsNewMigratorWork MigratorWorkEnded old c.candidate.new.self TakingCandidate c.args._task.now c.candidate.result c.args.end now later c.in-TakingCandidate.is (known, over) (subst (λ (x : Option ℕ). Gives IsNewMigratorWork old.geometry.now old.spent c.candidate.new.self c.candidate.result (CandidateLeft old x)) (c.taken_page_in.ensures) c.candidate.ensures.next)

pub judged-requires : goal.judged-requires
judged-requires c =
    let old = c.args.self.now in
    known-at old (Judging c.in-Judging.page) c.requires.now _ c.in-Judging.is c.requires.known

pub returns-in-Judging-clause-next : goal.returns-in-Judging-clause-next
returns-in-Judging-clause-next c = λ now later known over drawn.
    let old = c.args.self.now in
    goes-on IsNewMigratorWork MigratorWorkEnded old c.judged.new.self (Judging c.in-Judging.page) c.args._task.now c.judged.result c.args.end now later c.in-Judging.is (known, over) (subst (λ (x : Seen). Gives IsNewMigratorWork old.geometry.now old.spent c.judged.new.self c.judged.result (JudgedLeft old c.in-Judging.page x.hot)) (c.looks_in.ensures ∙ ap looks_in c.work_in.ensures) c.judged.ensures.next)

pub heated-requires : goal.heated-requires
heated-requires c =
    let old = c.args.self.now in
    known-at old (Heating c.in-Heating.page) c.requires.now _ c.in-Heating.is c.requires.known

pub returns-in-Heating-clause-next : goal.returns-in-Heating-clause-next
returns-in-Heating-clause-next c = λ now later known over drawn.
    let old = c.args.self.now in
    goes-on IsNewMigratorWork MigratorWorkEnded old c.heated.new.self (Heating c.in-Heating.page) c.args._task.now c.heated.result c.args.end now later c.in-Heating.is (known, over) (subst (λ (x : Reply). Gives IsNewMigratorWork old.geometry.now old.spent c.heated.new.self c.heated.result (HeatedLeft old c.in-Heating.page x)) (c.mark_reply_in.ensures ∙ ap mark_reply_in c.work_in-in-Heating.ensures) c.heated.ensures.next)

pub put_hot-requires : goal.put_hot-requires
put_hot-requires c =
    let old = c.args.self.now in
    known-at old (PuttingHot c.in-PuttingHot.page) c.requires.now _ c.in-PuttingHot.is c.requires.known

pub returns-in-PuttingHot-clause-next : goal.returns-in-PuttingHot-clause-next
returns-in-PuttingHot-clause-next c = λ now later known over drawn.
    let old = c.args.self.now in
    goes-on IsNewMigratorWork MigratorWorkEnded old c.put_hot.new.self (PuttingHot c.in-PuttingHot.page) c.args._task.now c.put_hot.result c.args.end now later c.in-PuttingHot.is (known, over) (subst (λ (x : Bool). Gives IsNewMigratorWork old.geometry.now old.spent c.put_hot.new.self c.put_hot.result (λ (n : ℕ). PutLeft c.in-PuttingHot.page x (CandidatesLeft old n))) (c.full_in.ensures) c.put_hot.ensures.next)

pub cooled-requires : goal.cooled-requires
cooled-requires c =
    let old = c.args.self.now in
    known-at old (Cooling c.in-Cooling.page) c.requires.now _ c.in-Cooling.is c.requires.known

pub returns-in-Cooling-clause-next : goal.returns-in-Cooling-clause-next
returns-in-Cooling-clause-next c = λ now later known over drawn.
    let old = c.args.self.now in
    goes-on IsNewMigratorWork MigratorWorkEnded old c.cooled.new.self (Cooling c.in-Cooling.page) c.args._task.now c.cooled.result c.args.end now later c.in-Cooling.is (known, over) (subst (λ (x : Cooled). Gives IsNewMigratorWork old.geometry.now old.spent c.cooled.new.self c.cooled.result (CooledLeft old c.in-Cooling.page x)) (c.cooled_in.ensures ∙ ap cooled_in c.work_in-in-Cooling.ensures) c.cooled.ensures.next)

pub put_back-requires : goal.put_back-requires
put_back-requires c =
    let old = c.args.self.now in
    known-at old (PuttingBack c.in-PuttingBack.page) c.requires.now _ c.in-PuttingBack.is c.requires.known

pub returns-in-PuttingBack-clause-next : goal.returns-in-PuttingBack-clause-next
returns-in-PuttingBack-clause-next c = λ now later known over drawn.
    let old = c.args.self.now in
    goes-on IsNewMigratorWork MigratorWorkEnded old c.put_back.new.self (PuttingBack c.in-PuttingBack.page) c.args._task.now c.put_back.result c.args.end now later c.in-PuttingBack.is (known, over) (subst (λ (x : Bool). Gives IsNewMigratorWork old.geometry.now old.spent c.put_back.new.self c.put_back.result (BackLeft old c.in-PuttingBack.page x)) (c.full_in-in-PuttingBack.ensures) c.put_back.ensures.next)

pub begin_pending-requires : goal.begin_pending-requires
begin_pending-requires c =
    let old = c.args.self.now in
    (known-at old (Spilling c.in-Spilling.field-0) c.requires.now _ c.in-Spilling.is c.requires.known).0

pub returns-in-Spilling-clause-next : goal.returns-in-Spilling-clause-next
returns-in-Spilling-clause-next c = λ now later known over drawn.
    let old = c.args.self.now in
    goes-on IsNewMigratorWork MigratorWorkEnded old c.begin_pending.new.self (Spilling c.in-Spilling.field-0) c.args._task.now c.begin_pending.result c.args.end now later c.in-Spilling.is (known, over) (c.begin_pending.ensures.next)

pub pending-requires : goal.pending-requires
pending-requires c =
    let old = c.args.self.now in
    known-at old TakingPending c.requires.now _ c.in-TakingPending.is c.requires.known

pub returns-in-TakingPending-clause-next : goal.returns-in-TakingPending-clause-next
returns-in-TakingPending-clause-next c = λ now later known over drawn.
    let old = c.args.self.now in
    goes-on IsNewMigratorWork MigratorWorkEnded old c.pending.new.self TakingPending c.args._task.now c.pending.result c.args.end now later c.in-TakingPending.is (known, over) (subst (λ (x : Option ℕ). Gives IsNewMigratorWork old.geometry.now old.spent c.pending.new.self c.pending.result (PageLeft old x)) (c.taken_page_in-in-TakingPending.ensures) c.pending.ensures.next)

pub put_twice-requires : goal.put_twice-requires
put_twice-requires c =
    let old = c.args.self.now in
    known-at old (PuttingTwice c.in-PuttingTwice.page) c.requires.now _ c.in-PuttingTwice.is c.requires.known

pub returns-in-PuttingTwice-clause-next : goal.returns-in-PuttingTwice-clause-next
returns-in-PuttingTwice-clause-next c = λ now later known over drawn.
    let old = c.args.self.now in
    goes-on IsNewMigratorWork MigratorWorkEnded old c.put_twice.new.self (PuttingTwice c.in-PuttingTwice.page) c.args._task.now c.put_twice.result c.args.end now later c.in-PuttingTwice.is (known, over) (subst (λ (x : Bool). Gives IsNewMigratorWork old.geometry.now old.spent c.put_twice.new.self c.put_twice.result (λ (n : ℕ). PutLeft c.in-PuttingTwice.page x (TakenLeft old old.taken n))) (c.full_in-in-PuttingTwice.ensures) c.put_twice.ensures.next)

pub planned-requires : goal.planned-requires
planned-requires c =
    let old = c.args.self.now in
    known-at old (Planning c.in-Planning.index c.in-Planning.page) c.requires.now _ c.in-Planning.is c.requires.known

pub returns-in-Planning-clause-next : goal.returns-in-Planning-clause-next
returns-in-Planning-clause-next c = λ now later known over drawn.
    let old = c.args.self.now in
    goes-on IsNewMigratorWork MigratorWorkEnded old c.planned.new.self (Planning c.in-Planning.index c.in-Planning.page) c.args._task.now c.planned.result c.args.end now later c.in-Planning.is (known, over) (subst (λ (x : Seen). Gives IsNewMigratorWork old.geometry.now old.spent c.planned.new.self c.planned.result (PlannedLeft old c.in-Planning.index c.in-Planning.page x.mapped)) (c.looks_in-in-Planning.ensures ∙ ap looks_in c.work_in-in-Planning.ensures) c.planned.ensures.next)

pub batched-requires : goal.batched-requires
batched-requires c =
    let old = c.args.self.now in
    known-at old Batching c.requires.now _ c.in-Batching.is c.requires.known

pub returns-in-Batching-clause-next : goal.returns-in-Batching-clause-next
returns-in-Batching-clause-next c = λ now later known over drawn.
    let old = c.args.self.now in
    goes-on IsNewMigratorWork MigratorWorkEnded old c.batched.new.self Batching c.args._task.now c.batched.result c.args.end now later c.in-Batching.is (known, over)
    (subst (λ (x : Drawn (List TxnEnd)). Gives IsNewMigratorWork old.geometry.now x.spent c.batched.new.self c.batched.result (BatchedLeft old x)) (c.batch_in.ensures ∙ ap batch_in c.work_in-in-Batching.ensures) c.batched.ensures.next)

pub put_again-requires : goal.put_again-requires
put_again-requires c =
    let old = c.args.self.now in
    known-at old (PuttingAgain c.in-PuttingAgain.index c.in-PuttingAgain.page) c.requires.now _ c.in-PuttingAgain.is c.requires.known

pub returns-in-PuttingAgain-clause-next : goal.returns-in-PuttingAgain-clause-next
returns-in-PuttingAgain-clause-next c = λ now later known over drawn.
    let old = c.args.self.now in
    goes-on IsNewMigratorWork MigratorWorkEnded old c.put_again.new.self (PuttingAgain c.in-PuttingAgain.index c.in-PuttingAgain.page) c.args._task.now c.put_again.result c.args.end now later c.in-PuttingAgain.is (known, over) (subst (λ (x : Bool). Gives IsNewMigratorWork old.geometry.now old.spent c.put_again.new.self c.put_again.result (λ (n : ℕ). PutLeft c.in-PuttingAgain.page x (AgainLeft old (c.in-PuttingAgain.index + 1) n))) (c.full_in-in-PuttingAgain.ensures) c.put_again.ensures.next)

pub moved-requires-clause-has : goal.moved-requires-clause-has
moved-requires-clause-has c =
    let old = c.args.self.now in
    (known-at old (Moving c.in-Moving.index c.in-Moving.page c.in-Moving.count) c.requires.now _ c.in-Moving.is c.requires.known).0

pub moved-requires-clause-moves : goal.moved-requires-clause-moves
moved-requires-clause-moves c =
    let old = c.args.self.now in
    (known-at old (Moving c.in-Moving.index c.in-Moving.page c.in-Moving.count) c.requires.now _ c.in-Moving.is c.requires.known).1

pub moved-requires-clause-few : goal.moved-requires-clause-few
moved-requires-clause-few c =
    let old = c.args.self.now in
    (known-at old (Moving c.in-Moving.index c.in-Moving.page c.in-Moving.count) c.requires.now _ c.in-Moving.is c.requires.known).3

pub moved-requires-clause-index : goal.moved-requires-clause-index
moved-requires-clause-index c =
    let old = c.args.self.now in
    (known-at old (Moving c.in-Moving.index c.in-Moving.page c.in-Moving.count) c.requires.now _ c.in-Moving.is c.requires.known).4

pub moved-requires-clause-words : goal.moved-requires-clause-words
moved-requires-clause-words c =
    let old = c.args.self.now in
    let e = c.words_in.ensures ∙ ap words_in c.work_in-end.ensures in
    subst (λ (x : Option (List (ℕ × ℕ))). HoldsWords x) (sym e) (words-back MigratorWorkEnded old c.in-Moving.index c.in-Moving.page c.in-Moving.count c.requires.now c.requires.later c.args._task.now c.args.end c.in-Moving.is (c.requires.known, c.requires.over))

pub returns-in-Moving-clause-next : goal.returns-in-Moving-clause-next
returns-in-Moving-clause-next c = λ now later known over drawn.
    let old = c.args.self.now in
    let e = c.work_in-end.ensures in
    let busy = c.is_busy_in-busy.ensures ∙ ap (λ (x : MigratorWorkEnd). is_busy_move (move_in x)) e in
    let spent = c.drawn_in-spent.ensures ∙ ap drawn_in e in
    goes-on IsNewMigratorWork MigratorWorkEnded old c.moved.new.self (Moving c.in-Moving.index c.in-Moving.page c.in-Moving.count) c.args._task.now c.moved.result c.args.end now later c.in-Moving.is (known, over)
    (subst (λ (x : Spent). Gives IsNewMigratorWork old.geometry.now x c.moved.new.self c.moved.result (MovedLeft old c.in-Moving.index c.in-Moving.page (is_busy_move (move_in (work_in c.args.end))) x)) spent
    (subst (λ (b : Bool). Gives IsNewMigratorWork old.geometry.now c.drawn_in-spent.result c.moved.new.self c.moved.result (MovedLeft old c.in-Moving.index c.in-Moving.page b c.drawn_in-spent.result)) busy c.moved.ensures.next))

pub put_moved-requires : goal.put_moved-requires
put_moved-requires c =
    let old = c.args.self.now in
    known-at old (PuttingMoved c.in-PuttingMoved.index c.in-PuttingMoved.page) c.requires.now _ c.in-PuttingMoved.is c.requires.known

pub returns-in-PuttingMoved-clause-next : goal.returns-in-PuttingMoved-clause-next
returns-in-PuttingMoved-clause-next c = λ now later known over drawn.
    let old = c.args.self.now in
    goes-on IsNewMigratorWork MigratorWorkEnded old c.put_moved.new.self (PuttingMoved c.in-PuttingMoved.index c.in-PuttingMoved.page) c.args._task.now c.put_moved.result c.args.end now later c.in-PuttingMoved.is (known, over) (subst (λ (x : Bool). Gives IsNewMigratorWork old.geometry.now old.spent c.put_moved.new.self c.put_moved.result (λ (n : ℕ). PutLeft c.in-PuttingMoved.page x (MovesLeft old (c.in-PuttingMoved.index + 1) (migrator_kept old) n))) (c.full_in-in-PuttingMoved.ensures) c.put_moved.ensures.next)

pub asked-requires : goal.asked-requires
asked-requires c =
    let old = c.args.self.now in
    known-at old Asking c.requires.now _ c.in-Asking.is c.requires.known

pub returns-in-Asking-clause-next : goal.returns-in-Asking-clause-next
returns-in-Asking-clause-next c = λ now later known over drawn.
    let old = c.args.self.now in
    goes-on IsNewMigratorWork MigratorWorkEnded old c.asked.new.self Asking c.args._task.now c.asked.result c.args.end now later c.in-Asking.is (known, over) (subst (λ (x : Bool). Gives IsNewMigratorWork old.geometry.now old.spent c.asked.new.self c.asked.result (AskedLeft old x)) (c.all_ended_in.ensures ∙ ap all_ended_in c.work_in-in-Asking.ensures) c.asked.ensures.next)

pub last-requires : goal.last-requires
last-requires c =
    let old = c.args.self.now in
    known-at old TakingLast c.requires.now _ c.in-TakingLast.is c.requires.known

pub returns-in-TakingLast-clause-next : goal.returns-in-TakingLast-clause-next
returns-in-TakingLast-clause-next c = λ now later known over drawn.
    let old = c.args.self.now in
    goes-on IsNewMigratorWork MigratorWorkEnded old c.last.new.self TakingLast c.args._task.now c.last.result c.args.end now later c.in-TakingLast.is (known, over) (subst (λ (x : Option ℕ). Gives IsNewMigratorWork old.geometry.now old.spent c.last.new.self c.last.result (LastLeft old x)) (c.taken_page_in-in-TakingLast.ensures) c.last.ensures.next)

pub unmark_from-requires : goal.unmark_from-requires
unmark_from-requires c =
    let old = c.args.self.now in
    (known-at old (Unmarking c.in-Unmarking.page) c.requires.now _ c.in-Unmarking.is c.requires.known).0

pub returns-clause-next : goal.returns-clause-next
returns-clause-next c = λ now later known over drawn.
    let old = c.args.self.now in
    goes-on IsNewMigratorWork MigratorWorkEnded old c.unmark_from.new.self (Unmarking c.in-Unmarking.page) c.args._task.now c.unmark_from.result c.args.end now later c.in-Unmarking.is (known, over) (c.unmark_from.ensures.next)

pub overflow_add-page : goal.overflow_add-page
overflow_add-page c =
    let old = c.args.self.now in
    let k = known-at old (Unmarking c.in-Unmarking.page) c.requires.now _ c.in-Unmarking.is c.requires.known in
    let few : page_count old.geometry.now ≤ 4096 = k.0.has.geometry.ranges.3.2 in
    let within : c.in-Unmarking.page < page_count old.geometry.now = k.1 in
    omega arith
