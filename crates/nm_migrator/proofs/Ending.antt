-- Each pattern of the migrator has a list.
use Rattle.std.proofs.Common.{◌≡◌, ℕ, zero, suc, ◌+◌, ◌-◌, Bool, true, false, List, [], ◌∷◌, ◌++◌, length, drop, Option, Some, None, refl, subst}
use Rattle.std.specs.List.{range_with_len}
use Rattle.nm_base.specs.Geometry.{Geometry, page_count}
use Rattle.nm_action.specs.declared.action.Reply.{Reply}
use Rattle.nm_action.specs.declared.action.Reply.TheVariants.{Done}
use Rattle.nm_action.specs.declared.turn.Lane.{Lane}
use Rattle.nm_action.specs.declared.turn.Lane.TheVariants.{Candidates, Pending}
use Rattle.nm_cool.specs.declared.cool.Cooled.{Cooled}
use Rattle.nm_cool.specs.declared.cool.Cooled.TheVariants.{Busy, Cold}
use Rattle.nm_part.specs.Patterns.{Ends, Follows, Either, CanEnd}
use Rattle.nm_part.proofs.Patterns.{can-ends, can-follow, can-either, each-can, can-sometimes}
use Rattle.nm_worker.specs.declared.routine.Ended.{Ended}
use Rattle.nm_worker.specs.Notes.{Notes, worked, IsWorkDone, IsPut, IsTake}
use Rattle.nm_migrator_work.specs.declared.work.MigratorWork.TheVariants as works
use Rattle.nm_migrator_work.specs.Works.{MigratorWorkEnd, IsMigratorWork, made_mark, made_looks, made_cool, made_batch, made_move, made_ask}
use Rattle.nm_migrator_work.proofs.Listing.{all-ended}
use Rattle.nm_migrator.specs.declared.migrating.Migrating.{Migrating}
use Rattle.nm_migrator.specs.declared.migrating.MigratingStage.{MigratingStage}
use Rattle.nm_migrator.specs.declared.migrating.MigratingStage.TheVariants.{New, TakingCandidate, Judging, Heating, PuttingHot, Cooling, PuttingBack, Spilling, TakingPending, PuttingTwice, Planning, Batching, PuttingAgain, Moving, PuttingMoved, Asking, TakingLast, Unmarking, Over}
use Rattle.nm_migrator_work.specs.Ends.{mark_reply_in, looks_in, cooled_in, batch_in, move_in, drawn_in, all_ended_in, work_in, full_in, taken_page_in, migrator_counts}
use Rattle.nm_migrator_work.specs.Planned.{MigratorKept, nothing_kept, unaborted, is_among, most_taken, Plan, no_plan, planned, again_of, batched, is_busy_move, kept_drawn}
use Rattle.nm_migrator.specs.Migrating.{Sequence, Does, Puts, Taken, TakesMappedTry, TakesMapped, Spills, AfterCool, Cools, AfterHeat, Heats, Judges, UnmarkNext, Unmarks, AfterLast, Asks, MoveNext, MovesLocked, PutNext, AfterBatch, Batches, PlanNext, Plans, AfterTakes, PendingTaken, TakesPending, AfterCandidate, MigratorRounds, MigratesFrom, IsMigrating, IsMigratingBy}
use Rattle.nm_migrator.specs.Stages.{migrator_kept, migrator_plan, next_of, left_at, migrating_left, TakenLeft, MoreLeft}
use Rattle.nm_migrator.proofs.Looping.{page-put, can-does, can-puts, can-put-left, can-takes, can-taken}

-- what comes next has a list, from both places on
abbrev pub IsNextEnding : (Lane → MigratorKept → Sequence) → Type 0
IsNextEnding next = (lane : Lane) (kept : MigratorKept) → CanEnd (next lane kept)

pub can-unmarks : (g : Geometry) (pages : List ℕ) (kept : MigratorKept) → CanEnd (Unmarks g pages kept)
can-unmarks g pages kept = each-can (UnmarkNext g) pages kept (λ kept. Ends kept)
    (λ page now later can. can-does g (made_mark page 1 0) (λ end. later now) (λ end. can now)) (λ end. can-ends end)

module _ (g : Geometry) (retry : Option ℕ) (next : Lane → MigratorKept → Sequence) (ends : IsNextEnding next) where
  pub can-spills : (kept : MigratorKept) (page : ℕ) (full : Bool) → CanEnd (Spills g next kept page full)
  can-spills kept page full = can-either full (Does g (made_mark page 1 0) (λ end. next Pending kept)) (next Pending kept)
      (can-does g (made_mark page 1 0) (λ end. next Pending kept) (λ end. ends Pending kept)) (ends Pending kept)

  pub can-after-cool : (kept : MigratorKept) (page : ℕ) (end : Cooled) → CanEnd (AfterCool g next kept page end)
  can-after-cool kept page Busy = can-follow (IsPut Candidates page) (Spills g next kept page) (page-put Candidates page) (can-spills kept page false)
  can-after-cool kept page Cold = ends Candidates kept

  pub can-cools : (kept : MigratorKept) (page : ℕ) → CanEnd (Cools g next kept page)
  can-cools kept page = can-does g (made_cool g page) (λ end. AfterCool g next kept page (cooled_in end)) (λ end. can-after-cool kept page (cooled_in end))

  pub can-after-heat : (kept : MigratorKept) (page : ℕ) (reply : Reply) → CanEnd (AfterHeat next kept page reply)
  can-after-heat kept page Done = can-puts page (next Candidates kept) (ends Candidates kept)
  can-after-heat kept page _ = ends Candidates kept

  pub can-heats : (kept : MigratorKept) (page : ℕ) → CanEnd (Heats g next kept page)
  can-heats kept page = can-does g (made_mark page 1 2) (λ end. AfterHeat next (unaborted page kept) page (mark_reply_in end)) (λ end. can-after-heat (unaborted page kept) page (mark_reply_in end))

  pub can-judged : (kept : MigratorKept) (page : ℕ) (hot : Bool) → CanEnd (Either hot (Heats g next kept page) (Cools g next kept page))
  can-judged kept page hot = can-either hot (Heats g next kept page) (Cools g next kept page) (can-heats kept page) (can-cools kept page)

  pub can-judges : (kept : MigratorKept) (page : ℕ) → CanEnd (Judges g next kept page)
  can-judges kept page = can-does g (made_looks g page) (λ end. Either (looks_in end).hot (Heats g next kept page) (Cools g next kept page)) (λ end. can-judged kept page (looks_in end).hot)

  pub can-after-last : (kept : MigratorKept) (page : Option ℕ) → CanEnd (AfterLast g next kept page)
  can-after-last kept None = can-unmarks g (range_with_len 0 (page_count g)) kept
  can-after-last kept (Some page) = can-judges kept page

  pub can-asked : (kept : MigratorKept) (all : Bool) → CanEnd (Either all (TakesMapped g Candidates (AfterLast g next kept)) (next Candidates kept))
  can-asked kept all = can-either all (TakesMapped g Candidates (AfterLast g next kept)) (next Candidates kept) (can-takes g Candidates (AfterLast g next kept) (can-after-last kept None)) (ends Candidates kept)

  pub can-asks : (kept : MigratorKept) → CanEnd (Asks g next kept)
  can-asks kept = can-does g (made_ask g) (λ end. Either (all_ended_in end) (TakesMapped g Candidates (AfterLast g next kept)) (next Candidates kept)) (λ end. can-asked kept (all_ended_in end))

  pub can-moves : (moves : List (ℕ × ℕ)) (kept : MigratorKept) → CanEnd (MovesLocked g next moves kept)
  can-moves moves kept = each-can (MoveNext g) moves kept (next Candidates)
      (λ move now later can. can-does g (made_move g move.0 move.1 now.spent) (λ end. Either (is_busy_move (move_in end)) (Puts move.0 (later (kept_drawn (drawn_in end) now))) (later (kept_drawn (drawn_in end) now)))
      (λ end. can-put-left move.0 (is_busy_move (move_in end)) (later (kept_drawn (drawn_in end) now)) (can (kept_drawn (drawn_in end) now)))) (λ end. ends Candidates end)

  pub can-after-batch : (moves : List (ℕ × ℕ)) (again : List ℕ) (kept : MigratorKept) → CanEnd (AfterBatch g next moves again kept)
  can-after-batch moves again kept = each-can PutNext again kept (MovesLocked g next moves) (λ page now later can. can-puts page (later now) (can now)) (λ end. can-moves moves end)

  pub can-batches : (kept : MigratorKept) (moves pieces : List (ℕ × ℕ)) → CanEnd (Batches g next kept moves pieces)
  can-batches kept moves [] = can-moves moves kept
  can-batches kept moves (p ∷ ps) = can-does g (made_batch g (p ∷ ps) kept.spent) (λ end. AfterBatch g next moves (again_of (p ∷ ps) (batch_in end).end) (batched (p ∷ ps) (batch_in end) kept))
      (λ end. can-after-batch moves (again_of (p ∷ ps) (batch_in end).end) (batched (p ∷ ps) (batch_in end) kept))

  pub can-plans : (kept : MigratorKept) (pages : List ℕ) (plan : Plan) → CanEnd (Plans g retry next kept pages plan)
  can-plans kept pages plan = each-can (PlanNext g retry kept.aborts) pages plan (λ plan. Batches g next kept plan.moves plan.pieces)
      (λ page now later can. can-does g (made_looks g page) (λ end. later (planned g retry kept.aborts page (looks_in end).mapped now)) (λ end. can (planned g retry kept.aborts page (looks_in end).mapped now)))
      (λ plan. can-batches kept plan.moves plan.pieces)

  pub can-after-takes : (kept : MigratorKept) (taken : List ℕ) → CanEnd (AfterTakes g retry next kept taken)
  can-after-takes kept [] = can-asks kept
  can-after-takes kept (page ∷ pages) = can-plans kept (page ∷ pages) no_plan

  pub can-after-candidate : (kept : MigratorKept) (page : Option ℕ) → CanEnd (AfterCandidate g next kept page)
  can-after-candidate kept None = ends Pending kept
  can-after-candidate kept (Some page) = can-judges kept page

pub can-takes-pending : (g : Geometry) (after : List ℕ → Sequence) (more : ℕ) (taken : List ℕ) → CanEnd (after taken) → CanEnd (TakesPending g after more taken)
can-takes-pending g after zero taken can = can
can-takes-pending g after (suc more) taken can = can-takes g Pending (PendingTaken after (TakesPending g after more) taken) can

pub can-pending-taken : (after more : List ℕ → Sequence) (taken : List ℕ) (page : Option ℕ) → ((taken : List ℕ) → CanEnd (after taken)) → ((taken : List ℕ) → CanEnd (more taken)) → CanEnd (PendingTaken after more taken page)
can-pending-taken after more taken None a m = a taken
can-pending-taken after more taken (Some page) a m = can-either (is_among page taken) (Puts page (after taken)) (more (taken ++ page ∷ [])) (can-puts page (after taken) (a taken)) (m (taken ++ page ∷ []))

-- Rounds.

-- where all processors have ended and all lanes are empty
ends-asking : (g : Geometry) (next : Lane → MigratorKept → Sequence) (kept : MigratorKept) → CanEnd (Asks g next kept)
ends-asking g next kept =
    let all = all-ended g in
    can-follow (IsWorkDone IsMigratorWork migrator_counts (made_ask g) g) (λ end. Either (all_ended_in end) (TakesMapped g Candidates (AfterLast g next kept)) (next Candidates kept))
    (record { rest = worked (migrator_counts (works.Ask true)) all.0; outcome = works.Ask true; shown = record { own = all.0; shown = all.1; is = refl } })
    (can-takes g Candidates (AfterLast g next kept) (can-unmarks g (range_with_len 0 (page_count g)) kept))

ends-pending : (g : Geometry) (retry : Option ℕ) (n : ℕ) (kept : MigratorKept) → CanEnd (MigratorRounds g retry (suc n) Pending kept)
ends-pending g retry n kept =
    let c = can-takes-pending g (AfterTakes g retry (MigratorRounds g retry n) kept) most_taken [] (ends-asking g (MigratorRounds g retry n) kept) in
    record { rest = c.rest; outcome = c.outcome; shown = c.shown }

pub ends-next : (g : Geometry) (retry : Option ℕ) → IsNextEnding (MigratorRounds g retry (suc (suc zero)))
ends-next g retry Candidates kept =
    let c = can-takes g Candidates (AfterCandidate g (MigratorRounds g retry (suc zero)) kept) (ends-pending g retry zero kept) in
    record { rest = c.rest; outcome = c.outcome; shown = c.shown }
ends-next g retry Pending kept = ends-pending g retry (suc zero) kept

-- the pattern of the migrator has a list
pub some-from : (g : Geometry) (retry : Option ℕ) (kept : MigratorKept) → CanEnd (MigratesFrom g retry kept)
some-from g retry kept = can-sometimes (λ n. MigratorRounds g retry n Candidates kept) (suc (suc zero)) (ends-next g retry Candidates kept)

pub some-migrating : (g : Geometry) (retry : Option ℕ) → CanEnd (IsMigrating g retry)
some-migrating g retry = some-from g retry (nothing_kept g)

-- Stages.

-- a task comes with it
abbrev pub HasTask : MigratingStage → Type 0
HasTask New = ⊥
HasTask Over = ⊥
HasTask stage = Unit {0}

can-more : (m : Migrating) (n : ℕ) → IsNextEnding (next_of m n) → (page : Option ℕ) → CanEnd (MoreLeft m page n)
can-more m n ends page =
    let g = m.geometry.now in
    let after : (taken : List ℕ) → CanEnd (TakenLeft m taken n) = λ taken. can-after-takes g m.retry (next_of m n) ends (migrator_kept m) taken in
    can-pending-taken (λ taken. TakenLeft m taken n) (TakesPending g (λ taken. TakenLeft m taken n) (most_taken - (length m.taken + 1))) m.taken page after
    (λ taken. can-takes-pending g (λ taken. TakenLeft m taken n) (most_taken - (length m.taken + 1)) taken (after taken))

can-at : (m : Migrating) (stage : MigratingStage) (end : Ended MigratorWorkEnd) (n : ℕ) → IsNextEnding (next_of m n) → HasTask stage → CanEnd (left_at m stage end n)
can-at m New end n ends has = absurd has
can-at m TakingCandidate end n ends has =
    let each = can-after-candidate m.geometry.now m.retry (next_of m n) ends (migrator_kept m) in
    let after = AfterCandidate m.geometry.now (next_of m n) (migrator_kept m) in
    can-taken m.geometry.now (TakesMapped m.geometry.now Candidates after) after (taken_page_in end) (can-takes m.geometry.now Candidates after (each None)) each
can-at m (Judging page) end n ends has = can-judged m.geometry.now m.retry (next_of m n) ends (migrator_kept m) page (looks_in (work_in end)).hot
can-at m (Heating page) end n ends has = can-after-heat m.geometry.now m.retry (next_of m n) ends (migrator_kept m) page (mark_reply_in (work_in end))
can-at m (PuttingHot page) end n ends has = can-put-left page (full_in end) (next_of m n Candidates (migrator_kept m)) (ends Candidates (migrator_kept m))
can-at m (Cooling page) end n ends has = can-after-cool m.geometry.now m.retry (next_of m n) ends (migrator_kept m) page (cooled_in (work_in end))
can-at m (PuttingBack page) end n ends has = can-spills m.geometry.now m.retry (next_of m n) ends (migrator_kept m) page (full_in end)
can-at m (Spilling page) end n ends has = ends Pending (migrator_kept m)
can-at m TakingPending end n ends has =
    let after : Option ℕ → Sequence = λ page. MoreLeft m page n in
    can-taken m.geometry.now (TakesMapped m.geometry.now Pending after) after (taken_page_in end) (can-takes m.geometry.now Pending after (can-more m n ends None)) (can-more m n ends)
can-at m (PuttingTwice page) end n ends has = can-put-left page (full_in end) (TakenLeft m m.taken n) (can-after-takes m.geometry.now m.retry (next_of m n) ends (migrator_kept m) m.taken)
can-at m (Planning index page) end n ends has = can-plans m.geometry.now m.retry (next_of m n) ends (migrator_kept m) (drop (index + 1) m.taken) (planned m.geometry.now m.retry m.aborts.items page (looks_in (work_in end)).mapped (migrator_plan m))
can-at m Batching end n ends has = can-after-batch m.geometry.now m.retry (next_of m n) ends m.moves (again_of m.pieces (batch_in (work_in end)).end) (batched m.pieces (batch_in (work_in end)) (migrator_kept m))
can-at m (PuttingAgain index page) end n ends has = can-put-left page (full_in end) (AfterBatch m.geometry.now (next_of m n) m.moves (drop (index + 1) m.again) (migrator_kept m)) (can-after-batch m.geometry.now m.retry (next_of m n) ends m.moves (drop (index + 1) m.again) (migrator_kept m))
can-at m (Moving index page count) end n ends has =
    let kept = kept_drawn (drawn_in (work_in end)) (migrator_kept m) in
    can-put-left page (is_busy_move (move_in (work_in end))) (MovesLocked m.geometry.now (next_of m n) (drop (index + 1) m.moves) kept) (can-moves m.geometry.now m.retry (next_of m n) ends (drop (index + 1) m.moves) kept)
can-at m (PuttingMoved index page) end n ends has = can-put-left page (full_in end) (MovesLocked m.geometry.now (next_of m n) (drop (index + 1) m.moves) (migrator_kept m)) (can-moves m.geometry.now m.retry (next_of m n) ends (drop (index + 1) m.moves) (migrator_kept m))
can-at m Asking end n ends has = can-asked m.geometry.now m.retry (next_of m n) ends (migrator_kept m) (all_ended_in (work_in end))
can-at m TakingLast end n ends has =
    let each = can-after-last m.geometry.now m.retry (next_of m n) ends (migrator_kept m) in
    let after = AfterLast m.geometry.now (next_of m n) (migrator_kept m) in
    can-taken m.geometry.now (TakesMapped m.geometry.now Candidates after) after (taken_page_in end) (can-takes m.geometry.now Candidates after (each None)) each
can-at m (Unmarking page) end n ends has = can-unmarks m.geometry.now (range_with_len (page + 1) (page_count m.geometry.now - (page + 1))) (migrator_kept m)
can-at m Over end n ends has = absurd has

-- what is left after the task of a stage can be finished
pub can-left : (m : Migrating) (end : Ended MigratorWorkEnd) → HasTask m.stage → CanEnd (migrating_left m end)
can-left m end has = can-sometimes (left_at m m.stage end) (suc (suc zero)) (can-at m m.stage end (suc (suc zero)) (ends-next m.geometry.now m.retry) has)

-- No sequence is empty: the first turn is the take of a candidate.

no-take : (lane : Lane) (after : Option ℕ → Sequence) (outcome : MigratorKept) → ¬ Follows (IsTake lane) after [] outcome
no-take lane after outcome f =
    let L : Notes → Type 0 = λ l. [] ≡ l ++ f.back in
    let e = subst L f.shown.is f.is in
    cc e

no-try : (g : Geometry) (lane : Lane) (after : Option ℕ → Sequence) (n : ℕ) (outcome : MigratorKept) → ¬ TakesMappedTry g lane after n [] outcome
no-try g lane after zero outcome = λ h. h
no-try g lane after (suc n) outcome = λ h. no-take lane (λ page. Taken g (TakesMappedTry g lane after n) after page) outcome h

no-round : (g : Geometry) (retry : Option ℕ) (n : ℕ) (kept outcome : MigratorKept) → ¬ MigratorRounds g retry n Candidates kept [] outcome
no-round g retry zero kept outcome = λ h. h
no-round g retry (suc n) kept outcome = λ h. no-try g Candidates (AfterCandidate g (MigratorRounds g retry n) kept) h.tries outcome h.is

pub no-from : (g : Geometry) (retry : Option ℕ) (kept outcome : MigratorKept) → ¬ MigratesFrom g retry kept [] outcome
no-from g retry kept outcome = λ h. no-round g retry h.tries kept outcome h.is

no-front : (front back : Notes) → [] ≡ front ++ back → front ≡ []
no-front [] back is = refl
no-front (n ∷ front) back is = cc

pub no-migrating : (resumed : ℕ) (g : Geometry) (retry : Option ℕ) (outcome : MigratorKept) → ¬ IsMigratingBy resumed g retry [] outcome
no-migrating zero g retry outcome = no-from g retry (nothing_kept g) outcome
no-migrating (suc n) g retry outcome = λ h. no-migrating n g retry h.end (subst (λ (l : Notes). IsMigratingBy n g retry l h.end) (no-front h.front h.back h.is) h.shown)
