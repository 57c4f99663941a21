-- The sequence of the migrator leaves no choice. Each lemma is of two patterns, of which what comes next may be made a different
-- number of times.
use Rattle.std.proofs.Common.{ℕ, zero, suc, Bool, List, [], ◌∷◌, ◌++◌, Option, Some, None}
use Rattle.std.specs.List.{range_with_len}
use Rattle.nm_base.specs.Geometry.{Geometry, page_count}
use Rattle.nm_action.specs.declared.action.Reply.{Reply}
use Rattle.nm_action.specs.declared.action.Reply.TheVariants as replies
use Rattle.nm_action.specs.declared.spent.Spent.{Spent}
use Rattle.nm_action.specs.declared.turn.Lane.{Lane}
use Rattle.nm_action.specs.declared.turn.Lane.TheVariants.{Candidates, Pending}
use Rattle.nm_part.specs.Patterns.{Ends, Either, Each}
use Rattle.nm_looks.specs.declared.seen.Seen.{Seen}
use Rattle.nm_cool.specs.declared.cool.Cooled.{Cooled}
use Rattle.nm_cool.specs.declared.cool.Cooled.TheVariants.{Busy, Cold}
use Rattle.nm_txn.specs.declared.end.TxnEnd.{TxnEnd}
use Rattle.nm_locked.specs.declared.locked.LockedEnd.{LockedEnd}
use Rattle.nm_drawing.specs.declared.drawing.Drawn.{Drawn}
use Rattle.nm_worker.specs.Notes.{Notes, IsPut, IsTake}
use Rattle.nm_migrator_work.specs.Works.{MigratorWorkMade, MigratorWorkEnd, IsMigratorWork, made_mark, made_looks, made_cool, made_batch, made_move, made_ask}
use Rattle.nm_migrator_work.specs.Ends.{mark_reply_in, looks_in, cooled_in, batch_in, all_ended_in, migrator_counts}
use Rattle.nm_migrator_work.specs.Planned.{MigratorKept, nothing_kept, unaborted, is_mapped, is_among, most_taken, Plan, no_plan, planned, again_of, batched, is_busy_move, kept_drawn}
use Rattle.nm_migrator.specs.Migrating.{Sequence, Does, PutsTry, Puts, Taken, TakesMappedTry, TakesMapped, Spills, AfterCool, Cools, AfterHeat, Heats, Judges, UnmarkNext, Unmarks, AfterLast, Asks, MoveNext, MovesLocked, PutNext, AfterBatch, Batches, PlanNext, Plans, AfterTakes, PendingTaken, TakesPending, AfterCandidate, MigratorRound, MigratorRounds, IsMigrating}
use Rattle.nm_choice.specs.Deterministic.{AgreeUpToAnswers}
use Rattle.nm_choice.proofs.Patterns.{one-ends, agree-follows, agree-either, agree-each, agree-sometimes, one-sometimes}
use Rattle.nm_note_choice.specs.NotesApart.{AreNotesApart, IsDeterministicRoutine}
use Rattle.nm_note_choice.proofs.Tasks.{put-one, take-one}
use Rattle.nm_note_choice.proofs.Works.{work-follows}
use Rattle.nm_migrator_choice.proofs.Works.{TellsOnce, mark-told, looks-told, cool-told, ask-told, batch-told, move_tells, move-told}

abbrev Agree : Sequence → Sequence → Type 0
Agree first second = AgreeUpToAnswers AreNotesApart first second

-- what comes next, from the taking of candidates on, or from that of pending pages on
abbrev Next : Type 1
Next = Lane → MigratorKept → Sequence

abbrev NextAgree : Next → Next → Type 0
NextAgree next then = (lane : Lane) (kept : MigratorKept) → Agree (next lane kept) (then lane kept)

-- ---- tasks

does : {Z : Type 0} (g : Geometry) (work : MigratorWorkMade) (tell : MigratorWorkEnd → Z) (after then : Z → Sequence) → TellsOnce tell work g → ((z : Z) → Agree (after z) (then z)) → Agree (Does g work (λ end. after (tell end))) (Does g work (λ end. then (tell end)))
does g work tell after then told rest = work-follows IsMigratorWork migrator_counts work g tell after then told rest

puts-try : (page : ℕ) (after then : Sequence) (n m : ℕ) → Agree after then → Agree (PutsTry page after n) (PutsTry page then m)
puts-try page after then zero m rest = λ notes others outcome end h k. absurd h
puts-try page after then (suc n) zero rest = λ notes others outcome end h k. absurd k
puts-try page after then (suc n) (suc m) rest =
    agree-follows AreNotesApart (IsPut Pending page) (IsPut Pending page) (λ full. Either full (PutsTry page after n) after) (λ full. Either full (PutsTry page then m) then) (put-one Pending page)
    (λ full. agree-either AreNotesApart full (PutsTry page after n) (PutsTry page then m) after then (puts-try page after then n m rest) rest)

puts : (page : ℕ) (after then : Sequence) → Agree after then → Agree (Puts page after) (Puts page then)
puts page after then rest = agree-sometimes AreNotesApart (PutsTry page after) (PutsTry page then) (λ n m. puts-try page after then n m rest)

taken : (g : Geometry) (again retry : Sequence) (after then : Option ℕ → Sequence) (page : Option ℕ) → Agree again retry → ((page : Option ℕ) → Agree (after page) (then page)) → Agree (Taken g again after page) (Taken g retry then page)
taken g again retry after then None once rest = rest None
taken g again retry after then (Some page) once rest = agree-either AreNotesApart (is_mapped g page) (after (Some page)) (then (Some page)) again retry (rest (Some page)) once

takes-try : (g : Geometry) (lane : Lane) (after then : Option ℕ → Sequence) (n m : ℕ) → ((page : Option ℕ) → Agree (after page) (then page)) → Agree (TakesMappedTry g lane after n) (TakesMappedTry g lane then m)
takes-try g lane after then zero m rest = λ notes others outcome end h k. absurd h
takes-try g lane after then (suc n) zero rest = λ notes others outcome end h k. absurd k
takes-try g lane after then (suc n) (suc m) rest =
    agree-follows AreNotesApart (IsTake lane) (IsTake lane) (λ page. Taken g (TakesMappedTry g lane after n) after page) (λ page. Taken g (TakesMappedTry g lane then m) then page) (take-one lane)
    (λ page. taken g (TakesMappedTry g lane after n) (TakesMappedTry g lane then m) after then page (takes-try g lane after then n m rest) rest)

takes : (g : Geometry) (lane : Lane) (after then : Option ℕ → Sequence) → ((page : Option ℕ) → Agree (after page) (then page)) → Agree (TakesMapped g lane after) (TakesMapped g lane then)
takes g lane after then rest = agree-sometimes AreNotesApart (TakesMappedTry g lane after) (TakesMappedTry g lane then) (λ n m. takes-try g lane after then n m rest)

-- ---- candidates

spills : (g : Geometry) (next then : Next) (kept : MigratorKept) (page : ℕ) (full : Bool) → NextAgree next then → Agree (Spills g next kept page full) (Spills g then kept page full)
spills g next then kept page full rest =
    agree-either AreNotesApart full (Does g (made_mark page 1 0) (λ end. next Pending kept)) (Does g (made_mark page 1 0) (λ end. then Pending kept)) (next Pending kept) (then Pending kept)
    (does g (made_mark page 1 0) mark_reply_in (λ reply. next Pending kept) (λ reply. then Pending kept) (mark-told g page 1 0) (λ reply. rest Pending kept)) (rest Pending kept)

after-cool : (g : Geometry) (next then : Next) (kept : MigratorKept) (page : ℕ) (end : Cooled) → NextAgree next then → Agree (AfterCool g next kept page end) (AfterCool g then kept page end)
after-cool g next then kept page Busy rest =
    agree-follows AreNotesApart (IsPut Candidates page) (IsPut Candidates page) (Spills g next kept page) (Spills g then kept page) (put-one Candidates page) (λ full. spills g next then kept page full rest)
after-cool g next then kept page Cold rest = rest Candidates kept

cools : (g : Geometry) (next then : Next) (kept : MigratorKept) (page : ℕ) → NextAgree next then → Agree (Cools g next kept page) (Cools g then kept page)
cools g next then kept page rest = does g (made_cool g page) cooled_in (AfterCool g next kept page) (AfterCool g then kept page) (cool-told g page) (λ end. after-cool g next then kept page end rest)

after-heat : (next then : Next) (kept : MigratorKept) (page : ℕ) (reply : Reply) → NextAgree next then → Agree (AfterHeat next kept page reply) (AfterHeat then kept page reply)
after-heat next then kept page replies.Done rest = puts page (next Candidates kept) (then Candidates kept) (rest Candidates kept)
after-heat next then kept page (replies.Word n) rest = rest Candidates kept
after-heat next then kept page (replies.Busy n) rest = rest Candidates kept
after-heat next then kept page (replies.Lost n) rest = rest Candidates kept

heats : (g : Geometry) (next then : Next) (kept : MigratorKept) (page : ℕ) → NextAgree next then → Agree (Heats g next kept page) (Heats g then kept page)
heats g next then kept page rest =
    does g (made_mark page 1 2) mark_reply_in (AfterHeat next (unaborted page kept) page) (AfterHeat then (unaborted page kept) page) (mark-told g page 1 2) (λ reply. after-heat next then (unaborted page kept) page reply rest)

judges : (g : Geometry) (next then : Next) (kept : MigratorKept) (page : ℕ) → NextAgree next then → Agree (Judges g next kept page) (Judges g then kept page)
judges g next then kept page rest =
    does g (made_looks g page) looks_in (λ (seen : Seen). Either seen.hot (Heats g next kept page) (Cools g next kept page)) (λ (seen : Seen). Either seen.hot (Heats g then kept page) (Cools g then kept page)) (looks-told g page)
    (λ seen. agree-either AreNotesApart seen.hot (Heats g next kept page) (Heats g then kept page) (Cools g next kept page) (Cools g then kept page) (heats g next then kept page rest) (cools g next then kept page rest))

-- ---- the end

unmarks : (g : Geometry) (pages : List ℕ) (kept : MigratorKept) → Agree (Unmarks g pages kept) (Unmarks g pages kept)
unmarks g pages kept =
    agree-each AreNotesApart (UnmarkNext g) pages (λ kept. Ends kept) (λ kept. Ends kept)
    (λ page kept next later rest. does g (made_mark page 1 0) mark_reply_in (λ reply. next kept) (λ reply. later kept) (mark-told g page 1 0) (λ reply. rest kept))
    (λ kept. one-ends AreNotesApart kept) kept

after-last : (g : Geometry) (next then : Next) (kept : MigratorKept) (page : Option ℕ) → NextAgree next then → Agree (AfterLast g next kept page) (AfterLast g then kept page)
after-last g next then kept None rest = unmarks g (range_with_len 0 (page_count g)) kept
after-last g next then kept (Some page) rest = judges g next then kept page rest

asks : (g : Geometry) (next then : Next) (kept : MigratorKept) → NextAgree next then → Agree (Asks g next kept) (Asks g then kept)
asks g next then kept rest =
    does g (made_ask g) all_ended_in (λ (all : Bool). Either all (TakesMapped g Candidates (AfterLast g next kept)) (next Candidates kept)) (λ (all : Bool). Either all (TakesMapped g Candidates (AfterLast g then kept)) (then Candidates kept)) (ask-told g)
    (λ all. agree-either AreNotesApart all (TakesMapped g Candidates (AfterLast g next kept)) (TakesMapped g Candidates (AfterLast g then kept)) (next Candidates kept) (then Candidates kept)
    (takes g Candidates (AfterLast g next kept) (AfterLast g then kept) (λ page. after-last g next then kept page rest)) (rest Candidates kept))

-- ---- pending pages

moves : (g : Geometry) (next then : Next) (list : List (ℕ × ℕ)) (kept : MigratorKept) → NextAgree next then → Agree (MovesLocked g next list kept) (MovesLocked g then list kept)
moves g next then list kept rest =
    agree-each AreNotesApart (MoveNext g) list (next Candidates) (then Candidates)
    (λ move kept after later on. does g (made_move g move.0 move.1 kept.spent) move_tells
    (λ (p : LockedEnd × Spent). Either (is_busy_move p.0) (Puts move.0 (after (kept_drawn p.1 kept))) (after (kept_drawn p.1 kept)))
    (λ (p : LockedEnd × Spent). Either (is_busy_move p.0) (Puts move.0 (later (kept_drawn p.1 kept))) (later (kept_drawn p.1 kept)))
    (move-told g move.0 move.1 kept.spent)
    (λ p. agree-either AreNotesApart (is_busy_move p.0) (Puts move.0 (after (kept_drawn p.1 kept))) (Puts move.0 (later (kept_drawn p.1 kept))) (after (kept_drawn p.1 kept)) (later (kept_drawn p.1 kept))
    (puts move.0 (after (kept_drawn p.1 kept)) (later (kept_drawn p.1 kept)) (on (kept_drawn p.1 kept))) (on (kept_drawn p.1 kept))))
    (rest Candidates) kept

after-batch : (g : Geometry) (next then : Next) (list : List (ℕ × ℕ)) (again : List ℕ) (kept : MigratorKept) → NextAgree next then → Agree (AfterBatch g next list again kept) (AfterBatch g then list again kept)
after-batch g next then list again kept rest =
    agree-each AreNotesApart PutNext again (MovesLocked g next list) (MovesLocked g then list)
    (λ page kept after later on. puts page (after kept) (later kept) (on kept))
    (λ kept. moves g next then list kept rest) kept

batches : (g : Geometry) (next then : Next) (kept : MigratorKept) (list pieces : List (ℕ × ℕ)) → NextAgree next then → Agree (Batches g next kept list pieces) (Batches g then kept list pieces)
batches g next then kept list [] rest = moves g next then list kept rest
batches g next then kept list (p ∷ ps) rest =
    does g (made_batch g (p ∷ ps) kept.spent) batch_in
    (λ (told : Drawn (List TxnEnd)). AfterBatch g next list (again_of (p ∷ ps) told.end) (batched (p ∷ ps) told kept)) (λ (told : Drawn (List TxnEnd)). AfterBatch g then list (again_of (p ∷ ps) told.end) (batched (p ∷ ps) told kept))
    (batch-told g (p ∷ ps) kept.spent) (λ told. after-batch g next then list (again_of (p ∷ ps) told.end) (batched (p ∷ ps) told kept) rest)

plans : (g : Geometry) (retry : Option ℕ) (next then : Next) (kept : MigratorKept) (pages : List ℕ) (plan : Plan) → NextAgree next then → Agree (Plans g retry next kept pages plan) (Plans g retry then kept pages plan)
plans g retry next then kept pages plan rest =
    agree-each AreNotesApart (PlanNext g retry kept.aborts) pages (λ (plan : Plan). Batches g next kept plan.moves plan.pieces) (λ (plan : Plan). Batches g then kept plan.moves plan.pieces)
    (λ page plan after later on. does g (made_looks g page) looks_in (λ (seen : Seen). after (planned g retry kept.aborts page seen.mapped plan)) (λ (seen : Seen). later (planned g retry kept.aborts page seen.mapped plan)) (looks-told g page)
    (λ seen. on (planned g retry kept.aborts page seen.mapped plan)))
    (λ plan. batches g next then kept plan.moves plan.pieces rest) plan

after-takes : (g : Geometry) (retry : Option ℕ) (next then : Next) (kept : MigratorKept) (pages : List ℕ) → NextAgree next then → Agree (AfterTakes g retry next kept pages) (AfterTakes g retry then kept pages)
after-takes g retry next then kept [] rest = asks g next then kept rest
after-takes g retry next then kept (page ∷ pages) rest = plans g retry next then kept (page ∷ pages) no_plan rest

pending-taken : (after then more again : List ℕ → Sequence) (so_far : List ℕ) (page : Option ℕ) → ((pages : List ℕ) → Agree (after pages) (then pages)) → ((pages : List ℕ) → Agree (more pages) (again pages)) → Agree (PendingTaken after more so_far page) (PendingTaken then again so_far page)
pending-taken after then more again so_far None rest on = rest so_far
pending-taken after then more again so_far (Some page) rest on =
    agree-either AreNotesApart (is_among page so_far) (Puts page (after so_far)) (Puts page (then so_far)) (more (so_far ++ page ∷ [])) (again (so_far ++ page ∷ [])) (puts page (after so_far) (then so_far) (rest so_far)) (on (so_far ++ page ∷ []))

takes-pending : (g : Geometry) (after then : List ℕ → Sequence) (more : ℕ) (so_far : List ℕ) → ((pages : List ℕ) → Agree (after pages) (then pages)) → Agree (TakesPending g after more so_far) (TakesPending g then more so_far)
takes-pending g after then zero so_far rest = rest so_far
takes-pending g after then (suc more) so_far rest =
    takes g Pending (PendingTaken after (TakesPending g after more) so_far) (PendingTaken then (TakesPending g then more) so_far)
    (λ page. pending-taken after then (TakesPending g after more) (TakesPending g then more) so_far page rest (λ pages. takes-pending g after then more pages rest))

-- ---- the whole

after-candidate : (g : Geometry) (next then : Next) (kept : MigratorKept) (page : Option ℕ) → NextAgree next then → Agree (AfterCandidate g next kept page) (AfterCandidate g then kept page)
after-candidate g next then kept None rest = rest Pending kept
after-candidate g next then kept (Some page) rest = judges g next then kept page rest

round : (g : Geometry) (retry : Option ℕ) (next then : Next) (lane : Lane) (kept : MigratorKept) → NextAgree next then → Agree (MigratorRound g retry next lane kept) (MigratorRound g retry then lane kept)
round g retry next then Candidates kept rest = takes g Candidates (AfterCandidate g next kept) (AfterCandidate g then kept) (λ page. after-candidate g next then kept page rest)
round g retry next then Pending kept rest = takes-pending g (AfterTakes g retry next kept) (AfterTakes g retry then kept) most_taken [] (λ pages. after-takes g retry next then kept pages rest)

rounds : (g : Geometry) (retry : Option ℕ) (n m : ℕ) (lane : Lane) (kept : MigratorKept) → Agree (MigratorRounds g retry n lane kept) (MigratorRounds g retry m lane kept)
rounds g retry zero m lane kept = λ notes others outcome end h k. absurd h
rounds g retry (suc n) zero lane kept = λ notes others outcome end h k. absurd k
rounds g retry (suc n) (suc m) lane kept = round g retry (MigratorRounds g retry n) (MigratorRounds g retry m) lane kept (rounds g retry n m)

pub migrating-one : (g : Geometry) (retry : Option ℕ) → IsDeterministicRoutine (IsMigrating g retry)
migrating-one g retry = one-sometimes AreNotesApart (λ n. MigratorRounds g retry n Candidates (nothing_kept g)) (λ n m. rounds g retry n m Candidates (nothing_kept g))
