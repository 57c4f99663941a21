-- The migrator, as a pattern over finished lists of answered turns, the last step first. Each step is given what comes after it;
-- `next` is what comes next from the taking of candidates on, or from that of pending pages on.
use Rattle.std.specs.Prelude.{ℕ, zero, suc, Bool, List, [], ◌∷◌, ◌++◌, Option, Some, None}
use Rattle.std.specs.List.{range_with_len}
use Rattle.nm_base.specs.Geometry.{Geometry, page_count}
use Rattle.nm_action.specs.declared.action.Reply.{Reply}
use Rattle.nm_action.specs.declared.action.Reply.TheVariants.{Done}
use Rattle.nm_action.specs.declared.turn.Lane.{Lane}
use Rattle.nm_action.specs.declared.turn.Lane.TheVariants.{Candidates, Pending}
use Rattle.nm_part.specs.Patterns.{Ends, Follows, Either, Each, Sometimes}
use Rattle.nm_cool.specs.declared.cool.Cooled.{Cooled}
use Rattle.nm_cool.specs.declared.cool.Cooled.TheVariants.{Busy, Cold}
use Rattle.nm_worker.specs.Notes.{Notes, IsWorkDone, IsPut, IsTake}
use Rattle.nm_migrator_work.specs.Works.{MigratorWorkMade, MigratorWorkEnd, IsMigratorWork, made_mark, made_looks, made_cool, made_batch, made_move, made_ask}
use Rattle.nm_migrator_work.specs.Ends.{mark_reply_in, looks_in, cooled_in, batch_in, move_in, drawn_in, all_ended_in, migrator_counts}
use Rattle.nm_migrator_work.specs.Planned.{MigratorKept, nothing_kept, unaborted, is_mapped, is_among, most_taken, Plan, no_plan, planned, again_of, batched, is_busy_move, kept_drawn}

-- a pattern of sequences of the migrator, and what is kept at the end of each
abbrev pub Sequence : Type 1
Sequence = Notes → MigratorKept → Type 0

-- Tasks.

-- a piece of work is done
abbrev pub Does : Geometry → MigratorWorkMade → (MigratorWorkEnd → Sequence) → Sequence
Does g work after = Follows (IsWorkDone IsMigratorWork migrator_counts work g) after

-- a page is put in the pending ones, again while these are full
abbrev pub PutsTry : ℕ → Sequence → ℕ → Sequence
PutsTry page after zero notes outcome = ⊥
PutsTry page after (suc n) notes outcome = Follows (IsPut Pending page) (λ full. Either full (PutsTry page after n) after) notes outcome

abbrev pub Puts : ℕ → Sequence → Sequence
Puts page after = Sometimes (PutsTry page after)

-- a page is taken from a lane; one to which no virtual page is mapped is dropped, and the take is made again
abbrev pub Taken : Geometry → Sequence → (Option ℕ → Sequence) → Option ℕ → Sequence
Taken g again after None = after None
Taken g again after (Some page) = Either (is_mapped g page) (after (Some page)) again

abbrev pub TakesMappedTry : Geometry → Lane → (Option ℕ → Sequence) → ℕ → Sequence
TakesMappedTry g lane after zero notes outcome = ⊥
TakesMappedTry g lane after (suc n) notes outcome = Follows (IsTake lane) (λ page. Taken g (TakesMappedTry g lane after n) after page) notes outcome

abbrev pub TakesMapped : Geometry → Lane → (Option ℕ → Sequence) → Sequence
TakesMapped g lane after = Sometimes (TakesMappedTry g lane after)

-- 1. What is done with a candidate.

-- One that is not hot is cooled, and the next candidate is taken. Where it is busy it is put back, and where its lane is full it
-- is no candidate any more; then the pending pages are taken.
abbrev pub Spills : Geometry → (Lane → MigratorKept → Sequence) → MigratorKept → ℕ → Bool → Sequence
Spills g next kept page full = Either full (Does g (made_mark page 1 0) (λ end. next Pending kept)) (next Pending kept)

abbrev pub AfterCool : Geometry → (Lane → MigratorKept → Sequence) → MigratorKept → ℕ → Cooled → Sequence
AfterCool g next kept page Busy = Follows (IsPut Candidates page) (Spills g next kept page)
AfterCool g next kept page Cold = next Candidates kept

abbrev pub Cools : Geometry → (Lane → MigratorKept → Sequence) → MigratorKept → ℕ → Sequence
Cools g next kept page = Does g (made_cool g page) (λ end. AfterCool g next kept page (cooled_in end))

-- One that is hot is marked as pending, and where that is done, put in the pending pages; then the next candidate is taken.
abbrev pub AfterHeat : (Lane → MigratorKept → Sequence) → MigratorKept → ℕ → Reply → Sequence
AfterHeat next kept page Done = Puts page (next Candidates kept)
AfterHeat next kept page _ = next Candidates kept

abbrev pub Heats : Geometry → (Lane → MigratorKept → Sequence) → MigratorKept → ℕ → Sequence
Heats g next kept page = Does g (made_mark page 1 2) (λ end. AfterHeat next (unaborted page kept) page (mark_reply_in end))

-- Its virtual pages are looked at: whether some word is hot.
abbrev pub Judges : Geometry → (Lane → MigratorKept → Sequence) → MigratorKept → ℕ → Sequence
Judges g next kept page = Does g (made_looks g page) (λ end. Either (looks_in end).hot (Heats g next kept page) (Cools g next kept page))

-- 4. Where all processors have ended and there is no candidate, no page is a candidate any more, and the migrator ends.

abbrev pub UnmarkNext : Geometry → ℕ → MigratorKept → (MigratorKept → Sequence) → Sequence
UnmarkNext g page kept after = Does g (made_mark page 1 0) (λ end. after kept)

abbrev pub Unmarks : Geometry → List ℕ → MigratorKept → Sequence
Unmarks g pages kept = Each (UnmarkNext g) pages kept (λ kept. Ends kept)

abbrev pub AfterLast : Geometry → (Lane → MigratorKept → Sequence) → MigratorKept → Option ℕ → Sequence
AfterLast g next kept None = Unmarks g (range_with_len 0 (page_count g)) kept
AfterLast g next kept (Some page) = Judges g next kept page

abbrev pub Asks : Geometry → (Lane → MigratorKept → Sequence) → MigratorKept → Sequence
Asks g next kept = Does g (made_ask g) (λ end. Either (all_ended_in end) (TakesMapped g Candidates (AfterLast g next kept)) (next Candidates kept))

-- 3. What is done with the pending pages that were taken.

-- Last, each page that is to be moved while it is locked: a page that is busy is put in the pending pages again.
abbrev pub MoveNext : Geometry → ℕ × ℕ → MigratorKept → (MigratorKept → Sequence) → Sequence
MoveNext g move kept after = Does g (made_move g move.0 move.1 kept.spent) (λ end. Either (is_busy_move (move_in end)) (Puts move.0 (after (kept_drawn (drawn_in end) kept))) (after (kept_drawn (drawn_in end) kept)))

abbrev pub MovesLocked : Geometry → (Lane → MigratorKept → Sequence) → List (ℕ × ℕ) → MigratorKept → Sequence
MovesLocked g next moves kept = Each (MoveNext g) moves kept (next Candidates)

-- Before that, the batch of the others, if there are some; then the pages of those pieces that were aborted or busy are put in
-- the pending pages again.
abbrev pub PutNext : ℕ → MigratorKept → (MigratorKept → Sequence) → Sequence
PutNext page kept after = Puts page (after kept)

abbrev pub AfterBatch : Geometry → (Lane → MigratorKept → Sequence) → List (ℕ × ℕ) → List ℕ → MigratorKept → Sequence
AfterBatch g next moves again kept = Each PutNext again kept (MovesLocked g next moves)

abbrev pub Batches : Geometry → (Lane → MigratorKept → Sequence) → MigratorKept → List (ℕ × ℕ) → List (ℕ × ℕ) → Sequence
Batches g next kept moves [] = MovesLocked g next moves kept
Batches g next kept moves (p ∷ ps) = Does g (made_batch g (p ∷ ps) kept.spent) (λ end. AfterBatch g next moves (again_of (p ∷ ps) (batch_in end).end) (batched (p ∷ ps) (batch_in end) kept))

-- First, each page is looked at: how many of its words are not 0.
abbrev pub PlanNext : Geometry → Option ℕ → List ℕ → ℕ → Plan → (Plan → Sequence) → Sequence
PlanNext g retry aborts page plan after = Does g (made_looks g page) (λ end. after (planned g retry aborts page (looks_in end).mapped plan))

abbrev pub Plans : Geometry → Option ℕ → (Lane → MigratorKept → Sequence) → MigratorKept → List ℕ → Plan → Sequence
Plans g retry next kept pages plan = Each (PlanNext g retry kept.aborts) pages plan (λ plan. Batches g next kept plan.moves plan.pieces)

-- 2. Pending pages are taken, until there is none or eight were taken. A page that was taken already is put back, and ends this.

abbrev pub AfterTakes : Geometry → Option ℕ → (Lane → MigratorKept → Sequence) → MigratorKept → List ℕ → Sequence
AfterTakes g retry next kept [] = Asks g next kept
AfterTakes g retry next kept (page ∷ pages) = Plans g retry next kept (page ∷ pages) no_plan

abbrev pub PendingTaken : (List ℕ → Sequence) → (List ℕ → Sequence) → List ℕ → Option ℕ → Sequence
PendingTaken after more taken None = after taken
PendingTaken after more taken (Some page) = Either (is_among page taken) (Puts page (after taken)) (more (taken ++ page ∷ []))

abbrev pub TakesPending : Geometry → (List ℕ → Sequence) → ℕ → List ℕ → Sequence
TakesPending g after zero taken = after taken
TakesPending g after (suc more) taken = TakesMapped g Pending (PendingTaken after (TakesPending g after more) taken)

-- The whole.

abbrev pub AfterCandidate : Geometry → (Lane → MigratorKept → Sequence) → MigratorKept → Option ℕ → Sequence
AfterCandidate g next kept None = next Pending kept
AfterCandidate g next kept (Some page) = Judges g next kept page

-- from the taking of a candidate on, or from that of pending pages on
abbrev pub MigratorRound : Geometry → Option ℕ → (Lane → MigratorKept → Sequence) → Lane → MigratorKept → Sequence
MigratorRound g retry next Candidates kept = TakesMapped g Candidates (AfterCandidate g next kept)
MigratorRound g retry next Pending kept = TakesPending g (AfterTakes g retry next kept) most_taken []

-- at most so many times
abbrev pub MigratorRounds : Geometry → Option ℕ → ℕ → Lane → MigratorKept → Sequence
MigratorRounds g retry zero lane kept notes outcome = ⊥
MigratorRounds g retry (suc n) lane kept notes outcome = MigratorRound g retry (MigratorRounds g retry n) lane kept notes outcome

-- begun with what was kept
abbrev pub MigratesFrom : Geometry → Option ℕ → MigratorKept → Sequence
MigratesFrom g retry kept = Sometimes (λ n. MigratorRounds g retry n Candidates kept)

abbrev pub IsMigrating : Geometry → Option ℕ → Sequence
IsMigrating g retry = MigratesFrom g retry (nothing_kept g)

-- One that was resumed.

-- by how often it was resumed: so many whole sequences and then one more, each begun with what the one before it left
abbrev pub IsMigratingBy : ℕ → Geometry → Option ℕ → Sequence
IsMigratingBy zero g retry = IsMigrating g retry
IsMigratingBy (suc n) g retry = Follows (IsMigratingBy n g retry) (MigratesFrom g retry)
