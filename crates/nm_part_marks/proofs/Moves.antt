-- Parts of the migrator: their only Marks take a page from pending to none, or a candidate to none.
use Rattle.std.proofs.Common.{ℕ, ◌-◌, ◌==◌, List, [], ◌∷◌, ◌++◌, length, Some, None}
use Rattle.nm_base.specs.Geometry.{Geometry}
use Rattle.nm_base.specs.ShadowWord.{shadow_frame}
use Rattle.nm_base.specs.PageWord.{is_dirty}
use Rattle.nm_action.specs.declared.action.AckTo.{AckTo}
use Rattle.nm_action.specs.declared.action.Action.TheVariants.{Lock, Unlock, Mark, Read, SetShadow, SetHome, ClearDirty, Raise, Arm, Map}
use Rattle.nm_action.specs.declared.action.Cell.TheVariants as cells
use Rattle.nm_action.specs.declared.action.Reply.{Reply}
use Rattle.nm_action.specs.declared.action.Reply.TheVariants.{Done, Word, Busy, Lost}
use Rattle.nm_part.specs.Patterns.{Ends, Follows}
use Rattle.nm_compose.specs.Acts.{IsAct}
use Rattle.nm_shoot.specs.Shootdown.{IsShootdown}
use Rattle.nm_pool.specs.Pool.{IsPool}
use Rattle.nm_pool.specs.declared.job.PoolJob.TheVariants.{Take, Back}
use Rattle.nm_pool.specs.declared.job.PoolEnd.{PoolEnd}
use Rattle.nm_pool.specs.declared.job.PoolEnd.TheVariants as pools
use Rattle.nm_vpages.specs.VPages.{vpages_of}
use Rattle.nm_mappings.specs.Visits.{IsVisits, looks_made, arms_made}
use Rattle.nm_looks.specs.Seeing.{IsLooks}
use Rattle.nm_looks.specs.Parts.{page_looks}
use Rattle.nm_copying.specs.Copying.{told, IsCopying}
use Rattle.nm_prepare.specs.Worn.{is_worn}
use Rattle.nm_prepare.specs.declared.prepare.PrepareMade.{PrepareMade}
use Rattle.nm_prepare.specs.declared.prepare.Early.{Early}
use Rattle.nm_prepare.specs.declared.prepare.Early.TheVariants as early
use Rattle.nm_prepare.specs.declared.prepare.Prepared.{Prepared}
use Rattle.nm_prepare.specs.declared.prepare.Prepared.TheVariants as prepared
use Rattle.nm_prepare.specs.Preparing.{is_slow_home, is_in_last, is_only, tier_above, floor_above, Closes, Clears, Discards, AfterTake, Takes, ReadsShadow, AfterLooks, Looks, AfterHome, ReadsHome, AfterLock, IsPrepare}
use Rattle.nm_commit.specs.declared.decide.DecideMade.{DecideMade}
use Rattle.nm_commit.specs.declared.decide.Decided.TheVariants as decided
use Rattle.nm_commit.specs.Unmapping.{UnmapsOne}
use Rattle.nm_commit.specs.Deciding.{moved_word, UnlocksPage, Marks, Maps, Shades, ReadsShadowWord, Commits, GivesBack, UnlocksOld, Aborts, IsDeciding}
use Rattle.nm_txn.specs.declared.batch.ReadyPiece.{ReadyPiece}
use Rattle.nm_txn.specs.declared.end.TxnEnd.TheVariants as txn
use Rattle.nm_txn.specs.Transactions.{early_end, decided_end, Decides, FlushesAgain, Unmaps, Copies, FlushesFirst, AfterPrepare, IsTxn}
use Rattle.nm_txn.specs.Batches as batch
use Rattle.nm_locked.specs.declared.choose.ChooseMade.{ChooseMade}
use Rattle.nm_locked.specs.declared.choose.Early.{Early as MoveEarly}
use Rattle.nm_locked.specs.declared.choose.Early.TheVariants as move_early
use Rattle.nm_locked.specs.declared.choose.Chosen.{Chosen}
use Rattle.nm_locked.specs.declared.choose.Chosen.TheVariants as chosen
use Rattle.nm_locked.specs.declared.locked.LockedEnd.TheVariants as locked
use Rattle.nm_locked.specs.Choosing.{UnlocksInMove, ClosesInMove, ArmsAll, PutsBackInMove, DiscardsInMove, ReadsShadowInMove, AfterTakeInMove, TakesInMove, AfterLooksInMove, LooksInMove, AfterHomeInMove, ReadsHomeInMove, AfterLockInMove, IsChoosing}
use Rattle.nm_locked.specs.Moves.{GivesBackInMove, UnlocksMoved, MarksInMove, locked_transfer, move_early_end, AfterChoosing, IsLockedInMove}
use Rattle.nm_transfer.specs.Transferring.{IsTransfer}
use Rattle.nm_cool.specs.declared.cool.Cooled.TheVariants as cooled
use Rattle.nm_cool.specs.Cooling.{CoolData, UnlocksCold, MarksCold, ArmsCold, AfterColdLock, IsCooling}
use Rattle.nm_marks.specs.Contents.{ListsOnly}
use Rattle.nm_marks.proofs.Patterns.{only-ends, only-follows, only-then, only-either, only-each}
use Rattle.nm_part_marks.specs.Actions.{IsActionOf}
use Rattle.nm_part_marks.proofs.Leaves.{shootdown-actions, pool-actions, copying-actions, unmaps-actions, visits-actions, looks-actions, transfer-actions}

-- ---- the steps of a transaction up to its first flush

closes-actions : (may : ℕ → ℕ → Type 0) (ack : AckTo → Type 0) → may 2 0 → (g : Geometry) (made : PrepareMade) (why : Early) → ListsOnly (IsActionOf may ack) (Closes g made why)
closes-actions may ack back g made why =
    only-then (IsActionOf may ack) (Mark made.page 2 0) g (λ marked. Follows (IsAct (Unlock made.page) g) (λ unlocked. Ends (prepared.Closed why))) back
    (λ marked. only-then (IsActionOf may ack) (Unlock made.page) g (λ unlocked. Ends (prepared.Closed why)) tt (λ unlocked. only-ends (IsActionOf may ack) (prepared.Closed why)))

clears-actions : (may : ℕ → ℕ → Type 0) (ack : AckTo → Type 0) (g : Geometry) (made : PrepareMade) (home frame : ℕ) → ListsOnly (IsActionOf may ack) (Clears g made home frame)
clears-actions may ack g made home frame =
    only-then (IsActionOf may ack) (ClearDirty made.vpage) g (λ cleared. Follows (IsAct (Raise made.vpage) g) (λ raised. Ends (prepared.Ready home frame))) tt
    (λ cleared. only-then (IsActionOf may ack) (Raise made.vpage) g (λ raised. Ends (prepared.Ready home frame)) tt (λ raised. only-ends (IsActionOf may ack) (prepared.Ready home frame)))

discards-actions : (may : ℕ → ℕ → Type 0) (ack : AckTo → Type 0) (g : Geometry) (made : PrepareMade) (home shadow frame : ℕ) → ListsOnly (IsActionOf may ack) (Discards g made home shadow frame)
discards-actions may ack g made home shadow frame =
    let back = λ (set : Reply). only-follows (IsActionOf may ack) (IsPool g (Back (shadow_frame shadow))) (λ back. Clears g made home frame) (pool-actions may ack g (Back (shadow_frame shadow))) (λ back. clears-actions may ack g made home frame) in
    only-either (IsActionOf may ack) (shadow == 0) (Clears g made home frame) (Follows (IsAct (SetShadow made.page home None) g) (λ set. Follows (IsPool g (Back (shadow_frame shadow))) (λ back. Clears g made home frame)))
    (clears-actions may ack g made home frame)
    (only-then (IsActionOf may ack) (SetShadow made.page home None) g (λ set. Follows (IsPool g (Back (shadow_frame shadow))) (λ back. Clears g made home frame)) tt back)

take-actions : (may : ℕ → ℕ → Type 0) (ack : AckTo → Type 0) → may 2 0 → (g : Geometry) (made : PrepareMade) (home shadow : ℕ) (end : PoolEnd) → ListsOnly (IsActionOf may ack) (AfterTake g made home shadow end)
take-actions may ack back g made home shadow (pools.Got frame) = discards-actions may ack g made home shadow frame
take-actions may ack back g made home shadow (pools.AtFloor n) = only-then (IsActionOf may ack) (Arm made.vpage) g (λ armed. Closes g made (early.NoFrame n)) tt (λ armed. closes-actions may ack back g made (early.NoFrame n))
take-actions may ack back g made home shadow (pools.Level n) = λ own outcome h. absurd h
take-actions may ack back g made home shadow pools.Back = λ own outcome h. absurd h

takes-actions : (may : ℕ → ℕ → Type 0) (ack : AckTo → Type 0) → may 2 0 → (g : Geometry) (made : PrepareMade) (home shadow : ℕ) → ListsOnly (IsActionOf may ack) (Takes g made home shadow)
takes-actions may ack back g made home shadow =
    only-follows (IsActionOf may ack) (IsPool g (Take (tier_above g home) (floor_above g home))) (AfterTake g made home shadow) (pool-actions may ack g (Take (tier_above g home) (floor_above g home))) (take-actions may ack back g made home shadow)

shadow-actions : (may : ℕ → ℕ → Type 0) (ack : AckTo → Type 0) → may 2 0 → (g : Geometry) (made : PrepareMade) (home : ℕ) → ListsOnly (IsActionOf may ack) (ReadsShadow g made home)
shadow-actions may ack back g made home =
    only-either (IsActionOf may ack) (is_in_last g home) (Takes g made home 0) (Follows (IsAct (Read made.page (cells.Shadow home)) g) (λ reply. Takes g made home (told reply)))
    (takes-actions may ack back g made home 0)
    (only-then (IsActionOf may ack) (Read made.page (cells.Shadow home)) g (λ reply. Takes g made home (told reply)) tt (λ reply. takes-actions may ack back g made home (told reply)))

after-looks-actions : (may : ℕ → ℕ → Type 0) (ack : AckTo → Type 0) → may 2 0 → (g : Geometry) (made : PrepareMade) (home : ℕ) (found : List ℕ) → ListsOnly (IsActionOf may ack) (AfterLooks g made home found)
after-looks-actions may ack back g made home found =
    only-either (IsActionOf may ack) (is_only made.vpage found) (ReadsShadow g made home) (Follows (IsVisits (arms_made made.page found) g) (λ armed. Closes g made early.Gone))
    (shadow-actions may ack back g made home)
    (only-follows (IsActionOf may ack) (IsVisits (arms_made made.page found) g) (λ armed. Closes g made early.Gone) (visits-actions may ack (arms_made made.page found) g) (λ armed. closes-actions may ack back g made early.Gone))

after-home-actions : (may : ℕ → ℕ → Type 0) (ack : AckTo → Type 0) → may 2 0 → (g : Geometry) (made : PrepareMade) (reply : Reply) → ListsOnly (IsActionOf may ack) (AfterHome g made reply)
after-home-actions may ack back g made reply =
    only-either (IsActionOf may ack) (is_slow_home g (told reply)) (Looks g made (told reply - 1)) (Closes g made early.Gone)
    (only-follows (IsActionOf may ack) (IsVisits (looks_made made.page (vpages_of g made.page)) g) (AfterLooks g made (told reply - 1)) (visits-actions may ack (looks_made made.page (vpages_of g made.page)) g) (after-looks-actions may ack back g made (told reply - 1)))
    (closes-actions may ack back g made early.Gone)

after-lock-actions : (may : ℕ → ℕ → Type 0) (ack : AckTo → Type 0) → may 2 0 → (g : Geometry) (made : PrepareMade) (reply : Reply) → ListsOnly (IsActionOf may ack) (AfterLock g made reply)
after-lock-actions may ack back g made Done =
    only-either (IsActionOf may ack) (is_worn made.spent) (Closes g made early.Worn) (ReadsHome g made) (closes-actions may ack back g made early.Worn)
    (only-then (IsActionOf may ack) (Read made.page (cells.Home made.page)) g (AfterHome g made) tt (after-home-actions may ack back g made))
after-lock-actions may ack back g made (Word n) = only-ends (IsActionOf may ack) prepared.Busy
after-lock-actions may ack back g made (Busy n) = only-ends (IsActionOf may ack) prepared.Busy
after-lock-actions may ack back g made (Lost n) = only-ends (IsActionOf may ack) prepared.Busy

pub prepare-actions : (may : ℕ → ℕ → Type 0) (ack : AckTo → Type 0) → may 2 0 → (made : PrepareMade) (g : Geometry) → ListsOnly (IsActionOf may ack) (IsPrepare made g)
prepare-actions may ack back made g = only-then (IsActionOf may ack) (Lock made.page) g (AfterLock g made) tt (after-lock-actions may ack back g made)

-- ---- the decision

commits-actions : (may : ℕ → ℕ → Type 0) (ack : AckTo → Type 0) → may 2 0 → (g : Geometry) (made : DecideMade) → ListsOnly (IsActionOf may ack) (Commits g made)
commits-actions may ack back g made =
    let M = IsActionOf may ack in
    only-then M (SetHome made.page made.frame) g (λ set. ReadsShadowWord g made) tt (λ set.
    only-then M (Read made.page (cells.Shadow made.frame)) g (λ reply. Shades g made) tt (λ reply.
    only-then M (SetShadow made.page made.frame (Some made.home)) g (λ set. Maps g made) tt (λ set.
    only-then M (Map made.vpage (moved_word g made.frame made.word)) g (λ mapped. Marks g made) tt (λ mapped.
    only-then M (Mark made.page 2 0) g (λ marked. UnlocksPage g made) back (λ marked.
    only-then M (Unlock made.page) g (λ unlocked. Ends decided.Committed) tt (λ unlocked. only-ends M decided.Committed))))))

aborts-actions : (may : ℕ → ℕ → Type 0) (ack : AckTo → Type 0) (g : Geometry) (made : DecideMade) → ListsOnly (IsActionOf may ack) (Aborts g made)
aborts-actions may ack g made =
    let M = IsActionOf may ack in
    only-then M (Map made.vpage made.word) g (λ mapped. UnlocksOld g made) tt (λ mapped.
    only-then M (Unlock made.page) g (λ unlocked. GivesBack g made) tt (λ unlocked.
    only-follows M (IsPool g (Back made.frame)) (λ back. Ends (decided.Aborted made.word)) (pool-actions may ack g (Back made.frame)) (λ back. only-ends M (decided.Aborted made.word))))

pub deciding-actions : (may : ℕ → ℕ → Type 0) (ack : AckTo → Type 0) → may 2 0 → (made : DecideMade) (g : Geometry) → ListsOnly (IsActionOf may ack) (IsDeciding made g)
deciding-actions may ack back made g = only-either (IsActionOf may ack) (is_dirty made.word) (Aborts g made) (Commits g made) (aborts-actions may ack g made) (commits-actions may ack back g made)

-- ---- transactions

flushed-actions : (may : ℕ → ℕ → Type 0) (ack : AckTo → Type 0) → may 2 0 → (g : Geometry) (made : PrepareMade) (home frame : ℕ) → ListsOnly (IsActionOf may ack) (FlushesFirst g made home frame)
flushed-actions may ack back g made home frame =
    let M = IsActionOf may ack in
    only-follows M (IsShootdown g.cpus) (λ number. Copies g made home frame) (shootdown-actions may ack g.cpus) (λ number.
    only-follows M (IsCopying (record { page = made.page; frame = frame; words = g.words }) g) (λ copied. Unmaps g made home frame) (copying-actions may ack (record { page = made.page; frame = frame; words = g.words }) g) (λ copied.
    only-follows M (UnmapsOne (record { page = made.page; vpage = made.vpage }) g) (λ word. FlushesAgain g made home frame word) (unmaps-actions may ack (record { page = made.page; vpage = made.vpage }) g) (λ word.
    only-follows M (IsShootdown g.cpus) (λ number. Decides g made home frame word) (shootdown-actions may ack g.cpus) (λ number.
    only-follows M (IsDeciding (record { page = made.page; vpage = made.vpage; word = word; home = home; frame = frame }) g) (λ end. Ends (decided_end end)) (deciding-actions may ack back (record { page = made.page; vpage = made.vpage; word = word; home = home; frame = frame }) g) (λ end.
    only-ends M (decided_end end))))))

after-prepare-actions : (may : ℕ → ℕ → Type 0) (ack : AckTo → Type 0) → may 2 0 → (g : Geometry) (made : PrepareMade) (end : Prepared) → ListsOnly (IsActionOf may ack) (AfterPrepare g made end)
after-prepare-actions may ack back g made prepared.Busy = only-ends (IsActionOf may ack) txn.Busy
after-prepare-actions may ack back g made (prepared.Closed why) = only-ends (IsActionOf may ack) (early_end why)
after-prepare-actions may ack back g made (prepared.Ready home frame) = flushed-actions may ack back g made home frame

pub txn-actions : (may : ℕ → ℕ → Type 0) (ack : AckTo → Type 0) → may 2 0 → (made : PrepareMade) (g : Geometry) → ListsOnly (IsActionOf may ack) (IsTxn made g)
txn-actions may ack back made g = only-follows (IsActionOf may ack) (IsPrepare made g) (AfterPrepare g made) (prepare-actions may ack back made g) (after-prepare-actions may ack back g made)

-- ---- batches

decides-actions : (may : ℕ → ℕ → Type 0) (ack : AckTo → Type 0) → may 2 0 → (g : Geometry) (ends : List Prepared) (taken : List DecideMade) → ListsOnly (IsActionOf may ack) (batch.DecidesEach g ends taken)
decides-actions may ack back g ends taken =
    only-each (IsActionOf may ack) (batch.DecidesNext g) taken (λ all. Ends (batch.ends_of ends all))
    (λ made kept next rest. only-follows (IsActionOf may ack) (IsDeciding made g) (λ end. next (kept ++ end ∷ [])) (deciding-actions may ack back made g) (λ end. rest (kept ++ end ∷ [])))
    (λ all. only-ends (IsActionOf may ack) (batch.ends_of ends all)) []

unmaps-each-actions : (may : ℕ → ℕ → Type 0) (ack : AckTo → Type 0) → may 2 0 → (g : Geometry) (ends : List Prepared) (ready : List ReadyPiece) → ListsOnly (IsActionOf may ack) (batch.UnmapsEach g ends ready)
unmaps-each-actions may ack back g ends ready =
    only-each (IsActionOf may ack) (batch.UnmapsNext g) ready (λ words. batch.FlushesAgain g ends (batch.taken_of ready words))
    (λ piece kept next rest. only-follows (IsActionOf may ack) (UnmapsOne (record { page = piece.page; vpage = piece.vpage }) g) (λ word. next (kept ++ word ∷ [])) (unmaps-actions may ack (record { page = piece.page; vpage = piece.vpage }) g) (λ word. rest (kept ++ word ∷ [])))
    (λ words. only-follows (IsActionOf may ack) (IsShootdown g.cpus) (λ number. batch.DecidesEach g ends (batch.taken_of ready words)) (shootdown-actions may ack g.cpus) (λ number. decides-actions may ack back g ends (batch.taken_of ready words))) []

copies-each-actions : (may : ℕ → ℕ → Type 0) (ack : AckTo → Type 0) → may 2 0 → (g : Geometry) (ends : List Prepared) (ready : List ReadyPiece) → ListsOnly (IsActionOf may ack) (batch.CopiesEach g ends ready)
copies-each-actions may ack back g ends ready =
    only-each (IsActionOf may ack) (batch.CopiesNext g) ready (λ kept. batch.UnmapsEach g ends ready)
    (λ piece kept next rest. only-follows (IsActionOf may ack) (IsCopying (record { page = piece.page; frame = piece.frame; words = g.words }) g) (λ copied. next kept) (copying-actions may ack (record { page = piece.page; frame = piece.frame; words = g.words }) g) (λ copied. rest kept))
    (λ kept. unmaps-each-actions may ack back g ends ready) tt

after-prepares-actions : (may : ℕ → ℕ → Type 0) (ack : AckTo → Type 0) → may 2 0 → (g : Geometry) (ends : List Prepared) (ready : List ReadyPiece) → ListsOnly (IsActionOf may ack) (batch.AfterPrepares g ends ready)
after-prepares-actions may ack back g ends [] = only-ends (IsActionOf may ack) (batch.ends_of ends [])
after-prepares-actions may ack back g ends (piece ∷ pieces) = only-follows (IsActionOf may ack) (IsShootdown g.cpus) (λ number. batch.CopiesEach g ends (piece ∷ pieces)) (shootdown-actions may ack g.cpus) (λ number. copies-each-actions may ack back g ends (piece ∷ pieces))

pub batch-actions : (may : ℕ → ℕ → Type 0) (ack : AckTo → Type 0) → may 2 0 → (made : batch.BatchMade) (g : Geometry) → ListsOnly (IsActionOf may ack) (batch.IsBatch made g)
batch-actions may ack back made g =
    only-each (IsActionOf may ack) (batch.PreparesNext g made) made.pieces (λ ends. batch.AfterPrepares g ends (batch.ready_of made.pieces ends))
    (λ piece kept next rest. only-follows (IsActionOf may ack) (IsPrepare (record { page = piece.0; vpage = piece.1; spent = batch.drawn_with made.spent kept }) g) (λ end. next (kept ++ end ∷ [])) (prepare-actions may ack back (record { page = piece.0; vpage = piece.1; spent = batch.drawn_with made.spent kept }) g) (λ end. rest (kept ++ end ∷ [])))
    (λ ends. after-prepares-actions may ack back g ends (batch.ready_of made.pieces ends)) []

-- ---- locked moves

move-closes-actions : (may : ℕ → ℕ → Type 0) (ack : AckTo → Type 0) → may 2 0 → (g : Geometry) (made : ChooseMade) (why : MoveEarly) → ListsOnly (IsActionOf may ack) (ClosesInMove g made why)
move-closes-actions may ack back g made why =
    only-then (IsActionOf may ack) (Mark made.page 2 0) g (λ marked. UnlocksInMove g made why) back
    (λ marked. only-then (IsActionOf may ack) (Unlock made.page) g (λ unlocked. Ends (chosen.Closed why)) tt (λ unlocked. only-ends (IsActionOf may ack) (chosen.Closed why)))

arms-actions : (may : ℕ → ℕ → Type 0) (ack : AckTo → Type 0) → may 2 0 → (g : Geometry) (made : ChooseMade) (why : MoveEarly) (pages : List ℕ) → ListsOnly (IsActionOf may ack) (ArmsAll g made why pages)
arms-actions may ack back g made why pages =
    only-follows (IsActionOf may ack) (IsVisits (arms_made made.page pages) g) (λ armed. ClosesInMove g made why) (visits-actions may ack (arms_made made.page pages) g) (λ armed. move-closes-actions may ack back g made why)

move-shadow-actions : (may : ℕ → ℕ → Type 0) (ack : AckTo → Type 0) (g : Geometry) (made : ChooseMade) (home frame : ℕ) (pages : List ℕ) → ListsOnly (IsActionOf may ack) (ReadsShadowInMove g made home frame pages)
move-shadow-actions may ack g made home frame pages =
    let M = IsActionOf may ack in
    let end = chosen.Ready home frame pages in
    only-then M (Read made.page (cells.Shadow home)) g (λ reply. DiscardsInMove g made home (told reply) frame pages) tt (λ reply.
    only-either M (told reply == 0) (Ends end) (Follows (IsAct (SetShadow made.page home None) g) (λ set. PutsBackInMove g made home (told reply) frame pages))
    (only-ends M end)
    (only-then M (SetShadow made.page home None) g (λ set. PutsBackInMove g made home (told reply) frame pages) tt (λ set.
    only-follows M (IsPool g (Back (shadow_frame (told reply)))) (λ back. Ends end) (pool-actions may ack g (Back (shadow_frame (told reply)))) (λ back. only-ends M end))))

move-take-actions : (may : ℕ → ℕ → Type 0) (ack : AckTo → Type 0) → may 2 0 → (g : Geometry) (made : ChooseMade) (home : ℕ) (pages : List ℕ) (end : PoolEnd) → ListsOnly (IsActionOf may ack) (AfterTakeInMove g made home pages end)
move-take-actions may ack back g made home pages (pools.Got frame) = move-shadow-actions may ack g made home frame pages
move-take-actions may ack back g made home pages (pools.AtFloor n) = arms-actions may ack back g made (move_early.NoFrame n) pages
move-take-actions may ack back g made home pages (pools.Level n) = λ own outcome h. absurd h
move-take-actions may ack back g made home pages pools.Back = λ own outcome h. absurd h

move-looks-actions : (may : ℕ → ℕ → Type 0) (ack : AckTo → Type 0) → may 2 0 → (g : Geometry) (made : ChooseMade) (home : ℕ) (pages : List ℕ) → ListsOnly (IsActionOf may ack) (AfterLooksInMove g made home pages)
move-looks-actions may ack back g made home pages =
    only-either (IsActionOf may ack) (length pages == made.count) (TakesInMove g made home pages) (ArmsAll g made move_early.Gone pages)
    (only-follows (IsActionOf may ack) (IsPool g (Take (tier_above g home) (floor_above g home))) (AfterTakeInMove g made home pages) (pool-actions may ack g (Take (tier_above g home) (floor_above g home))) (move-take-actions may ack back g made home pages))
    (arms-actions may ack back g made move_early.Gone pages)

move-home-actions : (may : ℕ → ℕ → Type 0) (ack : AckTo → Type 0) → may 2 0 → (g : Geometry) (made : ChooseMade) (word : ℕ) → ListsOnly (IsActionOf may ack) (AfterHomeInMove g made word)
move-home-actions may ack back g made word =
    only-either (IsActionOf may ack) (is_slow_home g word) (LooksInMove g made (word - 1)) (ClosesInMove g made move_early.Gone)
    (only-follows (IsActionOf may ack) (IsVisits (looks_made made.page (vpages_of g made.page)) g) (AfterLooksInMove g made (word - 1)) (visits-actions may ack (looks_made made.page (vpages_of g made.page)) g) (move-looks-actions may ack back g made (word - 1)))
    (move-closes-actions may ack back g made move_early.Gone)

move-lock-actions : (may : ℕ → ℕ → Type 0) (ack : AckTo → Type 0) → may 2 0 → (g : Geometry) (made : ChooseMade) (reply : Reply) → ListsOnly (IsActionOf may ack) (AfterLockInMove g made reply)
move-lock-actions may ack back g made Done =
    only-either (IsActionOf may ack) (is_worn made.spent) (ClosesInMove g made move_early.Worn) (ReadsHomeInMove g made) (move-closes-actions may ack back g made move_early.Worn)
    (only-then (IsActionOf may ack) (Read made.page (cells.Home made.page)) g (λ reply. AfterHomeInMove g made (told reply)) tt (λ reply. move-home-actions may ack back g made (told reply)))
move-lock-actions may ack back g made (Word n) = only-ends (IsActionOf may ack) chosen.Busy
move-lock-actions may ack back g made (Busy n) = only-ends (IsActionOf may ack) chosen.Busy
move-lock-actions may ack back g made (Lost n) = only-ends (IsActionOf may ack) chosen.Busy

moves-actions : (may : ℕ → ℕ → Type 0) (ack : AckTo → Type 0) → may 2 0 → (g : Geometry) (made : ChooseMade) (end : Chosen) → ListsOnly (IsActionOf may ack) (AfterChoosing g made end)
moves-actions may ack back g made chosen.Busy = only-ends (IsActionOf may ack) locked.Busy
moves-actions may ack back g made (chosen.Closed why) = only-ends (IsActionOf may ack) (move_early_end why)
moves-actions may ack back g made (chosen.Ready home frame pages) =
    let M = IsActionOf may ack in
    only-follows M (IsTransfer (locked_transfer g made home frame pages) g) (λ taken. MarksInMove g made home) (transfer-actions may ack (locked_transfer g made home frame pages) g) (λ taken.
    only-then M (Mark made.page 2 0) g (λ marked. UnlocksMoved g made home) back (λ marked.
    only-then M (Unlock made.page) g (λ unlocked. GivesBackInMove g made home) tt (λ unlocked.
    only-follows M (IsPool g (Back home)) (λ back. Ends locked.Moved) (pool-actions may ack g (Back home)) (λ back. only-ends M locked.Moved))))

pub locked-actions : (may : ℕ → ℕ → Type 0) (ack : AckTo → Type 0) → may 2 0 → (made : ChooseMade) (g : Geometry) → ListsOnly (IsActionOf may ack) (IsLockedInMove made g)
locked-actions may ack back made g =
    only-follows (IsActionOf may ack) (IsChoosing made g) (AfterChoosing g made) (only-then (IsActionOf may ack) (Lock made.page) g (AfterLockInMove g made) tt (move-lock-actions may ack back g made)) (moves-actions may ack back g made)

-- ---- cooling

cold-actions : (may : ℕ → ℕ → Type 0) (ack : AckTo → Type 0) → may 1 0 → (made : CoolData) (g : Geometry) (reply : Reply) → ListsOnly (IsActionOf may ack) (AfterColdLock made g reply)
cold-actions may ack back made g Done =
    let M = IsActionOf may ack in
    only-follows M (IsLooks (page_looks made.0 made.1 0) g) (λ seen. ArmsCold made g seen.outside) (looks-actions may ack (page_looks made.0 made.1 0) g) (λ seen.
    only-follows M (IsVisits (arms_made made.1 seen.outside) g) (λ armed. MarksCold made g) (visits-actions may ack (arms_made made.1 seen.outside) g) (λ armed.
    only-then M (Mark made.1 1 0) g (λ marked. UnlocksCold made g) back (λ marked.
    only-then M (Unlock made.1) g (λ unlocked. Ends cooled.Cold) tt (λ unlocked. only-ends M cooled.Cold))))
cold-actions may ack back made g (Word n) = only-ends (IsActionOf may ack) cooled.Busy
cold-actions may ack back made g (Busy n) = only-ends (IsActionOf may ack) cooled.Busy
cold-actions may ack back made g (Lost n) = only-ends (IsActionOf may ack) cooled.Busy

pub cool-actions : (may : ℕ → ℕ → Type 0) (ack : AckTo → Type 0) → may 1 0 → (made : CoolData) (g : Geometry) → ListsOnly (IsActionOf may ack) (IsCooling made g)
cool-actions may ack back made g = only-then (IsActionOf may ack) (Lock made.1) g (AfterColdLock made g) tt (cold-actions may ack back made g)
