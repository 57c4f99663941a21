-- Parts of the migrator leave no choice.
use Rattle.std.proofs.Common.{ℕ, ◌-◌, ◌==◌, List, [], ◌∷◌, ◌++◌, length, Some, None}
use Rattle.nm_base.specs.Geometry.{Geometry}
use Rattle.nm_base.specs.ShadowWord.{shadow_frame}
use Rattle.nm_base.specs.PageWord.{is_dirty}
use Rattle.nm_action.specs.declared.action.Action.TheVariants.{Lock, Unlock, Mark, Read, SetShadow, SetHome, ClearDirty, Raise, Arm, Map}
use Rattle.nm_action.specs.declared.action.Cell.TheVariants as cells
use Rattle.nm_action.specs.declared.action.Reply.{Reply}
use Rattle.nm_action.specs.declared.action.Reply.TheVariants.{Done, Word, Busy, Lost}
use Rattle.nm_part.specs.Patterns.{Ends, Follows}
use Rattle.nm_compose.specs.Acts.{IsAct}
use Rattle.nm_shoot.specs.Shootdown.{IsShootdown}
use Rattle.nm_pool.specs.Pool.{IsPool}
use Rattle.nm_pool.specs.declared.job.PoolJob.TheVariants.{Take, Back}
use Rattle.nm_pool.specs.declared.job.PoolEnd.{PoolEnd}
use Rattle.nm_pool.specs.declared.job.PoolEnd.TheVariants as pools
use Rattle.nm_vpages.specs.VPages.{vpages_of}
use Rattle.nm_mappings.specs.Visits.{IsVisits, looks_made, arms_made}
use Rattle.nm_looks.specs.Seeing.{IsLooks}
use Rattle.nm_looks.specs.Parts.{page_looks}
use Rattle.nm_copying.specs.Copying.{told, IsCopying}
use Rattle.nm_prepare.specs.Worn.{is_worn}
use Rattle.nm_prepare.specs.declared.prepare.PrepareMade.{PrepareMade}
use Rattle.nm_prepare.specs.declared.prepare.Early.{Early}
use Rattle.nm_prepare.specs.declared.prepare.Early.TheVariants as early
use Rattle.nm_prepare.specs.declared.prepare.Prepared.{Prepared}
use Rattle.nm_prepare.specs.declared.prepare.Prepared.TheVariants as prepared
use Rattle.nm_prepare.specs.Preparing.{is_slow_home, is_in_last, is_only, tier_above, floor_above, Closes, Clears, Discards, AfterTake, Takes, ReadsShadow, AfterLooks, Looks, AfterHome, ReadsHome, AfterLock, IsPrepare}
use Rattle.nm_commit.specs.declared.decide.DecideMade.{DecideMade}
use Rattle.nm_commit.specs.declared.decide.Decided.TheVariants as decided
use Rattle.nm_commit.specs.Unmapping.{UnmapsOne}
use Rattle.nm_commit.specs.Deciding.{moved_word, UnlocksPage, Marks, Maps, Shades, ReadsShadowWord, Commits, GivesBack, UnlocksOld, Aborts, IsDeciding}
use Rattle.nm_txn.specs.declared.batch.ReadyPiece.{ReadyPiece}
use Rattle.nm_txn.specs.declared.end.TxnEnd.TheVariants as txn
use Rattle.nm_txn.specs.Transactions.{early_end, decided_end, Decides, FlushesAgain, Unmaps, Copies, FlushesFirst, AfterPrepare, IsTxn}
use Rattle.nm_txn.specs.Batches as batch
use Rattle.nm_locked.specs.declared.choose.ChooseMade.{ChooseMade}
use Rattle.nm_locked.specs.declared.choose.Early.{Early as MoveEarly}
use Rattle.nm_locked.specs.declared.choose.Early.TheVariants as move_early
use Rattle.nm_locked.specs.declared.choose.Chosen.{Chosen}
use Rattle.nm_locked.specs.declared.choose.Chosen.TheVariants as chosen
use Rattle.nm_locked.specs.declared.locked.LockedEnd.TheVariants as locked
use Rattle.nm_locked.specs.Choosing.{UnlocksInMove, ClosesInMove, ArmsAll, PutsBackInMove, DiscardsInMove, ReadsShadowInMove, AfterTakeInMove, TakesInMove, AfterLooksInMove, LooksInMove, AfterHomeInMove, ReadsHomeInMove, AfterLockInMove, IsChoosing}
use Rattle.nm_locked.specs.Moves.{GivesBackInMove, UnlocksMoved, MarksInMove, locked_transfer, move_early_end, AfterChoosing, IsLockedInMove}
use Rattle.nm_transfer.specs.Transferring.{IsTransfer}
use Rattle.nm_cool.specs.declared.cool.Cooled.TheVariants as cooled
use Rattle.nm_cool.specs.Cooling.{CoolData, UnlocksCold, MarksCold, ArmsCold, AfterColdLock, IsCooling}
use Rattle.nm_choice.specs.Deterministic.{AreRepliesApart, IsDeterministicPart}
use Rattle.nm_choice.proofs.Patterns.{one-ends, one-follows, one-either, one-each}
use Rattle.nm_choice.proofs.Acts.{one-then}
use Rattle.nm_part_choice.proofs.Leaves.{shootdown-one, pool-one, copying-one, unmaps-one, visits-one, looks-one, transfer-one}

-- ---- the steps of a transaction up to its first flush

closes-one : (g : Geometry) (made : PrepareMade) (why : Early) → IsDeterministicPart (Closes g made why)
closes-one g made why =
    one-then (Mark made.page 2 0) g (λ marked. Follows (IsAct (Unlock made.page) g) (λ unlocked. Ends (prepared.Closed why)))
    (λ marked. one-then (Unlock made.page) g (λ unlocked. Ends (prepared.Closed why)) (λ unlocked. one-ends AreRepliesApart (prepared.Closed why)))

clears-one : (g : Geometry) (made : PrepareMade) (home frame : ℕ) → IsDeterministicPart (Clears g made home frame)
clears-one g made home frame =
    one-then (ClearDirty made.vpage) g (λ cleared. Follows (IsAct (Raise made.vpage) g) (λ raised. Ends (prepared.Ready home frame)))
    (λ cleared. one-then (Raise made.vpage) g (λ raised. Ends (prepared.Ready home frame)) (λ raised. one-ends AreRepliesApart (prepared.Ready home frame)))

discards-one : (g : Geometry) (made : PrepareMade) (home shadow frame : ℕ) → IsDeterministicPart (Discards g made home shadow frame)
discards-one g made home shadow frame =
    let back = λ (set : Reply). one-follows AreRepliesApart (IsPool g (Back (shadow_frame shadow))) (λ back. Clears g made home frame) (pool-one g (Back (shadow_frame shadow))) (λ back. clears-one g made home frame) in
    one-either AreRepliesApart (shadow == 0) (Clears g made home frame) (Follows (IsAct (SetShadow made.page home None) g) (λ set. Follows (IsPool g (Back (shadow_frame shadow))) (λ back. Clears g made home frame)))
    (clears-one g made home frame)
    (one-then (SetShadow made.page home None) g (λ set. Follows (IsPool g (Back (shadow_frame shadow))) (λ back. Clears g made home frame)) back)

take-one : (g : Geometry) (made : PrepareMade) (home shadow : ℕ) (end : PoolEnd) → IsDeterministicPart (AfterTake g made home shadow end)
take-one g made home shadow (pools.Got frame) = discards-one g made home shadow frame
take-one g made home shadow (pools.AtFloor n) = one-then (Arm made.vpage) g (λ armed. Closes g made (early.NoFrame n)) (λ armed. closes-one g made (early.NoFrame n))
take-one g made home shadow (pools.Level n) = λ own other outcome end h k. absurd h
take-one g made home shadow pools.Back = λ own other outcome end h k. absurd h

takes-one : (g : Geometry) (made : PrepareMade) (home shadow : ℕ) → IsDeterministicPart (Takes g made home shadow)
takes-one g made home shadow =
    one-follows AreRepliesApart (IsPool g (Take (tier_above g home) (floor_above g home))) (AfterTake g made home shadow) (pool-one g (Take (tier_above g home) (floor_above g home))) (take-one g made home shadow)

shadow-one : (g : Geometry) (made : PrepareMade) (home : ℕ) → IsDeterministicPart (ReadsShadow g made home)
shadow-one g made home =
    one-either AreRepliesApart (is_in_last g home) (Takes g made home 0) (Follows (IsAct (Read made.page (cells.Shadow home)) g) (λ reply. Takes g made home (told reply)))
    (takes-one g made home 0)
    (one-then (Read made.page (cells.Shadow home)) g (λ reply. Takes g made home (told reply)) (λ reply. takes-one g made home (told reply)))

after-looks-one : (g : Geometry) (made : PrepareMade) (home : ℕ) (found : List ℕ) → IsDeterministicPart (AfterLooks g made home found)
after-looks-one g made home found =
    one-either AreRepliesApart (is_only made.vpage found) (ReadsShadow g made home) (Follows (IsVisits (arms_made made.page found) g) (λ armed. Closes g made early.Gone))
    (shadow-one g made home)
    (one-follows AreRepliesApart (IsVisits (arms_made made.page found) g) (λ armed. Closes g made early.Gone) (visits-one (arms_made made.page found) g) (λ armed. closes-one g made early.Gone))

after-home-one : (g : Geometry) (made : PrepareMade) (reply : Reply) → IsDeterministicPart (AfterHome g made reply)
after-home-one g made reply =
    one-either AreRepliesApart (is_slow_home g (told reply)) (Looks g made (told reply - 1)) (Closes g made early.Gone)
    (one-follows AreRepliesApart (IsVisits (looks_made made.page (vpages_of g made.page)) g) (AfterLooks g made (told reply - 1)) (visits-one (looks_made made.page (vpages_of g made.page)) g) (after-looks-one g made (told reply - 1)))
    (closes-one g made early.Gone)

after-lock-one : (g : Geometry) (made : PrepareMade) (reply : Reply) → IsDeterministicPart (AfterLock g made reply)
after-lock-one g made Done =
    one-either AreRepliesApart (is_worn made.spent) (Closes g made early.Worn) (ReadsHome g made) (closes-one g made early.Worn)
    (one-then (Read made.page (cells.Home made.page)) g (AfterHome g made) (after-home-one g made))
after-lock-one g made (Word n) = one-ends AreRepliesApart prepared.Busy
after-lock-one g made (Busy n) = one-ends AreRepliesApart prepared.Busy
after-lock-one g made (Lost n) = one-ends AreRepliesApart prepared.Busy

pub prepare-one : (made : PrepareMade) (g : Geometry) → IsDeterministicPart (IsPrepare made g)
prepare-one made g = one-then (Lock made.page) g (AfterLock g made) (after-lock-one g made)

-- ---- the decision

commits-one : (g : Geometry) (made : DecideMade) → IsDeterministicPart (Commits g made)
commits-one g made =
    one-then (SetHome made.page made.frame) g (λ set. ReadsShadowWord g made) (λ set.
    one-then (Read made.page (cells.Shadow made.frame)) g (λ reply. Shades g made) (λ reply.
    one-then (SetShadow made.page made.frame (Some made.home)) g (λ set. Maps g made) (λ set.
    one-then (Map made.vpage (moved_word g made.frame made.word)) g (λ mapped. Marks g made) (λ mapped.
    one-then (Mark made.page 2 0) g (λ marked. UnlocksPage g made) (λ marked.
    one-then (Unlock made.page) g (λ unlocked. Ends decided.Committed) (λ unlocked. one-ends AreRepliesApart decided.Committed))))))

aborts-one : (g : Geometry) (made : DecideMade) → IsDeterministicPart (Aborts g made)
aborts-one g made =
    one-then (Map made.vpage made.word) g (λ mapped. UnlocksOld g made) (λ mapped.
    one-then (Unlock made.page) g (λ unlocked. GivesBack g made) (λ unlocked.
    one-follows AreRepliesApart (IsPool g (Back made.frame)) (λ back. Ends (decided.Aborted made.word)) (pool-one g (Back made.frame)) (λ back. one-ends AreRepliesApart (decided.Aborted made.word))))

pub deciding-one : (made : DecideMade) (g : Geometry) → IsDeterministicPart (IsDeciding made g)
deciding-one made g = one-either AreRepliesApart (is_dirty made.word) (Aborts g made) (Commits g made) (aborts-one g made) (commits-one g made)

-- ---- transactions

flushed-one : (g : Geometry) (made : PrepareMade) (home frame : ℕ) → IsDeterministicPart (FlushesFirst g made home frame)
flushed-one g made home frame =
    one-follows AreRepliesApart (IsShootdown g.cpus) (λ number. Copies g made home frame) (shootdown-one g.cpus) (λ number.
    one-follows AreRepliesApart (IsCopying (record { page = made.page; frame = frame; words = g.words }) g) (λ copied. Unmaps g made home frame) (copying-one (record { page = made.page; frame = frame; words = g.words }) g) (λ copied.
    one-follows AreRepliesApart (UnmapsOne (record { page = made.page; vpage = made.vpage }) g) (λ word. FlushesAgain g made home frame word) (unmaps-one (record { page = made.page; vpage = made.vpage }) g) (λ word.
    one-follows AreRepliesApart (IsShootdown g.cpus) (λ number. Decides g made home frame word) (shootdown-one g.cpus) (λ number.
    one-follows AreRepliesApart (IsDeciding (record { page = made.page; vpage = made.vpage; word = word; home = home; frame = frame }) g) (λ end. Ends (decided_end end)) (deciding-one (record { page = made.page; vpage = made.vpage; word = word; home = home; frame = frame }) g) (λ end.
    one-ends AreRepliesApart (decided_end end))))))

after-prepare-one : (g : Geometry) (made : PrepareMade) (end : Prepared) → IsDeterministicPart (AfterPrepare g made end)
after-prepare-one g made prepared.Busy = one-ends AreRepliesApart txn.Busy
after-prepare-one g made (prepared.Closed why) = one-ends AreRepliesApart (early_end why)
after-prepare-one g made (prepared.Ready home frame) = flushed-one g made home frame

pub txn-one : (made : PrepareMade) (g : Geometry) → IsDeterministicPart (IsTxn made g)
txn-one made g = one-follows AreRepliesApart (IsPrepare made g) (AfterPrepare g made) (prepare-one made g) (after-prepare-one g made)

-- ---- batches

decides-one : (g : Geometry) (ends : List Prepared) (taken : List DecideMade) → IsDeterministicPart (batch.DecidesEach g ends taken)
decides-one g ends taken =
    one-each AreRepliesApart (batch.DecidesNext g) taken (λ all. Ends (batch.ends_of ends all))
    (λ made kept next rest. one-follows AreRepliesApart (IsDeciding made g) (λ end. next (kept ++ end ∷ [])) (deciding-one made g) (λ end. rest (kept ++ end ∷ [])))
    (λ all. one-ends AreRepliesApart (batch.ends_of ends all)) []

unmaps-each-one : (g : Geometry) (ends : List Prepared) (ready : List ReadyPiece) → IsDeterministicPart (batch.UnmapsEach g ends ready)
unmaps-each-one g ends ready =
    one-each AreRepliesApart (batch.UnmapsNext g) ready (λ words. batch.FlushesAgain g ends (batch.taken_of ready words))
    (λ piece kept next rest. one-follows AreRepliesApart (UnmapsOne (record { page = piece.page; vpage = piece.vpage }) g) (λ word. next (kept ++ word ∷ [])) (unmaps-one (record { page = piece.page; vpage = piece.vpage }) g) (λ word. rest (kept ++ word ∷ [])))
    (λ words. one-follows AreRepliesApart (IsShootdown g.cpus) (λ number. batch.DecidesEach g ends (batch.taken_of ready words)) (shootdown-one g.cpus) (λ number. decides-one g ends (batch.taken_of ready words))) []

copies-each-one : (g : Geometry) (ends : List Prepared) (ready : List ReadyPiece) → IsDeterministicPart (batch.CopiesEach g ends ready)
copies-each-one g ends ready =
    one-each AreRepliesApart (batch.CopiesNext g) ready (λ kept. batch.UnmapsEach g ends ready)
    (λ piece kept next rest. one-follows AreRepliesApart (IsCopying (record { page = piece.page; frame = piece.frame; words = g.words }) g) (λ copied. next kept) (copying-one (record { page = piece.page; frame = piece.frame; words = g.words }) g) (λ copied. rest kept))
    (λ kept. unmaps-each-one g ends ready) tt

after-prepares-one : (g : Geometry) (ends : List Prepared) (ready : List ReadyPiece) → IsDeterministicPart (batch.AfterPrepares g ends ready)
after-prepares-one g ends [] = one-ends AreRepliesApart (batch.ends_of ends [])
after-prepares-one g ends (piece ∷ pieces) = one-follows AreRepliesApart (IsShootdown g.cpus) (λ number. batch.CopiesEach g ends (piece ∷ pieces)) (shootdown-one g.cpus) (λ number. copies-each-one g ends (piece ∷ pieces))

pub batch-one : (made : batch.BatchMade) (g : Geometry) → IsDeterministicPart (batch.IsBatch made g)
batch-one made g =
    one-each AreRepliesApart (batch.PreparesNext g made) made.pieces (λ ends. batch.AfterPrepares g ends (batch.ready_of made.pieces ends))
    (λ piece kept next rest. one-follows AreRepliesApart (IsPrepare (record { page = piece.0; vpage = piece.1; spent = batch.drawn_with made.spent kept }) g) (λ end. next (kept ++ end ∷ [])) (prepare-one (record { page = piece.0; vpage = piece.1; spent = batch.drawn_with made.spent kept }) g) (λ end. rest (kept ++ end ∷ [])))
    (λ ends. after-prepares-one g ends (batch.ready_of made.pieces ends)) []

-- ---- locked moves

move-closes-one : (g : Geometry) (made : ChooseMade) (why : MoveEarly) → IsDeterministicPart (ClosesInMove g made why)
move-closes-one g made why =
    one-then (Mark made.page 2 0) g (λ marked. UnlocksInMove g made why)
    (λ marked. one-then (Unlock made.page) g (λ unlocked. Ends (chosen.Closed why)) (λ unlocked. one-ends AreRepliesApart (chosen.Closed why)))

arms-one : (g : Geometry) (made : ChooseMade) (why : MoveEarly) (pages : List ℕ) → IsDeterministicPart (ArmsAll g made why pages)
arms-one g made why pages =
    one-follows AreRepliesApart (IsVisits (arms_made made.page pages) g) (λ armed. ClosesInMove g made why) (visits-one (arms_made made.page pages) g) (λ armed. move-closes-one g made why)

move-shadow-one : (g : Geometry) (made : ChooseMade) (home frame : ℕ) (pages : List ℕ) → IsDeterministicPart (ReadsShadowInMove g made home frame pages)
move-shadow-one g made home frame pages =
    let end = chosen.Ready home frame pages in
    one-then (Read made.page (cells.Shadow home)) g (λ reply. DiscardsInMove g made home (told reply) frame pages) (λ reply.
    one-either AreRepliesApart (told reply == 0) (Ends end) (Follows (IsAct (SetShadow made.page home None) g) (λ set. PutsBackInMove g made home (told reply) frame pages))
    (one-ends AreRepliesApart end)
    (one-then (SetShadow made.page home None) g (λ set. PutsBackInMove g made home (told reply) frame pages) (λ set.
    one-follows AreRepliesApart (IsPool g (Back (shadow_frame (told reply)))) (λ back. Ends end) (pool-one g (Back (shadow_frame (told reply)))) (λ back. one-ends AreRepliesApart end))))

move-take-one : (g : Geometry) (made : ChooseMade) (home : ℕ) (pages : List ℕ) (end : PoolEnd) → IsDeterministicPart (AfterTakeInMove g made home pages end)
move-take-one g made home pages (pools.Got frame) = move-shadow-one g made home frame pages
move-take-one g made home pages (pools.AtFloor n) = arms-one g made (move_early.NoFrame n) pages
move-take-one g made home pages (pools.Level n) = λ own other outcome end h k. absurd h
move-take-one g made home pages pools.Back = λ own other outcome end h k. absurd h

move-looks-one : (g : Geometry) (made : ChooseMade) (home : ℕ) (pages : List ℕ) → IsDeterministicPart (AfterLooksInMove g made home pages)
move-looks-one g made home pages =
    one-either AreRepliesApart (length pages == made.count) (TakesInMove g made home pages) (ArmsAll g made move_early.Gone pages)
    (one-follows AreRepliesApart (IsPool g (Take (tier_above g home) (floor_above g home))) (AfterTakeInMove g made home pages) (pool-one g (Take (tier_above g home) (floor_above g home))) (move-take-one g made home pages))
    (arms-one g made move_early.Gone pages)

move-home-one : (g : Geometry) (made : ChooseMade) (word : ℕ) → IsDeterministicPart (AfterHomeInMove g made word)
move-home-one g made word =
    one-either AreRepliesApart (is_slow_home g word) (LooksInMove g made (word - 1)) (ClosesInMove g made move_early.Gone)
    (one-follows AreRepliesApart (IsVisits (looks_made made.page (vpages_of g made.page)) g) (AfterLooksInMove g made (word - 1)) (visits-one (looks_made made.page (vpages_of g made.page)) g) (move-looks-one g made (word - 1)))
    (move-closes-one g made move_early.Gone)

move-lock-one : (g : Geometry) (made : ChooseMade) (reply : Reply) → IsDeterministicPart (AfterLockInMove g made reply)
move-lock-one g made Done =
    one-either AreRepliesApart (is_worn made.spent) (ClosesInMove g made move_early.Worn) (ReadsHomeInMove g made) (move-closes-one g made move_early.Worn)
    (one-then (Read made.page (cells.Home made.page)) g (λ reply. AfterHomeInMove g made (told reply)) (λ reply. move-home-one g made (told reply)))
move-lock-one g made (Word n) = one-ends AreRepliesApart chosen.Busy
move-lock-one g made (Busy n) = one-ends AreRepliesApart chosen.Busy
move-lock-one g made (Lost n) = one-ends AreRepliesApart chosen.Busy

moves-one : (g : Geometry) (made : ChooseMade) (end : Chosen) → IsDeterministicPart (AfterChoosing g made end)
moves-one g made chosen.Busy = one-ends AreRepliesApart locked.Busy
moves-one g made (chosen.Closed why) = one-ends AreRepliesApart (move_early_end why)
moves-one g made (chosen.Ready home frame pages) =
    one-follows AreRepliesApart (IsTransfer (locked_transfer g made home frame pages) g) (λ taken. MarksInMove g made home) (transfer-one (locked_transfer g made home frame pages) g) (λ taken.
    one-then (Mark made.page 2 0) g (λ marked. UnlocksMoved g made home) (λ marked.
    one-then (Unlock made.page) g (λ unlocked. GivesBackInMove g made home) (λ unlocked.
    one-follows AreRepliesApart (IsPool g (Back home)) (λ back. Ends locked.Moved) (pool-one g (Back home)) (λ back. one-ends AreRepliesApart locked.Moved))))

pub locked-one : (made : ChooseMade) (g : Geometry) → IsDeterministicPart (IsLockedInMove made g)
locked-one made g =
    one-follows AreRepliesApart (IsChoosing made g) (AfterChoosing g made) (one-then (Lock made.page) g (AfterLockInMove g made) (move-lock-one g made)) (moves-one g made)

-- ---- cooling

cold-one : (made : CoolData) (g : Geometry) (reply : Reply) → IsDeterministicPart (AfterColdLock made g reply)
cold-one made g Done =
    one-follows AreRepliesApart (IsLooks (page_looks made.0 made.1 0) g) (λ seen. ArmsCold made g seen.outside) (looks-one (page_looks made.0 made.1 0) g) (λ seen.
    one-follows AreRepliesApart (IsVisits (arms_made made.1 seen.outside) g) (λ armed. MarksCold made g) (visits-one (arms_made made.1 seen.outside) g) (λ armed.
    one-then (Mark made.1 1 0) g (λ marked. UnlocksCold made g) (λ marked.
    one-then (Unlock made.1) g (λ unlocked. Ends cooled.Cold) (λ unlocked. one-ends AreRepliesApart cooled.Cold))))
cold-one made g (Word n) = one-ends AreRepliesApart cooled.Busy
cold-one made g (Busy n) = one-ends AreRepliesApart cooled.Busy
cold-one made g (Lost n) = one-ends AreRepliesApart cooled.Busy

pub cool-one : (made : CoolData) (g : Geometry) → IsDeterministicPart (IsCooling made g)
cool-one made g = one-then (Lock made.1) g (AfterColdLock made g) (cold-one made g)
