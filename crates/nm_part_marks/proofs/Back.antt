-- Transactions and locked moves that are over took their page from pending to none.
use Rattle.std.proofs.Common.{ℕ, ◌-◌, ◌==◌, List, ◌++◌, length, Some, None, refl, sym, subst}
use Rattle.nm_base.specs.Geometry.{Geometry}
use Rattle.nm_base.specs.PageWord.{is_dirty}
use Rattle.nm_base.specs.ShadowWord.{shadow_frame}
use Rattle.nm_action.specs.declared.action.Action.TheVariants.{Lock, Unlock, Mark, Read, SetShadow, SetHome, ClearDirty, Raise, Arm, Map}
use Rattle.nm_action.specs.declared.action.Cell.TheVariants as cells
use Rattle.nm_action.specs.declared.action.Reply.{Reply}
use Rattle.nm_action.specs.declared.action.Reply.TheVariants.{Done, Word, Busy, Lost}
use Rattle.nm_action.specs.Own.{Own}
use Rattle.nm_part.specs.Patterns.{Ends, Follows}
use Rattle.nm_compose.specs.Acts.{IsAct}
use Rattle.nm_shoot.specs.Shootdown.{IsShootdown}
use Rattle.nm_pool.specs.Pool.{IsPool}
use Rattle.nm_pool.specs.declared.job.PoolJob.TheVariants.{Take, Back}
use Rattle.nm_pool.specs.declared.job.PoolEnd.{PoolEnd}
use Rattle.nm_pool.specs.declared.job.PoolEnd.TheVariants as pools
use Rattle.nm_vpages.specs.VPages.{vpages_of}
use Rattle.nm_mappings.specs.Visits.{IsVisits, looks_made, arms_made}
use Rattle.nm_copying.specs.Copying.{told, IsCopying}
use Rattle.nm_prepare.specs.Worn.{is_worn}
use Rattle.nm_prepare.specs.declared.prepare.PrepareMade.{PrepareMade}
use Rattle.nm_prepare.specs.declared.prepare.Early.{Early}
use Rattle.nm_prepare.specs.declared.prepare.Early.TheVariants as early
use Rattle.nm_prepare.specs.declared.prepare.Prepared.{Prepared}
use Rattle.nm_prepare.specs.declared.prepare.Prepared.TheVariants as prepared
use Rattle.nm_prepare.specs.Preparing.{is_slow_home, is_in_last, is_only, tier_above, floor_above, Closes, Clears, Discards, AfterTake, Takes, ReadsShadow, AfterLooks, Looks, AfterHome, ReadsHome, AfterLock, IsPrepare}
use Rattle.nm_commit.specs.declared.decide.DecideMade.{DecideMade}
use Rattle.nm_commit.specs.declared.decide.Decided.{Decided}
use Rattle.nm_commit.specs.declared.decide.Decided.TheVariants as decided
use Rattle.nm_commit.specs.Unmapping.{UnmapsOne}
use Rattle.nm_commit.specs.Deciding.{moved_word, UnlocksPage, Marks, Maps, Shades, ReadsShadowWord, Commits, GivesBack, UnlocksOld, Aborts, IsDeciding}
use Rattle.nm_txn.specs.declared.end.TxnEnd.{TxnEnd}
use Rattle.nm_txn.specs.Transactions.{decided_end, Decides, FlushesAgain, Unmaps, Copies, FlushesFirst, AfterPrepare, IsTxn}
use Rattle.nm_locked.specs.declared.choose.ChooseMade.{ChooseMade}
use Rattle.nm_locked.specs.declared.choose.Early.{Early as MoveEarly}
use Rattle.nm_locked.specs.declared.choose.Early.TheVariants as move_early
use Rattle.nm_locked.specs.declared.choose.Chosen.{Chosen}
use Rattle.nm_locked.specs.declared.choose.Chosen.TheVariants as chosen
use Rattle.nm_locked.specs.declared.locked.LockedEnd.{LockedEnd}
use Rattle.nm_locked.specs.Choosing.{UnlocksInMove, ClosesInMove, ArmsAll, PutsBackInMove, DiscardsInMove, ReadsShadowInMove, AfterTakeInMove, TakesInMove, AfterLooksInMove, LooksInMove, AfterHomeInMove, ReadsHomeInMove, AfterLockInMove, IsChoosing}
use Rattle.nm_locked.specs.Moves.{UnlocksMoved, MarksInMove, locked_transfer, Moves, AfterChoosing, IsLockedInMove}
use Rattle.nm_transfer.specs.Transferring.{IsTransfer}
use Rattle.nm_marks.specs.Contents.{HasEvent, ListsHave}
use Rattle.nm_marks.specs.Marks.{IsTakenBack}
use Rattle.nm_marks.proofs.Contents.{has-left, has-right}
use Rattle.nm_marks.proofs.Patterns.{has-after, has-now, has-none, has-either}
use Rattle.nm_part_marks.specs.Ends.{IsClosed, IsCommitted, IsTxnOver, IsChoiceClosed, IsMoveOver}

-- ---- the steps of a transaction up to its first flush

closes-back : (g : Geometry) (made : PrepareMade) (why : Early) → ListsHave (IsTakenBack made.page) IsClosed (Closes g made why)
closes-back g made why = has-now (IsTakenBack made.page) IsClosed (Mark made.page 2 0) g (λ marked. Follows (IsAct (Unlock made.page) g) (λ unlocked. Ends (prepared.Closed why))) (λ reply. refl)

clears-back : (g : Geometry) (made : PrepareMade) (home frame : ℕ) → ListsHave (IsTakenBack made.page) IsClosed (Clears g made home frame)
clears-back g made home frame =
    let B = IsTakenBack made.page in
    has-after B IsClosed (IsAct (ClearDirty made.vpage) g) (λ cleared. Follows (IsAct (Raise made.vpage) g) (λ raised. Ends (prepared.Ready home frame))) (λ cleared.
    has-after B IsClosed (IsAct (Raise made.vpage) g) (λ raised. Ends (prepared.Ready home frame)) (λ raised. has-none B IsClosed (prepared.Ready home frame) (λ h. h)))

discards-back : (g : Geometry) (made : PrepareMade) (home shadow frame : ℕ) → ListsHave (IsTakenBack made.page) IsClosed (Discards g made home shadow frame)
discards-back g made home shadow frame =
    let B = IsTakenBack made.page in
    has-either B IsClosed (shadow == 0) (Clears g made home frame) (Follows (IsAct (SetShadow made.page home None) g) (λ set. Follows (IsPool g (Back (shadow_frame shadow))) (λ back. Clears g made home frame)))
    (clears-back g made home frame)
    (has-after B IsClosed (IsAct (SetShadow made.page home None) g) (λ set. Follows (IsPool g (Back (shadow_frame shadow))) (λ back. Clears g made home frame)) (λ set.
    has-after B IsClosed (IsPool g (Back (shadow_frame shadow))) (λ back. Clears g made home frame) (λ back. clears-back g made home frame)))

take-back : (g : Geometry) (made : PrepareMade) (home shadow : ℕ) (end : PoolEnd) → ListsHave (IsTakenBack made.page) IsClosed (AfterTake g made home shadow end)
take-back g made home shadow (pools.Got frame) = discards-back g made home shadow frame
take-back g made home shadow (pools.AtFloor n) = has-after (IsTakenBack made.page) IsClosed (IsAct (Arm made.vpage) g) (λ armed. Closes g made (early.NoFrame n)) (λ armed. closes-back g made (early.NoFrame n))
take-back g made home shadow (pools.Level n) = λ own outcome h here. absurd h
take-back g made home shadow pools.Back = λ own outcome h here. absurd h

takes-back : (g : Geometry) (made : PrepareMade) (home shadow : ℕ) → ListsHave (IsTakenBack made.page) IsClosed (Takes g made home shadow)
takes-back g made home shadow = has-after (IsTakenBack made.page) IsClosed (IsPool g (Take (tier_above g home) (floor_above g home))) (AfterTake g made home shadow) (take-back g made home shadow)

shadow-back : (g : Geometry) (made : PrepareMade) (home : ℕ) → ListsHave (IsTakenBack made.page) IsClosed (ReadsShadow g made home)
shadow-back g made home =
    has-either (IsTakenBack made.page) IsClosed (is_in_last g home) (Takes g made home 0) (Follows (IsAct (Read made.page (cells.Shadow home)) g) (λ reply. Takes g made home (told reply)))
    (takes-back g made home 0)
    (has-after (IsTakenBack made.page) IsClosed (IsAct (Read made.page (cells.Shadow home)) g) (λ reply. Takes g made home (told reply)) (λ reply. takes-back g made home (told reply)))

looks-back : (g : Geometry) (made : PrepareMade) (home : ℕ) (found : List ℕ) → ListsHave (IsTakenBack made.page) IsClosed (AfterLooks g made home found)
looks-back g made home found =
    has-either (IsTakenBack made.page) IsClosed (is_only made.vpage found) (ReadsShadow g made home) (Follows (IsVisits (arms_made made.page found) g) (λ armed. Closes g made early.Gone))
    (shadow-back g made home)
    (has-after (IsTakenBack made.page) IsClosed (IsVisits (arms_made made.page found) g) (λ armed. Closes g made early.Gone) (λ armed. closes-back g made early.Gone))

home-back : (g : Geometry) (made : PrepareMade) (reply : Reply) → ListsHave (IsTakenBack made.page) IsClosed (AfterHome g made reply)
home-back g made reply =
    has-either (IsTakenBack made.page) IsClosed (is_slow_home g (told reply)) (Looks g made (told reply - 1)) (Closes g made early.Gone)
    (has-after (IsTakenBack made.page) IsClosed (IsVisits (looks_made made.page (vpages_of g made.page)) g) (AfterLooks g made (told reply - 1)) (looks-back g made (told reply - 1)))
    (closes-back g made early.Gone)

lock-back : (g : Geometry) (made : PrepareMade) (reply : Reply) → ListsHave (IsTakenBack made.page) IsClosed (AfterLock g made reply)
lock-back g made Done =
    has-either (IsTakenBack made.page) IsClosed (is_worn made.spent) (Closes g made early.Worn) (ReadsHome g made) (closes-back g made early.Worn)
    (has-after (IsTakenBack made.page) IsClosed (IsAct (Read made.page (cells.Home made.page)) g) (AfterHome g made) (home-back g made))
lock-back g made (Word n) = has-none (IsTakenBack made.page) IsClosed prepared.Busy (λ h. h)
lock-back g made (Busy n) = has-none (IsTakenBack made.page) IsClosed prepared.Busy (λ h. h)
lock-back g made (Lost n) = has-none (IsTakenBack made.page) IsClosed prepared.Busy (λ h. h)

pub prepare-back : (made : PrepareMade) (g : Geometry) → ListsHave (IsTakenBack made.page) IsClosed (IsPrepare made g)
prepare-back made g = has-after (IsTakenBack made.page) IsClosed (IsAct (Lock made.page) g) (AfterLock g made) (lock-back g made)

-- ---- the decision

commits-back : (g : Geometry) (made : DecideMade) → ListsHave (IsTakenBack made.page) IsCommitted (Commits g made)
commits-back g made =
    let B = IsTakenBack made.page in
    has-after B IsCommitted (IsAct (SetHome made.page made.frame) g) (λ set. ReadsShadowWord g made) (λ set.
    has-after B IsCommitted (IsAct (Read made.page (cells.Shadow made.frame)) g) (λ reply. Shades g made) (λ reply.
    has-after B IsCommitted (IsAct (SetShadow made.page made.frame (Some made.home)) g) (λ set. Maps g made) (λ set.
    has-after B IsCommitted (IsAct (Map made.vpage (moved_word g made.frame made.word)) g) (λ mapped. Marks g made) (λ mapped.
    has-now B IsCommitted (Mark made.page 2 0) g (λ marked. UnlocksPage g made) (λ reply. refl)))))

aborts-back : (g : Geometry) (made : DecideMade) → ListsHave (IsTakenBack made.page) IsCommitted (Aborts g made)
aborts-back g made =
    let B = IsTakenBack made.page in
    has-after B IsCommitted (IsAct (Map made.vpage made.word) g) (λ mapped. UnlocksOld g made) (λ mapped.
    has-after B IsCommitted (IsAct (Unlock made.page) g) (λ unlocked. GivesBack g made) (λ unlocked.
    has-after B IsCommitted (IsPool g (Back made.frame)) (λ back. Ends (decided.Aborted made.word)) (λ back. has-none B IsCommitted (decided.Aborted made.word) (λ h. h))))

pub deciding-back : (made : DecideMade) (g : Geometry) → ListsHave (IsTakenBack made.page) IsCommitted (IsDeciding made g)
deciding-back made g = has-either (IsTakenBack made.page) IsCommitted (is_dirty made.word) (Aborts g made) (Commits g made) (aborts-back g made) (commits-back g made)

-- ---- transactions

-- a decision in a transaction that is over was to commit
pub over-committed : (end : Decided) → IsTxnOver (decided_end end) → IsCommitted end
over-committed decided.Committed over = tt
over-committed (decided.Aborted word) over = over

decides-back : (g : Geometry) (made : PrepareMade) (home frame word : ℕ) → ListsHave (IsTakenBack made.page) IsTxnOver (Decides g made home frame word)
decides-back g made home frame word own outcome h over =
    let E : Own → Type 0 = λ l. HasEvent (IsTakenBack made.page) l in
    let given : DecideMade = record { page = made.page; vpage = made.vpage; word = word; home = home; frame = frame } in
    let committed : IsCommitted h.end = over-committed h.end (subst IsTxnOver h.rest.is over) in
    subst E (sym h.is) (has-left (IsTakenBack made.page) h.front h.back (deciding-back given g h.front h.end h.shown committed))

flushed-back : (g : Geometry) (made : PrepareMade) (home frame : ℕ) → ListsHave (IsTakenBack made.page) IsTxnOver (FlushesFirst g made home frame)
flushed-back g made home frame =
    let B = IsTakenBack made.page in
    has-after B IsTxnOver (IsShootdown g.cpus) (λ number. Copies g made home frame) (λ number.
    has-after B IsTxnOver (IsCopying (record { page = made.page; frame = frame; words = g.words }) g) (λ copied. Unmaps g made home frame) (λ copied.
    has-after B IsTxnOver (UnmapsOne (record { page = made.page; vpage = made.vpage }) g) (λ word. FlushesAgain g made home frame word) (λ word.
    has-after B IsTxnOver (IsShootdown g.cpus) (λ number. Decides g made home frame word) (λ number. decides-back g made home frame word))))

-- a transaction of which the first steps are over
prepared-back : (g : Geometry) (made : PrepareMade) (front back : Own) (end : Prepared) (outcome : TxnEnd) → IsPrepare made g front end → AfterPrepare g made end back outcome → IsTxnOver outcome → HasEvent (IsTakenBack made.page) (front ++ back)
prepared-back g made front back prepared.Busy outcome shown rest over = absurd (subst IsTxnOver rest.is over)
prepared-back g made front back (prepared.Closed why) outcome shown rest over = has-left (IsTakenBack made.page) front back (prepare-back made g front (prepared.Closed why) shown tt)
prepared-back g made front back (prepared.Ready home frame) outcome shown rest over = has-right (IsTakenBack made.page) front back (flushed-back g made home frame back outcome rest over)

pub txn-back : (made : PrepareMade) (g : Geometry) → ListsHave (IsTakenBack made.page) IsTxnOver (IsTxn made g)
txn-back made g own outcome h over =
    let E : Own → Type 0 = λ l. HasEvent (IsTakenBack made.page) l in
    subst E (sym h.is) (prepared-back g made h.front h.back h.end outcome h.shown h.rest over)

-- ---- locked moves

move-closes-back : (g : Geometry) (made : ChooseMade) (why : MoveEarly) → ListsHave (IsTakenBack made.page) IsChoiceClosed (ClosesInMove g made why)
move-closes-back g made why = has-now (IsTakenBack made.page) IsChoiceClosed (Mark made.page 2 0) g (λ marked. UnlocksInMove g made why) (λ reply. refl)

arms-back : (g : Geometry) (made : ChooseMade) (why : MoveEarly) (pages : List ℕ) → ListsHave (IsTakenBack made.page) IsChoiceClosed (ArmsAll g made why pages)
arms-back g made why pages = has-after (IsTakenBack made.page) IsChoiceClosed (IsVisits (arms_made made.page pages) g) (λ armed. ClosesInMove g made why) (λ armed. move-closes-back g made why)

move-shadow-back : (g : Geometry) (made : ChooseMade) (home frame : ℕ) (pages : List ℕ) → ListsHave (IsTakenBack made.page) IsChoiceClosed (ReadsShadowInMove g made home frame pages)
move-shadow-back g made home frame pages =
    let B = IsTakenBack made.page in
    let end = chosen.Ready home frame pages in
    has-after B IsChoiceClosed (IsAct (Read made.page (cells.Shadow home)) g) (λ reply. DiscardsInMove g made home (told reply) frame pages) (λ reply.
    has-either B IsChoiceClosed (told reply == 0) (Ends end) (Follows (IsAct (SetShadow made.page home None) g) (λ set. PutsBackInMove g made home (told reply) frame pages))
    (has-none B IsChoiceClosed end (λ h. h))
    (has-after B IsChoiceClosed (IsAct (SetShadow made.page home None) g) (λ set. PutsBackInMove g made home (told reply) frame pages) (λ set.
    has-after B IsChoiceClosed (IsPool g (Back (shadow_frame (told reply)))) (λ back. Ends end) (λ back. has-none B IsChoiceClosed end (λ h. h)))))

move-take-back : (g : Geometry) (made : ChooseMade) (home : ℕ) (pages : List ℕ) (end : PoolEnd) → ListsHave (IsTakenBack made.page) IsChoiceClosed (AfterTakeInMove g made home pages end)
move-take-back g made home pages (pools.Got frame) = move-shadow-back g made home frame pages
move-take-back g made home pages (pools.AtFloor n) = arms-back g made (move_early.NoFrame n) pages
move-take-back g made home pages (pools.Level n) = λ own outcome h here. absurd h
move-take-back g made home pages pools.Back = λ own outcome h here. absurd h

move-looks-back : (g : Geometry) (made : ChooseMade) (home : ℕ) (pages : List ℕ) → ListsHave (IsTakenBack made.page) IsChoiceClosed (AfterLooksInMove g made home pages)
move-looks-back g made home pages =
    has-either (IsTakenBack made.page) IsChoiceClosed (length pages == made.count) (TakesInMove g made home pages) (ArmsAll g made move_early.Gone pages)
    (has-after (IsTakenBack made.page) IsChoiceClosed (IsPool g (Take (tier_above g home) (floor_above g home))) (AfterTakeInMove g made home pages) (move-take-back g made home pages))
    (arms-back g made move_early.Gone pages)

move-home-back : (g : Geometry) (made : ChooseMade) (word : ℕ) → ListsHave (IsTakenBack made.page) IsChoiceClosed (AfterHomeInMove g made word)
move-home-back g made word =
    has-either (IsTakenBack made.page) IsChoiceClosed (is_slow_home g word) (LooksInMove g made (word - 1)) (ClosesInMove g made move_early.Gone)
    (has-after (IsTakenBack made.page) IsChoiceClosed (IsVisits (looks_made made.page (vpages_of g made.page)) g) (AfterLooksInMove g made (word - 1)) (move-looks-back g made (word - 1)))
    (move-closes-back g made move_early.Gone)

move-lock-back : (g : Geometry) (made : ChooseMade) (reply : Reply) → ListsHave (IsTakenBack made.page) IsChoiceClosed (AfterLockInMove g made reply)
move-lock-back g made Done =
    has-either (IsTakenBack made.page) IsChoiceClosed (is_worn made.spent) (ClosesInMove g made move_early.Worn) (ReadsHomeInMove g made) (move-closes-back g made move_early.Worn)
    (has-after (IsTakenBack made.page) IsChoiceClosed (IsAct (Read made.page (cells.Home made.page)) g) (λ reply. AfterHomeInMove g made (told reply)) (λ reply. move-home-back g made (told reply)))
move-lock-back g made (Word n) = has-none (IsTakenBack made.page) IsChoiceClosed chosen.Busy (λ h. h)
move-lock-back g made (Busy n) = has-none (IsTakenBack made.page) IsChoiceClosed chosen.Busy (λ h. h)
move-lock-back g made (Lost n) = has-none (IsTakenBack made.page) IsChoiceClosed chosen.Busy (λ h. h)

choosing-back : (made : ChooseMade) (g : Geometry) → ListsHave (IsTakenBack made.page) IsChoiceClosed (IsChoosing made g)
choosing-back made g = has-after (IsTakenBack made.page) IsChoiceClosed (IsAct (Lock made.page) g) (AfterLockInMove g made) (move-lock-back g made)

moves-back : (g : Geometry) (made : ChooseMade) (home frame : ℕ) (pages : List ℕ) → ListsHave (IsTakenBack made.page) IsMoveOver (Moves g made home frame pages)
moves-back g made home frame pages =
    has-after (IsTakenBack made.page) IsMoveOver (IsTransfer (locked_transfer g made home frame pages) g) (λ taken. MarksInMove g made home) (λ taken.
    has-now (IsTakenBack made.page) IsMoveOver (Mark made.page 2 0) g (λ marked. UnlocksMoved g made home) (λ reply. refl))

chosen-back : (g : Geometry) (made : ChooseMade) (front back : Own) (end : Chosen) (outcome : LockedEnd) → IsChoosing made g front end → AfterChoosing g made end back outcome → IsMoveOver outcome → HasEvent (IsTakenBack made.page) (front ++ back)
chosen-back g made front back chosen.Busy outcome shown rest over = absurd (subst IsMoveOver rest.is over)
chosen-back g made front back (chosen.Closed why) outcome shown rest over = has-left (IsTakenBack made.page) front back (choosing-back made g front (chosen.Closed why) shown tt)
chosen-back g made front back (chosen.Ready home frame pages) outcome shown rest over = has-right (IsTakenBack made.page) front back (moves-back g made home frame pages back outcome rest over)

pub locked-back : (made : ChooseMade) (g : Geometry) → ListsHave (IsTakenBack made.page) IsMoveOver (IsLockedInMove made g)
locked-back made g own outcome h over =
    let E : Own → Type 0 = λ l. HasEvent (IsTakenBack made.page) l in
    subst E (sym h.is) (chosen-back g made h.front h.back h.end outcome h.shown h.rest over)
