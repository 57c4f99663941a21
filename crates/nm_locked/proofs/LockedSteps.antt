-- The steps of a locked move.
use Rattle.std.proofs.Common.{◌≡◌, ◌≢◌, ℕ, ◌+◌, ◌≤◌, List, [], ◌∷◌, length, Option, Some, None, IsSome, IsSomeAnd, inl, inr, refl, sym, ap, ◌∙◌, subst, arith}
use Rattle.nm_base.specs.Geometry.{Geometry, IsGeometry}
use Rattle.nm_base.specs.Ranges.{IsFrame}
use Rattle.nm_action.specs.declared.action.Action.TheVariants.{Unlock, Mark}
use Rattle.nm_action.specs.declared.action.Reply.TheVariants.{Done, Word, Busy, Lost}
use Rattle.nm_action.specs.Own.{Own}
use Rattle.nm_view.specs.declared.view.Owned.{Owned}
use Rattle.nm_view.specs.Lists.{erase}
use Rattle.nm_view.specs.Views.{Op, View}
use Rattle.nm_view.specs.Opening.{unscanned}
use Rattle.nm_view.specs.Operations.{owned_frame, op_on}
use Rattle.nm_permit.specs.Permitted.{MayUnlock}
use Rattle.nm_event.specs.After.{after_of}
use Rattle.nm_part.specs.Patterns.{Ends, Follows, CanEnd}
use Rattle.nm_part.proofs.Patterns.{ends-now, can-ends, can-follow}
use Rattle.nm_compose.specs.Acts.{MayAct, IsAct, IsActed}
use Rattle.nm_compose.specs.Choices.{IsOr}
use Rattle.nm_compose.specs.Plans.{IsPieceRun, IsNewRun, IsOver, IsNext}
use Rattle.nm_compose.specs.declared.or.Or.{Or}
use Rattle.nm_compose.specs.declared.or.Or.TheVariants.{This, Other}
use Rattle.nm_compose.specs.declared.plan.Next.{Next}
use Rattle.nm_compose.specs.declared.plan.Next.TheVariants.{Run, Over}
use Rattle.nm_compose.proofs.Acting.{some-act}
use Rattle.nm_compose.proofs.Choosing.{this-follows, other-follows}
use Rattle.nm_action.specs.declared.action.Action.{Action}
use Rattle.nm_action.specs.declared.action.Reply.{Reply}
use Rattle.nm_pool.specs.Pool.{IsPool}
use Rattle.nm_pool.specs.Given.{pool_made, released}
use Rattle.nm_pool.specs.declared.job.PoolJob.TheVariants.{Back}
use Rattle.nm_pool.specs.declared.job.PoolMade.{PoolMade}
use Rattle.nm_pool.specs.declared.job.PoolEnd.{PoolEnd}
use Rattle.nm_pool.specs.declared.job.PoolEnd.TheVariants as pools
use Rattle.nm_transfer.specs.declared.transfer.TransferMade.{TransferMade}
use Rattle.nm_transfer.specs.Transferring.{IsTransfer}
use Rattle.nm_transfer.specs.Stages.{HoldsWords}
use Rattle.nm_transfer.proofs.Running.{some-transfer}
use Rattle.nm_prepare.specs.Placing.{IsPlanPlaced, RunsPlaced}
use Rattle.nm_prepare.proofs.Placed.{at-placed, run-placed}
use Rattle.nm_prepare.proofs.Ending.{some-back}
use Rattle.nm_locked.specs.declared.choose.ChooseMade.{ChooseMade}
use Rattle.nm_locked.specs.declared.choose.Early.{Early}
use Rattle.nm_locked.specs.declared.choose.Early.TheVariants as early
use Rattle.nm_locked.specs.declared.choose.Chosen.{Chosen}
use Rattle.nm_locked.specs.declared.choose.Chosen.TheVariants as chosen
use Rattle.nm_locked.specs.declared.locked.LockedEnd.{LockedEnd}
use Rattle.nm_locked.specs.declared.locked.LockedEnd.TheVariants as ends
use Rattle.nm_locked.specs.declared.locked.LockedOver.{LockedOver}
use Rattle.nm_locked.specs.declared.locked.LockedStage.{LockedStage}
use Rattle.nm_locked.specs.declared.locked.LockedStage.TheVariants.{Choosing, Moving, Marking, Unlocking, GivingBack}
use Rattle.nm_locked.specs.declared.locked.Locked.{Locked}
use Rattle.nm_locked.specs.Choosing.{IsChoosing}
use Rattle.nm_locked.specs.Chosen.{MayChoose, HasReadyInMove, HasClosedInMove}
use Rattle.nm_locked.specs.Moves.{GivesBackInMove, UnlocksMoved, MarksInMove, locked_transfer, Moves, move_early_end, AfterChoosing, IsLockedInMove}
use Rattle.nm_locked.specs.Leaving.{IsLockedLeft}
use Rattle.nm_locked.specs.Stages.{IsPoolOf}
use Rattle.nm_locked.specs.Pieces.{LockedParts, LockedPieceEnd, MayLockedPiece, IsLockedPiece, LockedPieceLeaves, LockedPiece, locked_parts, IsNewLockedPiece}
use Rattle.nm_locked.specs.ChooseRuns.{IsChoosingOf}
use Rattle.nm_locked.specs.Places.{LockedPlace, locked_at, IsOverWith, stage_piece, locked_piece, chosen_in, stage_left, locked_left, IsChoosingNow, IsMovedNow, IsUnlockedNow, StageKnown, HoldsAt, LockedKnown}
use Rattle.nm_locked.proofs.Ending.{some-choosing}
use Rattle.nm_locked.proofs.Steps.{some-is, may-here}
use Rattle.nm_locked.proofs.Moving.{transfer-may, transfer-left, moved-on, unlocked-left, back-may, back-left}

-- What is left can end.

can-gives-back : (g : Geometry) (made : ChooseMade) (home : ℕ) → CanEnd (GivesBackInMove g made home)
can-gives-back g made home = can-follow (IsPool g (Back home)) (λ back. Ends ends.Moved) (some-back g home) (can-ends ends.Moved)

can-unlocks-moved : (g : Geometry) (made : ChooseMade) (home : ℕ) → CanEnd (UnlocksMoved g made home)
can-unlocks-moved g made home = can-follow (IsAct (Unlock made.page) g) (λ unlocked. GivesBackInMove g made home) (some-act (Unlock made.page) g) (can-gives-back g made home)

can-marks : (g : Geometry) (made : ChooseMade) (home : ℕ) → CanEnd (MarksInMove g made home)
can-marks g made home = can-follow (IsAct (Mark made.page 2 0) g) (λ marked. UnlocksMoved g made home) (some-act (Mark made.page 2 0) g) (can-unlocks-moved g made home)

can-after-choosing : (g : Geometry) (made : ChooseMade) (end : Chosen) → CanEnd (AfterChoosing g made end)
can-after-choosing g made chosen.Busy = can-ends ends.Busy
can-after-choosing g made (chosen.Closed why) = can-ends (move_early_end why)
can-after-choosing g made (chosen.Ready home frame pages) = can-follow (IsTransfer (locked_transfer g made home frame pages) g) (λ taken. MarksInMove g made home) (some-transfer (locked_transfer g made home frame pages) g) (can-marks g made home)

-- the pattern has a list
pub some-locked : (made : ChooseMade) (g : Geometry) → IsGeometry g → CanEnd (IsLockedInMove made g)
some-locked made g h = let some = some-choosing made g h in can-follow (IsChoosing made g) (AfterChoosing g made) some (can-after-choosing g made some.outcome)

-- The list for the words that comes with the end.

with-words : (pattern : Own → LockedEnd → Type 0) → CanEnd pattern → CanEnd (λ own (over : LockedOver). pattern own over.end)
with-words pattern can = record { rest = can.rest; outcome = record { end = can.outcome; taken = [] }; shown = can.shown }

without-words : {X : Type 0} (shape : Own → X → Type 0) (after : X → Own → LockedEnd → Type 0) (own : Own) (over : LockedOver) → Follows shape (λ x own (o : LockedOver). after x own o.end) own over → Follows shape after own over.end
without-words shape after own over f = record { end = f.end; front = f.front; back = f.back; shown = f.shown; rest = f.rest; is = f.is }

-- The pieces.

abbrev IsLast : Or Action PoolMade → Geometry → Own → Or Reply PoolEnd → Type 0
IsLast = IsOr IsAct IsPoolOf

abbrev IsOthers : Or TransferMade (Or Action PoolMade) → Geometry → Own → Or (List (ℕ × ℕ)) (Or Reply PoolEnd) → Type 0
IsOthers = IsOr IsTransfer IsLast

abbrev pub RunsLocked : ChooseMade → LockedPlace → (Own → LockedOver → Type 0) → Geometry → View → View → Type 0
RunsLocked = RunsPlaced MayLockedPiece IsLockedPiece locked_piece locked_left LockedKnown

abbrev place : LockedStage → Option (List (ℕ × ℕ)) → LockedPlace
place stage taken = record { stage = stage; taken = taken }

abbrev ended : (Own → LockedEnd → Type 0) → Own → LockedOver → Type 0
ended pattern own over = pattern own over.end

pub runs-choosing : (made : ChooseMade) (taken : Option (List (ℕ × ℕ))) (g : Geometry) (view : View) → MayChoose g made g view → HoldsWords taken → RunsLocked made (place Choosing taken) (ended (IsLockedInMove made g)) g view view
runs-choosing made taken g view may words = record {
  begin = may;
  known = record { geometry = refl; is = refl; holds = record { stage = record { may = may; begun = refl }; words = words } };
  can = λ own end shown. with-words (AfterChoosing g made (chosen_in end)) (can-after-choosing g made (chosen_in end));
  fits = λ own over f. without-words (IsChoosing made g) (AfterChoosing g made) own over (this-follows IsChoosingOf IsOthers (locked_left made (place Choosing taken) g) (g, made) g own over f);
}

runs-moving : (made : ChooseMade) (home frame : ℕ) (pages : List ℕ) (taken : Option (List (ℕ × ℕ))) (g : Geometry) (view now : View) → HasReadyInMove made g view home frame pages now
    → RunsLocked made (place (Moving home frame pages) taken) (ended (Moves g made home frame pages)) g view now
runs-moving made home frame pages taken g view now h = record {
  begin = transfer-may made home frame pages g view now h;
  known = record { geometry = refl; is = refl; holds = record { stage = h; words = tt } };
  can = λ own end shown. with-words (MarksInMove g made home) (can-marks g made home);
  fits = λ own over f. without-words (IsTransfer (locked_transfer g made home frame pages) g) (λ taken. MarksInMove g made home) own over
      (this-follows IsTransfer IsLast (λ end. locked_left made (place (Moving home frame pages) taken) g (Other end)) (locked_transfer g made home frame pages) g own over
      (other-follows IsChoosingOf IsOthers (locked_left made (place (Moving home frame pages) taken) g) (This (locked_transfer g made home frame pages)) g own over f));
}

-- an action runs
act-fits : (made : ChooseMade) (here : LockedPlace) (after : Reply → Own → LockedEnd → Type 0) (action : Action) (g : Geometry) (own : Own) (over : LockedOver)
    → ((front back : Own) (reply : Reply) (end : LockedEnd) → stage_left made here.stage g (Other (Other (This reply))) back end → after reply back end)
    → Follows (IsLockedPiece (Other (Other (This action))) g) (locked_left made here g) own over → Follows (IsAct action g) after own over.end
act-fits made here after action g own over same f =
    let h = this-follows IsAct IsPoolOf (λ end. locked_left made here g (Other (Other end))) action g own over
    (other-follows IsTransfer IsLast (λ end. locked_left made here g (Other end)) (This action) g own over
    (other-follows IsChoosingOf IsOthers (locked_left made here g) (Other (This action)) g own over f)) in
    record { end = h.end; front = h.front; back = h.back; shown = h.shown; rest = same h.front h.back h.end over.end h.rest; is = h.is }

runs-marking : (made : ChooseMade) (home : ℕ) (taken : Option (List (ℕ × ℕ))) (g : Geometry) (view now : View) → IsMovedNow made home g view now → HoldsWords taken
    → RunsLocked made (place (Marking home) taken) (ended (MarksInMove g made home)) g view now
runs-marking made home taken g view now h words = record {
  begin = record { quiet = tt; allowed = record { range = h.slow.may.page; permitted = inr (record { pending = refl; none = refl; op = some-is (op_on now made.page) h.op (moved-on made home g view now h) }) } };
  known = record { geometry = refl; is = refl; holds = record { stage = h; words = words } };
  can = λ own end shown. with-words (UnlocksMoved g made home) (can-unlocks-moved g made home);
  fits = λ own over f. act-fits made (place (Marking home) taken) (λ marked. UnlocksMoved g made home) (Mark made.page 2 0) g own over (λ front back reply end r. r) f;
}

runs-unlocking : (made : ChooseMade) (home : ℕ) (taken : Option (List (ℕ × ℕ))) (g : Geometry) (view now : View) → IsMovedNow made home g view now → HoldsWords taken
    → RunsLocked made (place (Unlocking home) taken) (ended (UnlocksMoved g made home)) g view now
runs-unlocking made home taken g view now h words = record {
  begin = record { quiet = tt; allowed = record { range = h.slow.may.page; permitted = subst (λ (x : Option Op). IsSomeAnd x (MayUnlock g)) (sym (moved-on made home g view now h)) h.unlock } };
  known = record { geometry = refl; is = refl; holds = record { stage = h; words = words } };
  can = λ own end shown. with-words (GivesBackInMove g made home) (can-gives-back g made home);
  fits = λ own over f. act-fits made (place (Unlocking home) taken) (λ unlocked. GivesBackInMove g made home) (Unlock made.page) g own over (λ front back reply end r. r) f;
}

runs-giving-back : (made : ChooseMade) (home : ℕ) (taken : Option (List (ℕ × ℕ))) (g : Geometry) (view now : View) → IsUnlockedNow made home g view now → HoldsWords taken
    → RunsLocked made (place (GivingBack home) taken) (ended (GivesBackInMove g made home)) g view now
runs-giving-back made home taken g view now h words = record {
  begin = back-may made home g view now h;
  known = record { geometry = refl; is = refl; holds = record { stage = h; words = words } };
  can = λ own end shown. with-words (Ends ends.Moved) (can-ends ends.Moved);
  fits = λ own over f. without-words (IsPool g (Back home)) (λ back. Ends ends.Moved) own over
      (other-follows IsAct IsPoolOf (λ end. locked_left made (place (GivingBack home) taken) g (Other (Other end))) (pool_made g (Back home)) g own over
      (other-follows IsTransfer IsLast (λ end. locked_left made (place (GivingBack home) taken) g (Other end)) (Other (pool_made g (Back home))) g own over
      (other-follows IsChoosingOf IsOthers (locked_left made (place (GivingBack home) taken) g) (Other (Other (pool_made g (Back home)))) g own over f)));
}

-- What a move does next.

abbrev pub AtLocked : Locked → Geometry → View → View → LockedParts → Type 0
AtLocked s = IsPlanPlaced locked_piece LockedKnown s.geometry.now s.made (locked_at s)

abbrev pub GivesLocked : Locked → LockedParts → (Own → LockedOver → Type 0) → Geometry → View → View → Type 0
GivesLocked new runs was g first now = IsPieceRun MayLockedPiece IsLockedPiece (AtLocked new) (locked_left new.made (locked_at new)) was runs g first now

pub gives-locked : (old new : Locked) (next : LockedPlace) (runs : LockedParts) (was : Own → LockedOver → Type 0) (g : Geometry) (first now : View)
    → old.geometry.now ≡ g → new ≡ record old { stage = next.stage; taken = next.taken } → runs ≡ locked_piece old.geometry.now old.made next → RunsLocked old.made next was g first now → GivesLocked new runs was g first now
gives-locked old new next runs was g first now geometry is acts run =
    run-placed MayLockedPiece IsLockedPiece locked_piece locked_left LockedKnown was old.geometry.now new.geometry.now old.made new.made next (locked_at new) runs g first now
    geometry (ap (λ (s : Locked). s.geometry.now) is) (ap (λ (s : Locked). s.made) is) (ap locked_at is) acts run

abbrev pub EndsSo : Own → LockedParts → Geometry → View → LockedPieceEnd → View → Type 0
EndsSo own runs g now end later = LockedPieceLeaves runs g now end later × IsLockedPiece runs g own end

-- after a piece: shown at its stage, for its end
pub step-locked : (old : Locked) (here : LockedStage) (end so : LockedPieceEnd) (runs : LockedParts) (g : Geometry) (first now later : View) (own : Own) (goal : (Own → LockedOver → Type 0) → Type 0)
    → old.stage ≡ here → end ≡ so → AtLocked old g first now runs → LockedPieceLeaves runs g now end later → IsLockedPiece runs g own end
    → (LockedKnown old.made (place here old.taken) g first now → EndsSo own (stage_piece g old.made here) g now so later → goal (ended (stage_left old.made here g so))) → goal (ended (stage_left old.made old.stage g end))
step-locked old here end so runs g first now later own goal at ended-is placed left shown show =
    at-placed locked_piece LockedKnown (EndsSo own) (λ p e. goal (ended (stage_left old.made p.stage g e))) old.geometry.now old.made (locked_at old) (place here old.taken) end so g first now later runs
    (ap (λ (s : LockedStage). place s old.taken) at) ended-is placed (left, shown) show

pub over-next : (new : Locked) (made : ChooseMade) (was : Own → LockedEnd → Type 0) (end : LockedEnd) (g : Geometry) (first later : View) (next : Next LockedPiece LockedOver) → IsOverWith end next → was [] end → IsLockedLeft made first end later
    → IsNext locked_parts IsNewLockedPiece MayLockedPiece IsLockedPiece (AtLocked new) (locked_left new.made (locked_at new)) (ended was) (λ g view over left. IsLockedLeft made view over.end left) (λ g over. Unit {0}) g first later next
over-next new made was end g first later (Run piece) over shown left = absurd over
over-next new made was end g first later (Over o) over shown left = record { shown = subst (was []) (sym over) shown; left = subst (λ (e : LockedEnd). IsLockedLeft made first e later) (sym over) left; over = tt }

-- what the plan does next where it is over
abbrev pub DoesOver : Locked → ChooseMade → Geometry → View → View → Next LockedPiece LockedOver → (Own → LockedOver → Type 0) → Type 0
DoesOver new made g first later next was = IsNext locked_parts IsNewLockedPiece MayLockedPiece IsLockedPiece (AtLocked new) (locked_left new.made (locked_at new)) was (λ g view over left. IsLockedLeft made view over.end left) (λ g over. Unit {0}) g first later next

-- The first piece.

pub begins : (old new : Locked) (runs : LockedParts) (g : Geometry) (view : View) → old.geometry.now ≡ g → new ≡ record old { stage = Choosing } → runs ≡ This (record { 0 = old.geometry.now; 1 = old.made }) → MayChoose old.geometry.now old.made g view → HoldsWords old.taken
    → GivesLocked new runs (ended (IsLockedInMove old.made g)) g view view
begins old new runs g view geometry is acts may words =
    gives-locked old new (place Choosing old.taken) runs (ended (IsLockedInMove old.made g)) g view view geometry is acts (runs-choosing old.made old.taken g view (may-here old.geometry.now old.made g view may) words)

-- The steps before the page is moved.

-- the page was busy
pub after-busy-page : (old new : Locked) (next : Next LockedPiece LockedOver) (end : LockedPieceEnd) (runs : LockedParts) (g : Geometry) (first now later : View) (own : Own)
    → old.stage ≡ Choosing → end ≡ This chosen.Busy → AtLocked old g first now runs → LockedPieceLeaves runs g now end later → IsLockedPiece runs g own end → IsOverWith ends.Busy next
    → DoesOver new old.made g first later next (ended (stage_left old.made old.stage g end))
after-busy-page old new next end runs g first now later own at ended-is known left shown over =
    step-locked old Choosing end (This chosen.Busy) runs g first now later own (DoesOver new old.made g first later next) at ended-is known left shown
    (λ k a. over-next new old.made (Ends ends.Busy) ends.Busy g first later next over (ends-now ends.Busy) (a.0 ∙ k.stage.begun))

closed-left : (made : ChooseMade) (why : Early) (view left : View) → HasClosedInMove made.page view left → IsLockedLeft made view (move_early_end why) left
closed-left made (early.NoFrame n) view left h = h
closed-left made early.Gone view left h = h
closed-left made early.Worn view left h = h

-- the steps before ended early
pub after-early : (old new : Locked) (next : Next LockedPiece LockedOver) (end : LockedPieceEnd) (why : Early) (over_end : LockedEnd) (runs : LockedParts) (g : Geometry) (first now later : View) (own : Own)
    → old.stage ≡ Choosing → end ≡ This (chosen.Closed why) → over_end ≡ move_early_end why → AtLocked old g first now runs → LockedPieceLeaves runs g now end later → IsLockedPiece runs g own end → IsOverWith over_end next
    → DoesOver new old.made g first later next (ended (stage_left old.made old.stage g end))
after-early old new next end why over_end runs g first now later own at ended-is why-is known left shown over =
    step-locked old Choosing end (This (chosen.Closed why)) runs g first now later own (DoesOver new old.made g first later next) at ended-is known left shown
    (λ k a. over-next new old.made (Ends (move_early_end why)) (move_early_end why) g first later next (subst (λ (e : LockedEnd). IsOverWith e next) why-is over) (ends-now (move_early_end why))
    (closed-left old.made why first later (subst (λ (v : View). HasClosedInMove old.made.page v later) k.stage.begun a.0)))

-- the page is ready
pub after-ready : (old new : Locked) (given : LockedParts) (end : LockedPieceEnd) (home frame : ℕ) (pages : List ℕ) (runs : LockedParts) (g : Geometry) (first now later : View) (own : Own)
    → old.stage ≡ Choosing → end ≡ This (chosen.Ready home frame pages) → AtLocked old g first now runs → LockedPieceLeaves runs g now end later → IsLockedPiece runs g own end
    → new ≡ record old { stage = Moving home frame pages; taken = None } → given ≡ Other (This (locked_transfer old.geometry.now old.made home frame pages)) → GivesLocked new given (ended (stage_left old.made old.stage g end)) g first later
after-ready old new given end home frame pages runs g first now later own at ended-is known left shown is acts =
    step-locked old Choosing end (This (chosen.Ready home frame pages)) runs g first now later own (λ was. GivesLocked new given was g first later) at ended-is known left shown
    (λ k a. gives-locked old new (place (Moving home frame pages) None) given (ended (Moves g old.made home frame pages)) g first later known.geometry is acts
    (runs-moving old.made home frame pages None g first later (subst (λ (v : View). HasReadyInMove old.made g v home frame pages later) k.stage.begun a.0)))

-- The move, and its end.

transferred : (made : ChooseMade) (home frame : ℕ) (pages : List ℕ) (taken : List (ℕ × ℕ)) (g : Geometry) (view now later : View) (own : Own) → HasReadyInMove made g view home frame pages now
    → EndsSo own (Other (This (locked_transfer g made home frame pages))) g now (Other (This taken)) later → IsMovedNow made home g view later
transferred made home frame pages taken g view now later own h a = transfer-left made home frame pages taken g view now later h a.0

pub after-moving : (old new : Locked) (given : LockedParts) (end : LockedPieceEnd) (home frame : ℕ) (pages : List ℕ) (taken : List (ℕ × ℕ)) (runs : LockedParts) (g : Geometry) (first now later : View) (own : Own)
    → old.stage ≡ Moving home frame pages → end ≡ Other (This taken) → AtLocked old g first now runs → LockedPieceLeaves runs g now end later → IsLockedPiece runs g own end
    → new ≡ record old { stage = Marking home; taken = Some taken } → given ≡ Other (Other (This (Mark old.made.page 2 0))) → GivesLocked new given (ended (stage_left old.made old.stage g end)) g first later
after-moving old new given end home frame pages taken runs g first now later own at ended-is known left shown is acts =
    step-locked old (Moving home frame pages) end (Other (This taken)) runs g first now later own (λ was. GivesLocked new given was g first later) at ended-is known left shown
    (λ k a. gives-locked old new (place (Marking home) (Some taken)) given (ended (MarksInMove g old.made home)) g first later known.geometry is acts
    (runs-marking old.made home (Some taken) g first later (transferred old.made home frame pages taken g first now later own k.stage a) tt))

marked : (made : ChooseMade) (home : ℕ) (g : Geometry) (view now later : View) (own : Own) (end : LockedPieceEnd) → IsMovedNow made home g view now → EndsSo own (Other (Other (This (Mark made.page 2 0)))) g now end later → IsMovedNow made home g view later
marked made home g view now later own (This x) h a = absurd a.0
marked made home g view now later own (Other (This x)) h a = absurd a.0
marked made home g view now later own (Other (Other (Other x))) h a = absurd a.0
marked made home g view now later own (Other (Other (This reply))) h a = subst (λ (v : View). IsMovedNow made home g view v) (sym a.0.is) h

pub after-marking-moved : (old new : Locked) (given : LockedParts) (end : LockedPieceEnd) (home : ℕ) (runs : LockedParts) (g : Geometry) (first now later : View) (own : Own)
    → old.stage ≡ Marking home → AtLocked old g first now runs → LockedPieceLeaves runs g now end later → IsLockedPiece runs g own end
    → new ≡ record old { stage = Unlocking home } → given ≡ Other (Other (This (Unlock old.made.page))) → GivesLocked new given (ended (stage_left old.made old.stage g end)) g first later
after-marking-moved old new given end home runs g first now later own at known left shown is acts =
    step-locked old (Marking home) end end runs g first now later own (λ was. GivesLocked new given was g first later) at refl known left shown
    (λ k a. gives-locked old new (place (Unlocking home) old.taken) given (ended (UnlocksMoved g old.made home)) g first later known.geometry is acts
    (runs-unlocking old.made home old.taken g first later (marked old.made home g first now later own end k.stage a) k.words))

unlocked : (made : ChooseMade) (home : ℕ) (g : Geometry) (view now later : View) (own : Own) (end : LockedPieceEnd) → IsMovedNow made home g view now → EndsSo own (Other (Other (This (Unlock made.page)))) g now end later → IsUnlockedNow made home g view later
unlocked made home g view now later own (This x) h a = absurd a.0
unlocked made home g view now later own (Other (This x)) h a = absurd a.0
unlocked made home g view now later own (Other (Other (Other x))) h a = absurd a.0
unlocked made home g view now later own (Other (Other (This Done))) h a = unlocked-left made home g view now later h a.0.is
unlocked made home g view now later own (Other (Other (This (Word w)))) h a = absurd a.0.fits.kind
unlocked made home g view now later own (Other (Other (This (Busy w)))) h a = absurd a.0.fits.kind
unlocked made home g view now later own (Other (Other (This (Lost w)))) h a = absurd a.0.fits.kind

pub after-unlocking-moved : (old new : Locked) (given : LockedParts) (end : LockedPieceEnd) (home : ℕ) (runs : LockedParts) (g : Geometry) (first now later : View) (own : Own)
    → old.stage ≡ Unlocking home → AtLocked old g first now runs → LockedPieceLeaves runs g now end later → IsLockedPiece runs g own end
    → new ≡ record old { stage = GivingBack home } → given ≡ Other (Other (Other (pool_made old.geometry.now (Back home)))) → GivesLocked new given (ended (stage_left old.made old.stage g end)) g first later
after-unlocking-moved old new given end home runs g first now later own at known left shown is acts =
    step-locked old (Unlocking home) end end runs g first now later own (λ was. GivesLocked new given was g first later) at refl known left shown
    (λ k a. gives-locked old new (place (GivingBack home) old.taken) given (ended (GivesBackInMove g old.made home)) g first later known.geometry is acts
    (runs-giving-back old.made home old.taken g first later (unlocked old.made home g first now later own end k.stage a) k.words))

given-back : (made : ChooseMade) (home : ℕ) (g : Geometry) (view now later : View) (own : Own) (end : LockedPieceEnd) → IsUnlockedNow made home g view now → EndsSo own (Other (Other (Other (pool_made g (Back home))))) g now end later → IsLockedLeft made view ends.Moved later
given-back made home g view now later own (This x) h a = absurd a.0
given-back made home g view now later own (Other (This x)) h a = absurd a.0
given-back made home g view now later own (Other (Other (This x))) h a = absurd a.0
given-back made home g view now later own (Other (Other (Other (pools.Got f)))) h a = absurd a.1.work
given-back made home g view now later own (Other (Other (Other (pools.AtFloor n)))) h a = absurd a.1.work
given-back made home g view now later own (Other (Other (Other (pools.Level n)))) h a = absurd a.1.work
given-back made home g view now later own (Other (Other (Other pools.Back))) h a = record { scan = unscanned; is = back-left made home g view now later h a.0 }

-- the move is made
pub after-giving-back : (old new : Locked) (next : Next LockedPiece LockedOver) (end : LockedPieceEnd) (home : ℕ) (runs : LockedParts) (g : Geometry) (first now later : View) (own : Own)
    → old.stage ≡ GivingBack home → AtLocked old g first now runs → LockedPieceLeaves runs g now end later → IsLockedPiece runs g own end → IsOverWith ends.Moved next
    → DoesOver new old.made g first later next (ended (stage_left old.made old.stage g end))
after-giving-back old new next end home runs g first now later own at known left shown over =
    step-locked old (GivingBack home) end end runs g first now later own (DoesOver new old.made g first later next) at refl known left shown
    (λ k a. over-next new old.made (Ends ends.Moved) ends.Moved g first later next over (ends-now ends.Moved) (given-back old.made home g first now later own end k.stage a))

-- What is needed for the calls.

pub holds-choosing : (old : Locked) (g : Geometry) (first now : View) (runs : LockedParts) → old.stage ≡ Choosing → AtLocked old g first now runs → HoldsWords old.taken
holds-choosing old g first now runs at known = subst (λ (s : LockedStage). HoldsAt s old.taken) at known.holds.words

pub holds-giving-back : (old : Locked) (home : ℕ) (g : Geometry) (first now : View) (runs : LockedParts) → old.stage ≡ GivingBack home → AtLocked old g first now runs → HoldsWords old.taken
holds-giving-back old home g first now runs at known = subst (λ (s : LockedStage). HoldsAt s old.taken) at known.holds.words

-- the page that is ready has virtual pages with words, and its new frame exists
pub ready-facts : (old : Locked) (end : LockedPieceEnd) (home frame : ℕ) (pages : List ℕ) (runs : LockedParts) (g : Geometry) (first now later : View) (own : Own)
    → old.stage ≡ Choosing → end ≡ This (chosen.Ready home frame pages) → AtLocked old g first now runs → LockedPieceLeaves runs g now end later → IsLockedPiece runs g own end → (pages ≢ []) × IsFrame old.geometry.now frame
ready-facts old end home frame pages runs g first now later own at ended-is known left shown =
    let facts = step-locked old Choosing end (This (chosen.Ready home frame pages)) runs g first now later own (λ was. (1 ≤ length pages) × IsFrame g frame) at ended-is known left shown
    (λ k a. (let count = a.0.slow.may.count in let same = a.0.seen.count in omega arith, a.0.new.range)) in
    (λ e. let none : length pages ≡ 0 = ap length e in omega (arith, facts.0), subst (λ (h : Geometry). IsFrame h frame) (sym known.geometry) facts.1)

pub home-exists : (old : Locked) (home : ℕ) (g : Geometry) (first now : View) (runs : LockedParts) → old.stage ≡ Unlocking home → AtLocked old g first now runs → IsFrame old.geometry.now home
home-exists old home g first now runs at known =
    let k = subst (λ (s : LockedStage). StageKnown old.made s g first now) at known.holds.stage in
    subst (λ (h : Geometry). IsFrame h home) (sym known.geometry) k.slow.range

abbrev pub made_with : Geometry → ChooseMade → Geometry × ChooseMade
made_with g made = (g, made)

-- the plan keeps what it was made with
pub same-made : (old new : Locked) → new.geometry.now ≡ old.geometry.now → new.made ≡ old.made → made_with new.geometry.now new.made ≡ made_with old.geometry.now old.made
same-made old new geometry made = ap (λ (g : Geometry). made_with g new.made) geometry ∙ ap (λ (m : ChooseMade). made_with old.geometry.now m) made
