-- The steps of a demotion.
use Rattle.std.proofs.Common.{◌≡◌, ℕ, List, [], Option, Some, None, IsSomeAnd, refl, sym, ap, ◌∙◌, subst}
use Rattle.nm_base.specs.Geometry.{Geometry}
use Rattle.nm_action.specs.declared.action.Action.{Action}
use Rattle.nm_action.specs.declared.action.Action.TheVariants.{Unlock}
use Rattle.nm_action.specs.declared.action.Reply.{Reply}
use Rattle.nm_action.specs.declared.action.Reply.TheVariants.{Done, Word, Busy, Lost}
use Rattle.nm_action.specs.Own.{Own}
use Rattle.nm_view.specs.Views.{Op, View}
use Rattle.nm_permit.specs.Permitted.{MayUnlock}
use Rattle.nm_part.specs.Patterns.{Ends, Follows, CanEnd}
use Rattle.nm_part.proofs.Patterns.{ends-now, can-ends, can-follow}
use Rattle.nm_compose.specs.Acts.{IsAct}
use Rattle.nm_compose.specs.Choices.{IsOr}
use Rattle.nm_compose.specs.Plans.{IsPieceRun, IsNext}
use Rattle.nm_compose.specs.declared.or.Or.{Or}
use Rattle.nm_compose.specs.declared.or.Or.TheVariants.{This, Other}
use Rattle.nm_compose.specs.declared.plan.Next.{Next}
use Rattle.nm_compose.specs.declared.plan.Next.TheVariants.{Run, Over}
use Rattle.nm_compose.proofs.Acting.{some-act}
use Rattle.nm_compose.proofs.Choosing.{this-follows, other-follows}
use Rattle.nm_pool.specs.Pool.{IsPool}
use Rattle.nm_pool.specs.Given.{pool_made}
use Rattle.nm_pool.specs.declared.job.PoolJob.TheVariants.{Back}
use Rattle.nm_pool.specs.declared.job.PoolMade.{PoolMade}
use Rattle.nm_pool.specs.declared.job.PoolEnd.{PoolEnd}
use Rattle.nm_pool.specs.declared.job.PoolEnd.TheVariants as pools
use Rattle.nm_transfer.specs.declared.transfer.Source.{Source}
use Rattle.nm_transfer.specs.declared.transfer.Source.TheVariants as sources
use Rattle.nm_transfer.specs.declared.transfer.TransferMade.{TransferMade}
use Rattle.nm_transfer.specs.Transferring.{IsTransfer}
use Rattle.nm_transfer.specs.Stages.{HoldsWords}
use Rattle.nm_transfer.proofs.Running.{some-transfer}
use Rattle.nm_prepare.specs.Placing.{IsPlanPlaced, RunsPlaced}
use Rattle.nm_prepare.proofs.Placed.{at-placed, run-placed}
use Rattle.nm_prepare.proofs.Ending.{some-back}
use Rattle.nm_locked.specs.Stages.{IsPoolOf}
use Rattle.nm_demote.specs.declared.select.DemoteMade.{DemoteMade}
use Rattle.nm_demote.specs.declared.select.Early.{Early}
use Rattle.nm_demote.specs.declared.select.Early.TheVariants as early
use Rattle.nm_demote.specs.declared.select.Selected.{Selected}
use Rattle.nm_demote.specs.declared.select.Selected.TheVariants as selected
use Rattle.nm_demote.specs.declared.demote.DemoteEnd.{DemoteEnd}
use Rattle.nm_demote.specs.declared.demote.DemoteEnd.TheVariants as ends
use Rattle.nm_demote.specs.declared.demote.DemoteOver.{DemoteOver}
use Rattle.nm_demote.specs.declared.demote.DemoteStage.{DemoteStage}
use Rattle.nm_demote.specs.declared.demote.DemoteStage.TheVariants.{Selecting, Moving, Unlocking, GivingBack}
use Rattle.nm_demote.specs.declared.demote.Demote.{Demote}
use Rattle.nm_demote.specs.Selecting.{IsSelecting}
use Rattle.nm_demote.specs.Selections.{MayDemote, IsReadyToDemote, HasClosedToDemote}
use Rattle.nm_demote.specs.Demotions.{demoted_end, GivesBackDemoted, UnlocksDemoted, demote_transfer, MovesDown, demote_early_end, AfterSelecting, IsDemotion}
use Rattle.nm_demote.specs.Leaving.{HasDemoted, IsDemoteLeft}
use Rattle.nm_demote.specs.SelectTasks.{IsSelectingOf}
use Rattle.nm_demote.specs.Pieces.{DemoteParts, DemotePieceEnd, MayDemotePiece, IsDemotePiece, DemotePieceLeaves, DemotePiece, demote_parts, IsNewDemotePiece}
use Rattle.nm_demote.specs.Places.{DemotePlace, demote_at, IsDemoteOverWith, demote_stage_piece, demote_piece, selected_in, demote_stage_left, demote_left, IsDemotedNow, IsUnlockedDown, DemoteKnown}
use Rattle.nm_demote.proofs.Ending.{some-selecting}
use Rattle.nm_demote.proofs.Steps.{may-here}
use Rattle.nm_demote.proofs.Moving.{plain_transfer, hint-on, transfer-may, transfer-left, moved-on, unlocked-left, back-may, back-left}

-- What is left can end.

can-gives-back : (g : Geometry) (home : ℕ) (source : Source) → CanEnd (GivesBackDemoted g home source)
can-gives-back g home source = can-follow (IsPool g (Back home)) (λ back. Ends (demoted_end source)) (some-back g home) (can-ends (demoted_end source))

can-unlocks-demoted : (g : Geometry) (made : DemoteMade) (home : ℕ) (source : Source) → CanEnd (UnlocksDemoted g made home source)
can-unlocks-demoted g made home source = can-follow (IsAct (Unlock made.page) g) (λ unlocked. GivesBackDemoted g home source) (some-act (Unlock made.page) g) (can-gives-back g home source)

can-after-selecting : (g : Geometry) (made : DemoteMade) (end : Selected) → CanEnd (AfterSelecting g made end)
can-after-selecting g made selected.Busy = can-ends ends.Busy
can-after-selecting g made (selected.Closed why) = can-ends (demote_early_end why)
can-after-selecting g made (selected.Ready home frame source pages) =
    can-follow (IsTransfer (demote_transfer g made home frame source pages) g) (λ taken. UnlocksDemoted g made home source) (some-transfer (demote_transfer g made home frame source pages) g) (can-unlocks-demoted g made home source)

-- the pattern has a list
pub some-demotion : (made : DemoteMade) (g : Geometry) → CanEnd (IsDemotion made g)
some-demotion made g = let some = some-selecting made g in can-follow (IsSelecting made g) (AfterSelecting g made) some (can-after-selecting g made some.outcome)

-- The list for the words that comes with the end.

with-words : (pattern : Own → DemoteEnd → Type 0) → CanEnd pattern → CanEnd (λ own (over : DemoteOver). pattern own over.end)
with-words pattern can = record { rest = can.rest; outcome = record { end = can.outcome; taken = [] }; shown = can.shown }

without-words : {X : Type 0} (shape : Own → X → Type 0) (after : X → Own → DemoteEnd → Type 0) (own : Own) (over : DemoteOver) → Follows shape (λ x own (o : DemoteOver). after x own o.end) own over → Follows shape after own over.end
without-words shape after own over f = record { end = f.end; front = f.front; back = f.back; shown = f.shown; rest = f.rest; is = f.is }

-- The pieces.

abbrev IsLast : Or Action PoolMade → Geometry → Own → Or Reply PoolEnd → Type 0
IsLast = IsOr IsAct IsPoolOf

abbrev IsOthers : Or TransferMade (Or Action PoolMade) → Geometry → Own → Or (List (ℕ × ℕ)) (Or Reply PoolEnd) → Type 0
IsOthers = IsOr IsTransfer IsLast

abbrev pub RunsDemote : DemoteMade → DemotePlace → (Own → DemoteOver → Type 0) → Geometry → View → View → Type 0
RunsDemote = RunsPlaced MayDemotePiece IsDemotePiece demote_piece demote_left DemoteKnown

abbrev place : DemoteStage → Option (List (ℕ × ℕ)) → DemotePlace
place stage taken = record { stage = stage; taken = taken }

abbrev ended : (Own → DemoteEnd → Type 0) → Own → DemoteOver → Type 0
ended pattern own over = pattern own over.end

runs-selecting : (made : DemoteMade) (taken : Option (List (ℕ × ℕ))) (g : Geometry) (view : View) → MayDemote g made g view → HoldsWords taken → RunsDemote made (place Selecting taken) (ended (IsDemotion made g)) g view view
runs-selecting made taken g view may words = record {
  begin = may;
  known = record { geometry = refl; is = refl; holds = record { stage = record { may = may; begun = refl }; words = words } };
  can = λ own end shown. with-words (AfterSelecting g made (selected_in end)) (can-after-selecting g made (selected_in end));
  fits = λ own over f. without-words (IsSelecting made g) (AfterSelecting g made) own over (this-follows IsSelectingOf IsOthers (demote_left made (place Selecting taken) g) (g, made) g own over f);
}

-- each table word has the hint, as the pattern says
moves-down : (made : DemoteMade) (home frame : ℕ) (source : Source) (pages : List ℕ) (g : Geometry) (view now : View) (own : Own) (end : DemoteEnd) → IsReadyToDemote made g view home frame source pages now
    → Follows (IsTransfer (plain_transfer g made home frame source pages) g) (λ taken. UnlocksDemoted g made home source) own end → MovesDown g made home frame source pages own end
moves-down made home frame source pages g view now own end h f =
    subst (λ (m : TransferMade). Follows (IsTransfer m g) (λ taken. UnlocksDemoted g made home source) own end) (hint-on g made home frame source pages h.new.slower) f

runs-moving : (made : DemoteMade) (home frame : ℕ) (source : Source) (pages : List ℕ) (taken : Option (List (ℕ × ℕ))) (g : Geometry) (view now : View) → IsReadyToDemote made g view home frame source pages now
    → RunsDemote made (place (Moving home frame source pages) taken) (ended (MovesDown g made home frame source pages)) g view now
runs-moving made home frame source pages taken g view now h = record {
  begin = transfer-may made home frame source pages g view now h;
  known = record { geometry = refl; is = refl; holds = record { stage = h; words = tt } };
  can = λ own end shown. with-words (UnlocksDemoted g made home source) (can-unlocks-demoted g made home source);
  fits = λ own over f. moves-down made home frame source pages g view now own over.end h (without-words (IsTransfer (plain_transfer g made home frame source pages) g) (λ taken. UnlocksDemoted g made home source) own over
      (this-follows IsTransfer IsLast (λ end. demote_left made (place (Moving home frame source pages) taken) g (Other end)) (plain_transfer g made home frame source pages) g own over
      (other-follows IsSelectingOf IsOthers (demote_left made (place (Moving home frame source pages) taken) g) (This (plain_transfer g made home frame source pages)) g own over f)));
}

runs-unlocking : (made : DemoteMade) (home : ℕ) (source : Source) (taken : Option (List (ℕ × ℕ))) (g : Geometry) (view now : View) → IsDemotedNow made home g view now → HoldsWords taken
    → RunsDemote made (place (Unlocking home source) taken) (ended (UnlocksDemoted g made home source)) g view now
runs-unlocking made home source taken g view now h words = record {
  begin = record { quiet = tt; allowed = record { range = h.has.may.page; permitted = subst (λ (x : Option Op). IsSomeAnd x (MayUnlock g)) (sym (moved-on made home g view now h)) h.unlock } };
  known = record { geometry = refl; is = refl; holds = record { stage = h; words = words } };
  can = λ own end shown. with-words (GivesBackDemoted g home source) (can-gives-back g home source);
  fits = λ own over f. without-words (IsAct (Unlock made.page) g) (λ unlocked. GivesBackDemoted g home source) own over
      (this-follows IsAct IsPoolOf (λ end. demote_left made (place (Unlocking home source) taken) g (Other (Other end))) (Unlock made.page) g own over
      (other-follows IsTransfer IsLast (λ end. demote_left made (place (Unlocking home source) taken) g (Other end)) (This (Unlock made.page)) g own over
      (other-follows IsSelectingOf IsOthers (demote_left made (place (Unlocking home source) taken) g) (Other (This (Unlock made.page))) g own over f)));
}

runs-giving-back : (made : DemoteMade) (home : ℕ) (source : Source) (taken : Option (List (ℕ × ℕ))) (g : Geometry) (view now : View) → IsUnlockedDown made home g view now → HoldsWords taken
    → RunsDemote made (place (GivingBack home source) taken) (ended (GivesBackDemoted g home source)) g view now
runs-giving-back made home source taken g view now h words = record {
  begin = back-may made home g view now h;
  known = record { geometry = refl; is = refl; holds = record { stage = h; words = words } };
  can = λ own end shown. with-words (Ends (demoted_end source)) (can-ends (demoted_end source));
  fits = λ own over f. without-words (IsPool g (Back home)) (λ back. Ends (demoted_end source)) own over
      (other-follows IsAct IsPoolOf (λ end. demote_left made (place (GivingBack home source) taken) g (Other (Other end))) (pool_made g (Back home)) g own over
      (other-follows IsTransfer IsLast (λ end. demote_left made (place (GivingBack home source) taken) g (Other end)) (Other (pool_made g (Back home))) g own over
      (other-follows IsSelectingOf IsOthers (demote_left made (place (GivingBack home source) taken) g) (Other (Other (pool_made g (Back home)))) g own over f)));
}

-- What a demotion does next.

abbrev pub AtDemote : Demote → Geometry → View → View → DemoteParts → Type 0
AtDemote s = IsPlanPlaced demote_piece DemoteKnown s.geometry.now s.made (demote_at s)

abbrev pub GivesDemote : Demote → DemoteParts → (Own → DemoteOver → Type 0) → Geometry → View → View → Type 0
GivesDemote new runs was g first now = IsPieceRun MayDemotePiece IsDemotePiece (AtDemote new) (demote_left new.made (demote_at new)) was runs g first now

gives-demote : (old new : Demote) (next : DemotePlace) (runs : DemoteParts) (was : Own → DemoteOver → Type 0) (g : Geometry) (first now : View)
    → old.geometry.now ≡ g → new ≡ record old { stage = next.stage; taken = next.taken } → runs ≡ demote_piece old.geometry.now old.made next → RunsDemote old.made next was g first now → GivesDemote new runs was g first now
gives-demote old new next runs was g first now geometry is acts run =
    run-placed MayDemotePiece IsDemotePiece demote_piece demote_left DemoteKnown was old.geometry.now new.geometry.now old.made new.made next (demote_at new) runs g first now
    geometry (ap (λ (s : Demote). s.geometry.now) is) (ap (λ (s : Demote). s.made) is) (ap demote_at is) acts run

abbrev pub EndsDemote : Own → DemoteParts → Geometry → View → DemotePieceEnd → View → Type 0
EndsDemote own runs g now end later = DemotePieceLeaves runs g now end later × IsDemotePiece runs g own end

-- a piece of the plan has ended so
pub record HasEndedSo (old : Demote) (here : DemoteStage) (end so : DemotePieceEnd) (runs : DemoteParts) (g : Geometry) (first now later : View) (own : Own) : Type 0 where
  pub at : old.stage ≡ here
  pub ended : end ≡ so
  pub known : AtDemote old g first now runs
  pub left : DemotePieceLeaves runs g now end later
  pub shown : IsDemotePiece runs g own end

-- after a piece: shown at its stage, for its end
step-demote : (old : Demote) (here : DemoteStage) (end so : DemotePieceEnd) (runs : DemoteParts) (g : Geometry) (first now later : View) (own : Own) (goal : (Own → DemoteOver → Type 0) → Type 0) → HasEndedSo old here end so runs g first now later own
    → (DemoteKnown old.made (place here old.taken) g first now → EndsDemote own (demote_stage_piece g old.made here) g now so later → goal (ended (demote_stage_left old.made here g so))) → goal (ended (demote_stage_left old.made old.stage g end))
step-demote old here end so runs g first now later own goal h show =
    at-placed demote_piece DemoteKnown (EndsDemote own) (λ p e. goal (ended (demote_stage_left old.made p.stage g e))) old.geometry.now old.made (demote_at old) (place here old.taken) end so g first now later runs
    (ap (λ (s : DemoteStage). place s old.taken) h.at) h.ended h.known (h.left, h.shown) show

-- what the plan does next where it is over
abbrev pub OversDemote : Demote → DemoteMade → Geometry → View → View → Next DemotePiece DemoteOver → (Own → DemoteOver → Type 0) → Type 0
OversDemote new made g first later next was = IsNext demote_parts IsNewDemotePiece MayDemotePiece IsDemotePiece (AtDemote new) (demote_left new.made (demote_at new)) was (λ g view over left. IsDemoteLeft made view over.end left) (λ g over. Unit {0}) g first later next

over-next : (new : Demote) (made : DemoteMade) (was : Own → DemoteEnd → Type 0) (end : DemoteEnd) (g : Geometry) (first later : View) (next : Next DemotePiece DemoteOver) → IsDemoteOverWith end next → was [] end → IsDemoteLeft made first end later
    → OversDemote new made g first later next (ended was)
over-next new made was end g first later (Run piece) over shown left = absurd over
over-next new made was end g first later (Over o) over shown left = record { shown = subst (was []) (sym over) shown; left = subst (λ (e : DemoteEnd). IsDemoteLeft made first e later) (sym over) left; over = tt }

-- The first piece.

pub begins : (old new : Demote) (runs : DemoteParts) (g : Geometry) (view : View) → old.geometry.now ≡ g → new ≡ record old { stage = Selecting } → runs ≡ This (record { 0 = old.geometry.now; 1 = old.made }) → MayDemote old.geometry.now old.made g view → HoldsWords old.taken
    → GivesDemote new runs (ended (IsDemotion old.made g)) g view view
begins old new runs g view geometry is acts may words =
    gives-demote old new (place Selecting old.taken) runs (ended (IsDemotion old.made g)) g view view geometry is acts (runs-selecting old.made old.taken g view (may-here old.geometry.now old.made g view may) words)

-- The steps before the page is moved.

-- the page was busy
pub after-busy-page : (old new : Demote) (next : Next DemotePiece DemoteOver) (end : DemotePieceEnd) (runs : DemoteParts) (g : Geometry) (first now later : View) (own : Own)
    → HasEndedSo old Selecting end (This selected.Busy) runs g first now later own → IsDemoteOverWith ends.Busy next → OversDemote new old.made g first later next (ended (demote_stage_left old.made old.stage g end))
after-busy-page old new next end runs g first now later own h over =
    step-demote old Selecting end (This selected.Busy) runs g first now later own (OversDemote new old.made g first later next) h
    (λ k a. over-next new old.made (Ends ends.Busy) ends.Busy g first later next over (ends-now ends.Busy) (a.0 ∙ k.stage.begun))

closed-left : (made : DemoteMade) (why : Early) (view left : View) → HasClosedToDemote made.page view left → IsDemoteLeft made view (demote_early_end why) left
closed-left made (early.NoFrame n) view left h = h
closed-left made early.Gone view left h = h
closed-left made early.Worn view left h = h

-- the steps before ended early
pub after-early : (old new : Demote) (next : Next DemotePiece DemoteOver) (end : DemotePieceEnd) (why : Early) (over_end : DemoteEnd) (runs : DemoteParts) (g : Geometry) (first now later : View) (own : Own)
    → HasEndedSo old Selecting end (This (selected.Closed why)) runs g first now later own → over_end ≡ demote_early_end why → IsDemoteOverWith over_end next → OversDemote new old.made g first later next (ended (demote_stage_left old.made old.stage g end))
after-early old new next end why over_end runs g first now later own h why-is over =
    step-demote old Selecting end (This (selected.Closed why)) runs g first now later own (OversDemote new old.made g first later next) h
    (λ k a. over-next new old.made (Ends (demote_early_end why)) (demote_early_end why) g first later next (subst (λ (e : DemoteEnd). IsDemoteOverWith e next) why-is over) (ends-now (demote_early_end why))
    (closed-left old.made why first later (subst (λ (v : View). HasClosedToDemote old.made.page v later) k.stage.begun a.0)))

-- the page is ready
pub after-ready : (old new : Demote) (given : DemoteParts) (end : DemotePieceEnd) (home frame : ℕ) (source : Source) (pages : List ℕ) (runs : DemoteParts) (g : Geometry) (first now later : View) (own : Own)
    → HasEndedSo old Selecting end (This (selected.Ready home frame source pages)) runs g first now later own
    → new ≡ record old { stage = Moving home frame source pages; taken = None } → given ≡ Other (This (plain_transfer old.geometry.now old.made home frame source pages)) → GivesDemote new given (ended (demote_stage_left old.made old.stage g end)) g first later
after-ready old new given end home frame source pages runs g first now later own h is acts =
    step-demote old Selecting end (This (selected.Ready home frame source pages)) runs g first now later own (λ was. GivesDemote new given was g first later) h
    (λ k a. gives-demote old new (place (Moving home frame source pages) None) given (ended (MovesDown g old.made home frame source pages)) g first later h.known.geometry is acts
    (runs-moving old.made home frame source pages None g first later (subst (λ (v : View). IsReadyToDemote old.made g v home frame source pages later) k.stage.begun a.0)))

-- The move, and its end.

pub after-moving : (old new : Demote) (given : DemoteParts) (end : DemotePieceEnd) (home frame : ℕ) (source : Source) (pages : List ℕ) (taken : List (ℕ × ℕ)) (runs : DemoteParts) (g : Geometry) (first now later : View) (own : Own)
    → HasEndedSo old (Moving home frame source pages) end (Other (This taken)) runs g first now later own
    → new ≡ record old { stage = Unlocking home source; taken = Some taken } → given ≡ Other (Other (This (Unlock old.made.page))) → GivesDemote new given (ended (demote_stage_left old.made old.stage g end)) g first later
after-moving old new given end home frame source pages taken runs g first now later own h is acts =
    step-demote old (Moving home frame source pages) end (Other (This taken)) runs g first now later own (λ was. GivesDemote new given was g first later) h
    (λ k a. gives-demote old new (place (Unlocking home source) (Some taken)) given (ended (UnlocksDemoted g old.made home source)) g first later h.known.geometry is acts
    (runs-unlocking old.made home source (Some taken) g first later (transfer-left old.made home frame source pages taken g first now later k.stage a.0) tt))

unlocked : (made : DemoteMade) (home : ℕ) (g : Geometry) (view now later : View) (own : Own) (end : DemotePieceEnd) → IsDemotedNow made home g view now → EndsDemote own (Other (Other (This (Unlock made.page)))) g now end later → IsUnlockedDown made home g view later
unlocked made home g view now later own (This x) h a = absurd a.0
unlocked made home g view now later own (Other (This x)) h a = absurd a.0
unlocked made home g view now later own (Other (Other (Other x))) h a = absurd a.0
unlocked made home g view now later own (Other (Other (This Done))) h a = unlocked-left made home g view now later h a.0.is
unlocked made home g view now later own (Other (Other (This (Word w)))) h a = absurd a.0.fits.kind
unlocked made home g view now later own (Other (Other (This (Busy w)))) h a = absurd a.0.fits.kind
unlocked made home g view now later own (Other (Other (This (Lost w)))) h a = absurd a.0.fits.kind

pub after-unlocking-demoted : (old new : Demote) (given : DemoteParts) (end : DemotePieceEnd) (home : ℕ) (source : Source) (runs : DemoteParts) (g : Geometry) (first now later : View) (own : Own)
    → HasEndedSo old (Unlocking home source) end end runs g first now later own
    → new ≡ record old { stage = GivingBack home source } → given ≡ Other (Other (Other (pool_made old.geometry.now (Back home)))) → GivesDemote new given (ended (demote_stage_left old.made old.stage g end)) g first later
after-unlocking-demoted old new given end home source runs g first now later own h is acts =
    step-demote old (Unlocking home source) end end runs g first now later own (λ was. GivesDemote new given was g first later) h
    (λ k a. gives-demote old new (place (GivingBack home source) old.taken) given (ended (GivesBackDemoted g home source)) g first later h.known.geometry is acts
    (runs-giving-back old.made home source old.taken g first later (unlocked old.made home g first now later own end k.stage a) k.words))

given-back : (made : DemoteMade) (home : ℕ) (g : Geometry) (view now later : View) (own : Own) (end : DemotePieceEnd) → IsUnlockedDown made home g view now → EndsDemote own (Other (Other (Other (pool_made g (Back home))))) g now end later → HasDemoted made view later
given-back made home g view now later own (This x) h a = absurd a.0
given-back made home g view now later own (Other (This x)) h a = absurd a.0
given-back made home g view now later own (Other (Other (This x))) h a = absurd a.0
given-back made home g view now later own (Other (Other (Other (pools.Got f)))) h a = absurd a.1.work
given-back made home g view now later own (Other (Other (Other (pools.AtFloor n)))) h a = absurd a.1.work
given-back made home g view now later own (Other (Other (Other (pools.Level n)))) h a = absurd a.1.work
given-back made home g view now later own (Other (Other (Other pools.Back))) h a = back-left made home g view now later h a.0

demoted-left : (made : DemoteMade) (source : Source) (view left : View) → HasDemoted made view left → IsDemoteLeft made view (demoted_end source) left
demoted-left made sources.Shadow view left h = h
demoted-left made sources.Copy view left h = h

-- the demotion is made
pub after-giving-back : (old new : Demote) (next : Next DemotePiece DemoteOver) (end : DemotePieceEnd) (home : ℕ) (source : Source) (over_end : DemoteEnd) (runs : DemoteParts) (g : Geometry) (first now later : View) (own : Own)
    → HasEndedSo old (GivingBack home source) end end runs g first now later own → over_end ≡ demoted_end source → IsDemoteOverWith over_end next → OversDemote new old.made g first later next (ended (demote_stage_left old.made old.stage g end))
after-giving-back old new next end home source over_end runs g first now later own h end-is over =
    step-demote old (GivingBack home source) end end runs g first now later own (OversDemote new old.made g first later next) h
    (λ k a. over-next new old.made (Ends (demoted_end source)) (demoted_end source) g first later next (subst (λ (e : DemoteEnd). IsDemoteOverWith e next) end-is over) (ends-now (demoted_end source))
    (demoted-left old.made source first later (given-back old.made home g first now later own end k.stage a)))

abbrev made_with : Geometry → DemoteMade → Geometry × DemoteMade
made_with g made = (g, made)

-- the plan keeps what it was made with
pub same-made : (old new : Demote) → new.geometry.now ≡ old.geometry.now → new.made ≡ old.made → made_with new.geometry.now new.made ≡ made_with old.geometry.now old.made
same-made old new geometry made = ap (λ (g : Geometry). made_with g new.made) geometry ∙ ap (λ (m : DemoteMade). made_with old.geometry.now m) made
