-- The pieces of the fault on a virtual page that is not mapped, each at its stage.
use Rattle.std.proofs.Common.{◌≡◌, ◌≢◌, ℕ, ◌-◌, ◌==◌, not, Bool, true, false, List, [], ◌∷◌, ◌++◌, Option, Some, None, IsSomeAnd, refl, sym, ap, subst, inl, arith}
use Rattle.std.proofs.lemmas.List.Elements.{All-nil, All-cons}
use Rattle.nm_base.specs.Geometry.{Geometry, IsGeometry}
use Rattle.nm_base.specs.HomeWord.{home_word}
use Rattle.nm_action.specs.declared.action.Action.{Action}
use Rattle.nm_action.specs.declared.action.Action.TheVariants.{Unlock, Look, Read, Map, SetHome}
use Rattle.nm_action.specs.declared.action.Cell.TheVariants.{Home, Shadow}
use Rattle.nm_action.specs.declared.action.Reply.{Reply}
use Rattle.nm_action.specs.Own.{Own}
use Rattle.nm_view.specs.declared.view.Fill.{Fill}
use Rattle.nm_view.specs.declared.view.Fill.TheVariants.{Raw, Zeroed}
use Rattle.nm_view.specs.declared.view.Owned.{Owned}
use Rattle.nm_view.specs.Lists.{find}
use Rattle.nm_view.specs.Operations.{page_of, op_on, op_under, fill_of}
use Rattle.nm_view.specs.Views.{Op, View}
use Rattle.nm_permit.specs.Permitted.{MayUnlock, MayMap, MaySetHome}
use Rattle.nm_part.specs.Patterns.{Ends, Follows, CanEnd}
use Rattle.nm_part.proofs.Patterns.{can-ends, can-follow, can-either}
use Rattle.nm_compose.specs.declared.or.Or.{Or}
use Rattle.nm_compose.specs.declared.or.Or.TheVariants.{This, Other}
use Rattle.nm_compose.specs.Acts.{MayAct, IsAct}
use Rattle.nm_compose.specs.Choices.{IsOr}
use Rattle.nm_compose.specs.Plans.{IsPieceRun, IsOver}
use Rattle.nm_compose.proofs.Acting.{some-act}
use Rattle.nm_compose.proofs.Choosing.{this-follows, other-follows}
use Rattle.nm_copying.specs.declared.zeroes.ZeroesMade.{ZeroesMade}
use Rattle.nm_copying.specs.Zeroing.{IsZeroing}
use Rattle.nm_copying.proofs.Zeroed.{some-zeroes}
use Rattle.nm_prepare.specs.Placing.{IsPlanPlaced, RunsPlaced}
use Rattle.nm_prepare.proofs.Placed.{at-placed, run-placed}
use Rattle.nm_reclaim.specs.Reclaims.{word_in}
use Rattle.nm_missing_fault.specs.declared.search.SearchMade.{SearchMade}
use Rattle.nm_missing_fault.specs.Searching.{IsSearch}
use Rattle.nm_missing_fault.specs.Found.{MaySearch}
use Rattle.nm_missing_fault.proofs.Searched.{some-search}
use Rattle.nm_shadow_fault.specs.declared.fault.FaultEnd.{FaultEnd}
use Rattle.nm_shadow_fault.specs.declared.fault.FaultEnd.TheVariants.{Demand, Alias, Ready}
use Rattle.nm_shadow_fault.specs.declared.fault.FaultMade.{FaultMade}
use Rattle.nm_shadow_fault.specs.Locking.{LocksPage}
use Rattle.nm_shadow_fault.specs.Granting.{fault_made, MayFault, IsFaulted, fault_op, IsAtLook, IsFaultLooked}
use Rattle.nm_shadow_fault.proofs.Locked.{some-lock}
use Rattle.nm_shadow_fault.proofs.Granting.{same-number, known-there}
use Rattle.nm_missing_fault.specs.declared.missing.MissingFault.{MissingFault}
use Rattle.nm_missing_fault.specs.declared.missing.MissingStage.{MissingStage}
use Rattle.nm_missing_fault.specs.declared.missing.MissingStage.TheVariants.{Locking, Looking, Leaving, ReadingHome, ReadingShadow, Searching, Zeroing, SettingHome, Mapping, Unlocking}
use Rattle.nm_missing_fault.specs.MissingFault.{missing_word, MapsVPage, SetsFirstHome, ZeroesFrame, Demands, Aliases, MissingAfterHome, MissingAfterLook, IsMissingFault}
use Rattle.nm_missing_fault.specs.Pieces.{MissingPieceMade, MissingPieceEnd, MayMissingPiece, IsMissingPiece, LeavesMissingPiece, missing_told, missing_found}
use Rattle.nm_missing_fault.specs.Stages.{missing_piece_of, missing_left, IsMissing, IsAtShadowOf, with_scan, IsWithFrame, homed_op, IsAtMap, IsFaultMapped, KnownInMissing}
use Rattle.nm_missing_fault.proofs.Views.{fill-there}
use Rattle.nm_missing_fault.proofs.Written.{may-map}

-- Lists of a piece.

abbrev LockShape : ℕ → Geometry → Own → Unit {0} → Type 0
LockShape page g = LocksPage page

abbrev SearchShape : Geometry × SearchMade → Geometry → Own → ℕ → Type 0
SearchShape made g own frame = IsSearch made.1 g own frame

abbrev FrameShapes : Or (Geometry × SearchMade) ZeroesMade → Geometry → Own → Or ℕ (Unit {0}) → Type 0
FrameShapes = IsOr SearchShape IsZeroing

abbrev OtherShapes : Or Action (Or (Geometry × SearchMade) ZeroesMade) → Geometry → Own → Or Reply (Or ℕ (Unit {0})) → Type 0
OtherShapes = IsOr IsAct FrameShapes

-- What is left has a list.

can-unlock : (g : Geometry) (made : FaultMade) (end : FaultEnd) → CanEnd (Follows (IsAct (Unlock made.page) g) (λ unlocked. Ends end))
can-unlock g made end = can-follow (IsAct (Unlock made.page) g) (λ unlocked. Ends end) (some-act (Unlock made.page) g) (can-ends end)

can-maps : (g : Geometry) (made : FaultMade) (frame : ℕ) (shadowed : Bool) (end : FaultEnd) → CanEnd (MapsVPage g made frame shadowed end)
can-maps g made frame shadowed end =
    can-follow (IsAct (Map made.vpage (missing_word g made.vpage frame shadowed)) g) (λ mapped. Follows (IsAct (Unlock made.page) g) (λ unlocked. Ends end))
    (some-act (Map made.vpage (missing_word g made.vpage frame shadowed)) g) (can-unlock g made end)

can-sets : (g : Geometry) (made : FaultMade) (frame : ℕ) → CanEnd (SetsFirstHome g made frame)
can-sets g made frame = can-follow (IsAct (SetHome made.page frame) g) (λ set. MapsVPage g made frame false Demand) (some-act (SetHome made.page frame) g) (can-maps g made frame false Demand)

can-zeroes : (g : Geometry) (made : FaultMade) (frame : ℕ) → CanEnd (ZeroesFrame g made frame)
can-zeroes g made frame =
    can-follow (IsZeroing (record { frame = frame; words = g.words }) g) (λ zeroed. SetsFirstHome g made frame) (some-zeroes (record { frame = frame; words = g.words }) g) (can-sets g made frame)

can-demands : (g : Geometry) (made : FaultMade) → IsGeometry g → CanEnd (Demands g made)
can-demands g made fine =
    can-follow (IsSearch (record { page = made.page }) g) (λ frame. ZeroesFrame g made frame) (some-search (record { page = made.page }) g fine) (can-zeroes g made (some-search (record { page = made.page }) g fine).outcome)

can-aliases : (g : Geometry) (made : FaultMade) (home : ℕ) → CanEnd (Aliases g made home)
can-aliases g made home =
    can-follow (IsAct (Read made.page (Shadow home)) g) (λ reply. MapsVPage g made home (not (word_in reply == 0)) Alias) (some-act (Read made.page (Shadow home)) g)
    (can-maps g made home (not (word_in (some-act (Read made.page (Shadow home)) g).outcome == 0)) Alias)

can-after-home : (g : Geometry) (made : FaultMade) (word : ℕ) → IsGeometry g → CanEnd (MissingAfterHome g made word)
can-after-home g made word fine = can-either (word == 0) (Demands g made) (Aliases g made (word - 1)) (can-demands g made fine) (can-aliases g made (word - 1))

can-after-look : (g : Geometry) (made : FaultMade) (word : ℕ) → IsGeometry g → CanEnd (MissingAfterLook g made word)
can-after-look g made word fine =
    can-either (word == 0) (Follows (IsAct (Read made.page (Home made.page)) g) (λ reply. MissingAfterHome g made (word_in reply))) (Follows (IsAct (Unlock made.page) g) (λ unlocked. Ends Ready))
    (can-follow (IsAct (Read made.page (Home made.page)) g) (λ reply. MissingAfterHome g made (word_in reply)) (some-act (Read made.page (Home made.page)) g)
    (can-after-home g made (word_in (some-act (Read made.page (Home made.page)) g).outcome) fine)) (can-unlock g made Ready)

can-look : (g : Geometry) (made : FaultMade) → IsGeometry g → CanEnd (Follows (IsAct (Look made.vpage) g) (λ reply. MissingAfterLook g made (word_in reply)))
can-look g made fine =
    can-follow (IsAct (Look made.vpage) g) (λ reply. MissingAfterLook g made (word_in reply)) (some-act (Look made.vpage) g) (can-after-look g made (word_in (some-act (Look made.vpage) g).outcome) fine)

-- the pattern has a list
pub some-missing-fault : (made : FaultMade) (g : Geometry) → IsGeometry g → CanEnd (IsMissingFault made g)
some-missing-fault made g fine =
    can-follow (LocksPage made.page) (λ locked. Follows (IsAct (Look made.vpage) g) (λ reply. MissingAfterLook g made (word_in reply))) (some-lock made.page) (can-look g made fine)

-- Pieces that run.

abbrev pub RunsMissing : FaultMade → MissingStage → (Own → FaultEnd → Type 0) → Geometry → View → View → Type 0
RunsMissing = RunsPlaced MayMissingPiece IsMissingPiece missing_piece_of missing_left KnownInMissing

-- a piece that is a single action
runs-act : (made : FaultMade) (stage : MissingStage) (action : Action) (was : Own → FaultEnd → Type 0) (g : Geometry) (first now : View) → missing_piece_of g made stage ≡ Other (This action)
    → MayAct g now action → KnownInMissing made stage g first now → ((end : MissingPieceEnd) → CanEnd (missing_left made stage g end))
    → ((own : Own) (outcome : FaultEnd) → Follows (IsAct action g) (λ reply. missing_left made stage g (Other (This reply))) own outcome → was own outcome)
    → RunsMissing made stage was g first now
runs-act made stage action was g first now is may known can fits =
    let R : MissingPieceMade → Type 0 = λ m. IsPieceRun MayMissingPiece IsMissingPiece (IsPlanPlaced missing_piece_of KnownInMissing g made stage) (missing_left made stage) was m g first now in
    subst R (sym is) (record {
      begin = may;
      known = record { geometry = refl; is = sym is; holds = known };
      can = λ own end shown. can end;
      fits = λ own outcome f. fits own outcome
          (this-follows IsAct FrameShapes (λ end. missing_left made stage g (Other end)) action g own outcome
          (other-follows LockShape OtherShapes (missing_left made stage g) (This action) g own outcome f));
    })

-- 1. The page is locked.
pub runs-lock : (made : FaultMade) (g : Geometry) (view : View) → MayFault (fault_made g made) g view → RunsMissing made Locking (IsMissingFault made g) g view view
runs-lock made g view may = record {
  begin = record { exists = may.page; lock = record { fresh = rw may.ops refl; few = rw may.ops (omega arith) } };
  known = record { geometry = refl; is = refl; holds = record { may = may; is = refl } };
  can = λ own end shown. can-look g made may.geometry;
  fits = λ own outcome f. this-follows LockShape OtherShapes (missing_left made Locking g) made.page g own outcome f;
}

-- 2. v is looked at.
pub runs-look : (made : FaultMade) (end : MissingPieceEnd) (g : Geometry) (first now : View) → IsAtLook (fault_made g made) g first now → RunsMissing made Looking (missing_left made Locking g end) g first now
runs-look made end g first now at =
    runs-act made Looking (Look made.vpage) (missing_left made Locking g end) g first now refl (record { quiet = tt; allowed = record { range = at.may.vpage; permitted = tt } }) at
    (λ end. can-after-look g made (missing_told end) at.may.geometry) (λ own outcome f. f)

none-test : (word : ℕ) → word ≡ 0 → (word == 0) ≡ true
none-test word none = grind arith

some-test : (word : ℕ) → word ≢ 0 → (word == 0) ≡ false
some-test word some = grind arith

-- an operation in which nothing was taken out of the table may be unlocked
free-op : (made : FaultMade) (g : Geometry) (first : View) (look : ℕ) (home shadow : Option ℕ) → MayUnlock g (fault_op made first look home shadow)
free-op made g first look home shadow = record { back = refl; flushed = record { made = refl; seen = tt }; phase = λ e. cc e }

-- v is mapped already.
pub runs-leave : (made : FaultMade) (word : ℕ) (g : Geometry) (first now : View) → word ≢ 0 → IsFaultLooked (fault_made g made) None None g first now → RunsMissing made Leaving (MissingAfterLook g made word) g first now
runs-leave made word g first now some at =
    runs-act made Leaving (Unlock made.page) (MissingAfterLook g made word) g first now refl
    (record {
      quiet = tt;
      allowed = record {
        range = at.may.page;
        permitted = known-there first (fault_op made first at.look None None) first.owned now made.page (MayUnlock g) at.is refl (free-op made g first at.look None None);
      };
    }) at
    (λ end. can-ends Ready) (λ own outcome f. rw (some-test word some) f)

-- 3. The home is read.
pub runs-home : (made : FaultMade) (word : ℕ) (g : Geometry) (first now : View) → word ≡ 0 → IsMissing made None None g first now → RunsMissing made ReadingHome (MissingAfterLook g made word) g first now
runs-home made word g first now none at =
    runs-act made ReadingHome (Read made.page (Home made.page)) (MissingAfterLook g made word) g first now refl
    (record {
      quiet = tt;
      allowed = record {
        range = record { page = at.may.page; cell = refl };
        permitted = known-there first (fault_op made first 0 None None) first.owned now made.page (λ o. Unit {0}) at.is refl tt;
      };
    }) at
    (λ end. can-after-home g made (missing_told end) at.may.geometry) (λ own outcome f. rw (none-test word none) f)

-- 4. The shadow word is read.
pub runs-shadow : (made : FaultMade) (word : ℕ) (g : Geometry) (first now : View) → word ≢ 0 → IsAtShadowOf made (word - 1) g first now → RunsMissing made (ReadingShadow (word - 1)) (MissingAfterHome g made word) g first now
runs-shadow made word g first now some at =
    runs-act made (ReadingShadow (word - 1)) (Read made.page (Shadow (word - 1))) (MissingAfterHome g made word) g first now refl
    (record {
      quiet = tt;
      allowed = record {
        range = record { page = at.missing.may.page; cell = at.frame };
        permitted = known-there first (fault_op made first 0 (Some (home_word (word - 1))) None) first.owned now made.page (λ o. o.home ≡ Some (home_word (word - 1))) at.missing.is refl refl;
      };
    }) at
    (λ end. can-maps g made (word - 1) (not (missing_told end == 0)) Alias) (λ own outcome f. rw (some-test word some) f)

-- 5. A frame is sought.
pub runs-search : (made : FaultMade) (word : ℕ) (g : Geometry) (first now : View) → word ≡ 0 → IsMissing made (Some 0) None g first now → RunsMissing made Searching (MissingAfterHome g made word) g first now
runs-search made word g first now none at =
    let V : View → Type 0 = λ v. MaySearch g (record { page = made.page }) g v in
    record {
      begin = subst V (sym at.is) (record { same = refl; geometry = at.may.geometry; ops = record { few = omega arith; named = All-cons (λ (o : Op). Some made.page ≡ Some o.page) (fault_op made first 0 (Some 0) None) [] refl (All-nil (λ (o : Op). Some made.page ≡ Some o.page)) }; turn = at.may.turn });
      known = record { geometry = refl; is = refl; holds = at };
      can = λ own end shown. can-zeroes g made (missing_found end);
      fits = λ own outcome f. rw (none-test word none)
          (this-follows SearchShape IsZeroing (λ end. missing_left made Searching g (Other (Other end))) (record { 0 = g; 1 = record { page = made.page } }) g own outcome
          (other-follows IsAct FrameShapes (λ end. missing_left made Searching g (Other end)) (This (record { 0 = g; 1 = record { page = made.page } })) g own outcome
          (other-follows LockShape OtherShapes (missing_left made Searching g) (Other (This (record { 0 = g; 1 = record { page = made.page } }))) g own outcome f)));
    }

-- Its words are set to 0.
pub runs-zeroes : (made : FaultMade) (frame : ℕ) (g : Geometry) (first now : View) → IsWithFrame made frame Raw g first now → RunsMissing made (Zeroing frame) (ZeroesFrame g made frame) g first now
runs-zeroes made frame g first now at = record {
  begin = record { geometry = at.may.geometry; words = refl; frame = at.exists; fill = fill-there made frame Raw g first now at };
  known = record { geometry = refl; is = refl; holds = at };
  can = λ own end shown. can-sets g made frame;
  fits = λ own outcome f.
      (other-follows SearchShape IsZeroing (λ end. missing_left made (Zeroing frame) g (Other (Other end))) (record { frame = frame; words = g.words }) g own outcome
      (other-follows IsAct FrameShapes (λ end. missing_left made (Zeroing frame) g (Other end)) (Other (record { frame = frame; words = g.words })) g own outcome
      (other-follows LockShape OtherShapes (missing_left made (Zeroing frame) g) (Other (Other (record { frame = frame; words = g.words }))) g own outcome f)));
}

-- The operation with other frames and another scan.
op-there : (first : View) (o : Op) (owned : List Owned) (now : View) (page : ℕ) (Said : Op → Type 0) → now ≡ with_scan first o owned now.scan → o.page ≡ page → Said o → IsSomeAnd (op_on now page) Said
op-there first o owned now page Said is of said =
    let ops : now.ops ≡ o ∷ [] = ap (λ (v : View). v.ops) is in
    let L : List Op → Type 0 = λ ops. IsSomeAnd (find page_of page ops) Said in
    let N : ℕ → Type 0 = λ n. IsSomeAnd (find page_of n (o ∷ [])) Said in
    subst L (sym ops) (subst N of (rw (same-number o.page) said))

-- The frame is the home.
pub runs-set : (made : FaultMade) (frame : ℕ) (g : Geometry) (first now : View) → IsWithFrame made frame (Zeroed g.words) g first now → RunsMissing made (SettingHome frame) (SetsFirstHome g made frame) g first now
runs-set made frame g first now at =
    let o : Op = fault_op made first 0 (Some 0) None in
    let F : Option Fill → Type 0 = λ f. MaySetHome g f o in
    runs-act made (SettingHome frame) (SetHome made.page frame) (SetsFirstHome g made frame) g first now refl
    (record {
      quiet = tt;
      allowed = record {
        range = record { page = at.may.page; frame = at.exists };
        permitted = op-there first o (at.before ++ record { frame = frame; fill = Zeroed g.words } ∷ []) now made.page (MaySetHome g (fill_of now frame)) at.is refl
            (subst F (sym (fill-there made frame (Zeroed g.words) g first now at)) (inl (record { home = refl; filled = refl })));
      };
    }) at
    (λ end. can-maps g made frame false Demand) (λ own outcome f. f)

-- v is mapped.
pub runs-map : (made : FaultMade) (frame : ℕ) (shadowed : Bool) (end : FaultEnd) (g : Geometry) (first now : View) → IsAtMap made frame shadowed g first now
    → RunsMissing made (Mapping frame shadowed end) (MapsVPage g made frame shadowed end) g first now
runs-map made frame shadowed end g first now at =
    let word : ℕ = missing_word g made.vpage frame shadowed in
    let o : Op = homed_op made first 0 frame (Some at.shadow) at.moved in
    let B : Option ℕ → Type 0 = λ b. IsSomeAnd (op_under now b) (MayMap g made.vpage word) in
    runs-act made (Mapping frame shadowed end) (Map made.vpage word) (MapsVPage g made frame shadowed end) g first now refl
    (record {
      quiet = tt;
      allowed = record {
        range = at.may.vpage;
        permitted = subst B (sym at.may.mapped) (op-there first o now.owned now made.page (MayMap g made.vpage word) at.is refl (may-map made frame shadowed g first now at));
      };
    }) at
    (λ e. can-unlock g made end) (λ own outcome f. f)

-- The page is unlocked.
pub runs-unlock : (made : FaultMade) (frame : ℕ) (shadowed : Bool) (outcome : FaultEnd) (end : MissingPieceEnd) (g : Geometry) (first now : View) → IsFaultMapped made g first now
    → RunsMissing made (Unlocking outcome) (missing_left made (Mapping frame shadowed outcome) g end) g first now
runs-unlock made frame shadowed outcome end g first now at =
    let o : Op = homed_op made first at.look at.frame at.shadow at.moved in
    runs-act made (Unlocking outcome) (Unlock made.page) (missing_left made (Mapping frame shadowed outcome) g end) g first now refl
    (record {
      quiet = tt;
      allowed = record {
        range = at.may.page;
        permitted = op-there first o now.owned now made.page (MayUnlock g) at.is refl (record { back = refl; flushed = record { made = refl; seen = tt }; phase = λ e. cc e });
      };
    }) at
    (λ e. can-ends outcome) (λ own outcome f. f)

-- The steps, as those of a plan that goes by stages.

abbrev pub AtMissing : MissingFault → Geometry → View → View → MissingPieceMade → Type 0
AtMissing s = IsPlanPlaced missing_piece_of KnownInMissing s.geometry.now s.made s.stage

abbrev pub GivesMissing : MissingFault → MissingPieceMade → (Own → FaultEnd → Type 0) → Geometry → View → View → Type 0
GivesMissing new runs was g first now = IsPieceRun MayMissingPiece IsMissingPiece (AtMissing new) (missing_left new.made new.stage) was runs g first now

abbrev pub IsMissingOver : (Own → FaultEnd → Type 0) → Geometry → View → View → FaultEnd → Type 0
IsMissingOver was g first now outcome = IsOver was (λ g view outcome left. IsFaulted view left) (λ g outcome. Unit {0}) g first now outcome

-- as the plan comes to a stage
pub gives-missing : (old new : MissingFault) (next : MissingStage) (runs : MissingPieceMade) (was : Own → FaultEnd → Type 0) (g : Geometry) (first now : View)
    → old.geometry.now ≡ g → new ≡ record old { stage = next } → runs ≡ missing_piece_of old.geometry.now old.made next → RunsMissing old.made next was g first now → GivesMissing new runs was g first now
gives-missing old new next runs was g first now geometry is acts run =
    run-placed MayMissingPiece IsMissingPiece missing_piece_of missing_left KnownInMissing was old.geometry.now new.geometry.now old.made new.made next new.stage runs g first now
    geometry (ap (λ (s : MissingFault). s.geometry.now) is) (ap (λ (s : MissingFault). s.made) is) (ap (λ (s : MissingFault). s.stage) is) acts run

-- after a piece: shown at its stage, for its end
pub step-missing : (old new : MissingFault) (here next : MissingStage) (end : MissingPieceEnd) (runs given : MissingPieceMade) (g : Geometry) (first now later : View)
    → old.stage ≡ here → AtMissing old g first now runs → LeavesMissingPiece runs g now end later
    → new ≡ record old { stage = next } → given ≡ missing_piece_of old.geometry.now old.made next
    → (KnownInMissing old.made here g first now → LeavesMissingPiece (missing_piece_of g old.made here) g now end later → RunsMissing old.made next (missing_left old.made here g end) g first later)
    → GivesMissing new given (missing_left old.made old.stage g end) g first later
step-missing old new here next end runs given g first now later at placed left is acts show =
    at-placed missing_piece_of KnownInMissing LeavesMissingPiece (λ stage end. GivesMissing new given (missing_left old.made stage g end) g first later) old.geometry.now old.made old.stage here end end g first now later runs at refl placed left
    (λ k a. gives-missing old new next given (missing_left old.made here g end) g first later placed.geometry is acts (show k a))

-- after a piece, the end
pub over-missing : (old : MissingFault) (here : MissingStage) (end : MissingPieceEnd) (runs : MissingPieceMade) (outcome : FaultEnd) (g : Geometry) (first now later : View)
    → old.stage ≡ here → AtMissing old g first now runs → LeavesMissingPiece runs g now end later
    → (KnownInMissing old.made here g first now → LeavesMissingPiece (missing_piece_of g old.made here) g now end later → IsMissingOver (missing_left old.made here g end) g first later outcome)
    → IsMissingOver (missing_left old.made old.stage g end) g first later outcome
over-missing old here end runs outcome g first now later at placed left show =
    at-placed missing_piece_of KnownInMissing LeavesMissingPiece (λ stage end. IsMissingOver (missing_left old.made stage g end) g first later outcome) old.geometry.now old.made old.stage here end end g first now later runs at refl placed left show
