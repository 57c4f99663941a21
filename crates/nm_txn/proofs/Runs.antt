-- The pieces of a transaction, each at its stage.
use Rattle.std.proofs.Common.{◌≡◌, ℕ, refl, sym, ap, ◌∙◌, subst}
use Rattle.nm_base.specs.Geometry.{Geometry}
use Rattle.nm_action.specs.Own.{Own}
use Rattle.nm_view.specs.Views.{View}
use Rattle.nm_part.specs.Patterns.{Follows, CanEnd}
use Rattle.nm_compose.specs.Plans.{IsPieceRun, IsOver}
use Rattle.nm_compose.specs.Choices.{IsOr}
use Rattle.nm_compose.specs.declared.or.Or.{Or}
use Rattle.nm_compose.specs.declared.or.Or.TheVariants.{This, Other}
use Rattle.nm_compose.proofs.Choosing.{this-follows, other-follows}
use Rattle.nm_shoot.specs.Shootdown.{IsShootdown}
use Rattle.nm_shoot.specs.Flushed.{MayShoot, IsFlushed}
use Rattle.nm_copying.specs.Copying.{IsCopying, MayCopies, IsCopied}
use Rattle.nm_copying.specs.declared.copies.CopiesMade.{CopiesMade}
use Rattle.nm_prepare.specs.Placing.{IsPlanPlaced, RunsPlaced}
use Rattle.nm_prepare.specs.Ready.{MayPrepare}
use Rattle.nm_prepare.specs.declared.prepare.PrepareMade.{PrepareMade}
use Rattle.nm_prepare.specs.declared.prepare.Prepared.{Prepared}
use Rattle.nm_prepare.proofs.Placed.{at-placed, run-placed}
use Rattle.nm_prepare.specs.Runs.{IsPrepareOf}
use Rattle.nm_commit.specs.Unmapping.{UnmapsOne, MayUnmapping, IsUnmappedOne}
use Rattle.nm_commit.specs.Deciding.{MayDecide, IsDecision}
use Rattle.nm_commit.specs.declared.unmap.UnmapMade.{UnmapMade}
use Rattle.nm_commit.specs.declared.decide.DecideMade.{DecideMade}
use Rattle.nm_commit.specs.declared.decide.Decided.{Decided}
use Rattle.nm_commit.specs.Runs.{IsDecidingOf}
use Rattle.nm_txn.specs.declared.end.TxnEnd.{TxnEnd}
use Rattle.nm_txn.specs.declared.txn.Txn.{Txn}
use Rattle.nm_txn.specs.declared.txn.TxnStage.{TxnStage}
use Rattle.nm_txn.specs.Leaving.{IsTxnLeft}
use Rattle.nm_txn.specs.Pieces.{TxnParts, TxnEnds, MayTxnPiece, IsTxnPiece, TxnPieceLeaves}
use Rattle.nm_txn.specs.Stages.{by_prepared, by_flushed, by_copied, by_taken, by_decided, txn_piece, txn_left, TxnKnown}

-- The shapes of what is left of the choice.

abbrev ShootShape : ℕ → Geometry → Own → ℕ → Type 0
ShootShape cpus g own number = IsShootdown cpus own number

abbrev Rest3 : Or UnmapMade (Geometry × DecideMade) → Geometry → Own → Or ℕ Decided → Type 0
Rest3 = IsOr UnmapsOne IsDecidingOf

abbrev Rest2 : Or CopiesMade (Or UnmapMade (Geometry × DecideMade)) → Geometry → Own → Or (Unit {0}) (Or ℕ Decided) → Type 0
Rest2 = IsOr IsCopying Rest3

abbrev Rest1 : Or ℕ (Or CopiesMade (Or UnmapMade (Geometry × DecideMade))) → Geometry → Own → Or ℕ (Or (Unit {0}) (Or ℕ Decided)) → Type 0
Rest1 = IsOr ShootShape Rest2

-- What can end.

can-prepared : {O : Type 0} (made : Geometry × PrepareMade) (g : Geometry) (own : Own) (end : TxnEnds) (after : Prepared → Own → O → Type 0) → IsTxnPiece (This made) g own end → ((end : Prepared) → CanEnd (after end)) → CanEnd (by_prepared after end)
can-prepared made g own (This end) after shown can = can end
can-prepared made g own (Other end) after shown can = absurd shown

can-flushed : {O : Type 0} (cpus : ℕ) (g : Geometry) (own : Own) (end : TxnEnds) (after : Own → O → Type 0) → IsTxnPiece (Other (This cpus)) g own end → CanEnd after → CanEnd (by_flushed after end)
can-flushed cpus g own (This end) after shown can = absurd shown
can-flushed cpus g own (Other (This number)) after shown can = can
can-flushed cpus g own (Other (Other end)) after shown can = absurd shown

can-copied : {O : Type 0} (made : CopiesMade) (g : Geometry) (own : Own) (end : TxnEnds) (after : Own → O → Type 0) → IsTxnPiece (Other (Other (This made))) g own end → CanEnd after → CanEnd (by_copied after end)
can-copied made g own (This end) after shown can = absurd shown
can-copied made g own (Other (This number)) after shown can = absurd shown
can-copied made g own (Other (Other (This end))) after shown can = can
can-copied made g own (Other (Other (Other end))) after shown can = absurd shown

can-taken : {O : Type 0} (made : UnmapMade) (g : Geometry) (own : Own) (end : TxnEnds) (after : ℕ → Own → O → Type 0) → IsTxnPiece (Other (Other (Other (This made)))) g own end → ((word : ℕ) → CanEnd (after word)) → CanEnd (by_taken after end)
can-taken made g own (This end) after shown can = absurd shown
can-taken made g own (Other (This number)) after shown can = absurd shown
can-taken made g own (Other (Other (This end))) after shown can = absurd shown
can-taken made g own (Other (Other (Other (This word)))) after shown can = can word
can-taken made g own (Other (Other (Other (Other end)))) after shown can = absurd shown

can-decided : {O : Type 0} (made : Geometry × DecideMade) (g : Geometry) (own : Own) (end : TxnEnds) (after : Decided → Own → O → Type 0) → IsTxnPiece (Other (Other (Other (Other made)))) g own end → ((end : Decided) → CanEnd (after end)) → CanEnd (by_decided after end)
can-decided made g own (This end) after shown can = absurd shown
can-decided made g own (Other (This number)) after shown can = absurd shown
can-decided made g own (Other (Other (This end))) after shown can = absurd shown
can-decided made g own (Other (Other (Other (This word)))) after shown can = absurd shown
can-decided made g own (Other (Other (Other (Other end)))) after shown can = can end

-- The five sorts of pieces.

pub prepare-run : {O : Type 0} (knows : Geometry → View → View → TxnParts → Type 0) (after : Geometry → Prepared → Own → O → Type 0) (made : Geometry × PrepareMade) (g : Geometry) (first now : View)
    → MayPrepare made.0 made.1 g now → knows g first now (This made) → ((end : Prepared) → CanEnd (after g end))
    → IsPieceRun MayTxnPiece IsTxnPiece knows (λ g. by_prepared (after g)) (Follows (IsPrepareOf made g) (after g)) (This made) g first now
prepare-run knows after made g first now may known can = record {
  begin = may;
  known = known;
  can = λ own end shown. can-prepared made g own end (after g) shown can;
  fits = λ own outcome f. this-follows IsPrepareOf Rest1 (by_prepared (after g)) made g own outcome f;
}

pub flush-run : {O : Type 0} (knows : Geometry → View → View → TxnParts → Type 0) (after : Geometry → Own → O → Type 0) (cpus : ℕ) (g : Geometry) (first now : View)
    → MayShoot cpus g now → knows g first now (Other (This cpus)) → CanEnd (after g)
    → IsPieceRun MayTxnPiece IsTxnPiece knows (λ g. by_flushed (after g)) (Follows (IsShootdown cpus) (λ number. after g)) (Other (This cpus)) g first now
flush-run knows after cpus g first now may known can = record {
  begin = may;
  known = known;
  can = λ own end shown. can-flushed cpus g own end (after g) shown can;
  fits = λ own outcome f. this-follows ShootShape Rest2 (λ end. by_flushed (after g) (Other end)) cpus g own outcome
      (other-follows IsPrepareOf Rest1 (by_flushed (after g)) (This cpus) g own outcome f);
}

pub copy-run : {O : Type 0} (knows : Geometry → View → View → TxnParts → Type 0) (after : Geometry → Own → O → Type 0) (made : CopiesMade) (g : Geometry) (first now : View)
    → MayCopies made g now → knows g first now (Other (Other (This made))) → CanEnd (after g)
    → IsPieceRun MayTxnPiece IsTxnPiece knows (λ g. by_copied (after g)) (Follows (IsCopying made g) (λ end. after g)) (Other (Other (This made))) g first now
copy-run knows after made g first now may known can = record {
  begin = may;
  known = known;
  can = λ own end shown. can-copied made g own end (after g) shown can;
  fits = λ own outcome f. this-follows IsCopying Rest3 (λ end. by_copied (after g) (Other (Other end))) made g own outcome
      (other-follows ShootShape Rest2 (λ end. by_copied (after g) (Other end)) (This made) g own outcome
      (other-follows IsPrepareOf Rest1 (by_copied (after g)) (Other (This made)) g own outcome f));
}

pub unmap-run : {O : Type 0} (knows : Geometry → View → View → TxnParts → Type 0) (after : Geometry → ℕ → Own → O → Type 0) (made : UnmapMade) (g : Geometry) (first now : View)
    → MayUnmapping made g now → knows g first now (Other (Other (Other (This made)))) → ((word : ℕ) → CanEnd (after g word))
    → IsPieceRun MayTxnPiece IsTxnPiece knows (λ g. by_taken (after g)) (Follows (UnmapsOne made g) (after g)) (Other (Other (Other (This made)))) g first now
unmap-run knows after made g first now may known can = record {
  begin = may;
  known = known;
  can = λ own end shown. can-taken made g own end (after g) shown can;
  fits = λ own outcome f. this-follows UnmapsOne IsDecidingOf (λ end. by_taken (after g) (Other (Other (Other end)))) made g own outcome
      (other-follows IsCopying Rest3 (λ end. by_taken (after g) (Other (Other end))) (This made) g own outcome
      (other-follows ShootShape Rest2 (λ end. by_taken (after g) (Other end)) (Other (This made)) g own outcome
      (other-follows IsPrepareOf Rest1 (by_taken (after g)) (Other (Other (This made))) g own outcome f)));
}

pub decide-run : {O : Type 0} (knows : Geometry → View → View → TxnParts → Type 0) (after : Geometry → Decided → Own → O → Type 0) (made : Geometry × DecideMade) (g : Geometry) (first now : View)
    → MayDecide made.0 made.1 g now → knows g first now (Other (Other (Other (Other made)))) → ((end : Decided) → CanEnd (after g end))
    → IsPieceRun MayTxnPiece IsTxnPiece knows (λ g. by_decided (after g)) (Follows (IsDecidingOf made g) (after g)) (Other (Other (Other (Other made)))) g first now
decide-run knows after made g first now may known can = record {
  begin = may;
  known = known;
  can = λ own end shown. can-decided made g own end (after g) shown can;
  fits = λ own outcome f. other-follows UnmapsOne IsDecidingOf (λ end. by_decided (after g) (Other (Other (Other end)))) made g own outcome
      (other-follows IsCopying Rest3 (λ end. by_decided (after g) (Other (Other end))) (Other made) g own outcome
      (other-follows ShootShape Rest2 (λ end. by_decided (after g) (Other end)) (Other (Other made)) g own outcome
      (other-follows IsPrepareOf Rest1 (by_decided (after g)) (Other (Other (Other made))) g own outcome f)));
}

-- The steps.

abbrev pub RunsTxn : PrepareMade → TxnStage → (Own → TxnEnd → Type 0) → Geometry → View → View → Type 0
RunsTxn = RunsPlaced MayTxnPiece IsTxnPiece txn_piece txn_left TxnKnown

abbrev pub AtTxn : Txn → Geometry → View → View → TxnParts → Type 0
AtTxn s = IsPlanPlaced txn_piece TxnKnown s.geometry.now s.made s.stage

abbrev pub GivesTxn : Txn → TxnParts → (Own → TxnEnd → Type 0) → Geometry → View → View → Type 0
GivesTxn new runs was g first now = IsPieceRun MayTxnPiece IsTxnPiece (AtTxn new) (txn_left new.made new.stage) was runs g first now

abbrev pub IsTxnOver : Txn → (Own → TxnEnd → Type 0) → Geometry → View → View → TxnEnd → Type 0
IsTxnOver old was g first now outcome = IsOver was (λ g view outcome left. IsTxnLeft old.made view outcome left) (λ g outcome. Unit {0}) g first now outcome

-- as the plan comes to a stage
pub gives-txn : (old new : Txn) (next : TxnStage) (runs : TxnParts) (was : Own → TxnEnd → Type 0) (g : Geometry) (first now : View)
    → old.geometry.now ≡ g → new ≡ record old { stage = next } → runs ≡ txn_piece old.geometry.now old.made next → RunsTxn old.made next was g first now → GivesTxn new runs was g first now
gives-txn old new next runs was g first now geometry is acts run =
    run-placed MayTxnPiece IsTxnPiece txn_piece txn_left TxnKnown was old.geometry.now new.geometry.now old.made new.made next new.stage runs g first now
    geometry (ap (λ (s : Txn). s.geometry.now) is) (ap (λ (s : Txn). s.made) is) (ap (λ (s : Txn). s.stage) is) acts run

-- after a piece: shown at its stage, for its end
pub step-txn : (old new : Txn) (here next : TxnStage) (end so : TxnEnds) (runs given : TxnParts) (g : Geometry) (first now later : View)
    → old.stage ≡ here → end ≡ so → AtTxn old g first now runs → TxnPieceLeaves runs g now end later
    → new ≡ record old { stage = next } → given ≡ txn_piece old.geometry.now old.made next
    → (TxnKnown old.made here g first now → TxnPieceLeaves (txn_piece g old.made here) g now so later → RunsTxn old.made next (txn_left old.made here g so) g first later)
    → GivesTxn new given (txn_left old.made old.stage g end) g first later
step-txn old new here next end so runs given g first now later at ended placed left is acts show =
    at-placed txn_piece TxnKnown TxnPieceLeaves (λ stage end. GivesTxn new given (txn_left old.made stage g end) g first later) old.geometry.now old.made old.stage here end so g first now later runs at ended placed left
    (λ k a. gives-txn old new next given (txn_left old.made here g so) g first later placed.geometry is acts (show k a))

-- after a piece, the end
pub over-txn : (old : Txn) (here : TxnStage) (end so : TxnEnds) (runs : TxnParts) (outcome : TxnEnd) (g : Geometry) (first now later : View)
    → old.stage ≡ here → end ≡ so → AtTxn old g first now runs → TxnPieceLeaves runs g now end later
    → (TxnKnown old.made here g first now → TxnPieceLeaves (txn_piece g old.made here) g now so later → IsTxnOver old (txn_left old.made here g so) g first later outcome)
    → IsTxnOver old (txn_left old.made old.stage g end) g first later outcome
over-txn old here end so runs outcome g first now later at ended placed left show =
    at-placed txn_piece TxnKnown TxnPieceLeaves (λ stage end. IsTxnOver old (txn_left old.made stage g end) g first later outcome) old.geometry.now old.made old.stage here end so g first now later runs at ended placed left show

-- after each sort of piece

pub by-flush : (cpus : ℕ) (g : Geometry) (now later : View) (goal : TxnEnds → Type 0) (end : TxnEnds) → TxnPieceLeaves (Other (This cpus)) g now end later → ((number : ℕ) → IsFlushed g now number later → goal (Other (This number))) → goal end
by-flush cpus g now later goal (This end) left show = absurd left
by-flush cpus g now later goal (Other (This number)) left show = show number left
by-flush cpus g now later goal (Other (Other end)) left show = absurd left

pub by-copy : (made : CopiesMade) (g : Geometry) (now later : View) (goal : TxnEnds → Type 0) (end : TxnEnds) → TxnPieceLeaves (Other (Other (This made))) g now end later → ((end : Unit {0}) → IsCopied made now later → goal (Other (Other (This end)))) → goal end
by-copy made g now later goal (This end) left show = absurd left
by-copy made g now later goal (Other (This number)) left show = absurd left
by-copy made g now later goal (Other (Other (This end))) left show = show end left
by-copy made g now later goal (Other (Other (Other end))) left show = absurd left

pub by-unmap : (made : UnmapMade) (g : Geometry) (now later : View) (goal : TxnEnds → Type 0) (end : TxnEnds) → TxnPieceLeaves (Other (Other (Other (This made)))) g now end later → ((word : ℕ) → IsUnmappedOne made g now word later → goal (Other (Other (Other (This word))))) → goal end
by-unmap made g now later goal (This end) left show = absurd left
by-unmap made g now later goal (Other (This number)) left show = absurd left
by-unmap made g now later goal (Other (Other (This end))) left show = absurd left
by-unmap made g now later goal (Other (Other (Other (This word)))) left show = show word left
by-unmap made g now later goal (Other (Other (Other (Other end)))) left show = absurd left

pub by-decide : (made : Geometry × DecideMade) (g : Geometry) (now later : View) (goal : TxnEnds → Type 0) (end : TxnEnds) → TxnPieceLeaves (Other (Other (Other (Other made)))) g now end later → ((end : Decided) → IsDecision made.1 now later → goal (Other (Other (Other (Other end))))) → goal end
by-decide made g now later goal (This end) left show = absurd left
by-decide made g now later goal (Other (This number)) left show = absurd left
by-decide made g now later goal (Other (Other (This end))) left show = absurd left
by-decide made g now later goal (Other (Other (Other (This word)))) left show = absurd left
by-decide made g now later goal (Other (Other (Other (Other end)))) left show = show end left
