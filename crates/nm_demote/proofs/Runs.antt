-- The pieces of the steps before the page is taken out of the table, each at its stage.
use Rattle.std.proofs.Common.{◌≡◌, ℕ, List, refl, sym, ap, subst}
use Rattle.nm_base.specs.Geometry.{Geometry}
use Rattle.nm_action.specs.declared.action.Action.{Action}
use Rattle.nm_action.specs.declared.action.Reply.{Reply}
use Rattle.nm_action.specs.Own.{Own}
use Rattle.nm_view.specs.Views.{View}
use Rattle.nm_part.specs.Patterns.{Follows, CanEnd}
use Rattle.nm_compose.specs.Acts.{MayAct, IsAct}
use Rattle.nm_compose.specs.Plans.{IsPieceRun, IsOver}
use Rattle.nm_compose.specs.Choices.{IsOr}
use Rattle.nm_compose.specs.declared.or.Or.{Or}
use Rattle.nm_compose.specs.declared.or.Or.TheVariants.{This, Other}
use Rattle.nm_compose.proofs.Choosing.{this-follows, other-follows}
use Rattle.nm_mappings.specs.Visits.{IsVisits, MayVisit}
use Rattle.nm_mappings.specs.declared.visits.VisitsMade.{VisitsMade}
use Rattle.nm_obtain.specs.declared.obtain.Obtained.{Obtained}
use Rattle.nm_prepare.specs.Placing.{IsPlanPlaced, RunsPlaced}
use Rattle.nm_prepare.proofs.Placed.{at-placed, run-placed}
use Rattle.nm_demote.specs.declared.select.DemoteMade.{DemoteMade}
use Rattle.nm_demote.specs.declared.select.Selected.{Selected}
use Rattle.nm_demote.specs.declared.select.Select.{Select}
use Rattle.nm_demote.specs.declared.select.Stage.{Stage}
use Rattle.nm_demote.specs.Selections.{IsSelected}
use Rattle.nm_demote.specs.Stages.{SelectParts, SelectPieceEnd, MaySelectPiece, IsSelectPiece, SelectPieceLeaves, select_piece, select_left, SelectKnown}
use Rattle.nm_obtain.specs.Runs.{ObtainData, MayObtainOf, IsObtainOf}

abbrev IsOthers : Or VisitsMade ObtainData → Geometry → Own → Or (List ℕ) Obtained → Type 0
IsOthers = IsOr IsVisits IsObtainOf

abbrev pub RunsSelect : DemoteMade → Stage → (Own → Selected → Type 0) → Geometry → View → View → Type 0
RunsSelect = RunsPlaced MaySelectPiece IsSelectPiece select_piece select_left SelectKnown

-- an action runs
pub act-run : (made : DemoteMade) (stage : Stage) (after : Reply → Own → Selected → Type 0) (action : Action) (g : Geometry) (first now : View)
    → select_piece g made stage ≡ This action → MayAct g now action → SelectKnown made stage g first now
    → ((own : Own) (outcome : Selected) → Follows (IsAct action g) (λ reply. select_left made stage g (This reply)) own outcome → Follows (IsAct action g) after own outcome)
    → ((end : SelectPieceEnd) → CanEnd (select_left made stage g end)) → RunsSelect made stage (Follows (IsAct action g) after) g first now
act-run made stage after action g first now is may known fits can = record {
  begin = subst (λ (m : SelectParts). MaySelectPiece m g now) (sym is) may;
  known = record { geometry = refl; is = refl; holds = known };
  can = λ own end shown. can end;
  fits = λ own outcome f. fits own outcome (this-follows IsAct IsOthers (select_left made stage g) action g own outcome (subst (λ (m : SelectParts). Follows (IsSelectPiece m g) (select_left made stage g) own outcome) is f));
}

-- visits run
pub visits-run : (made : DemoteMade) (stage : Stage) (after : List ℕ → Own → Selected → Type 0) (visits : VisitsMade) (g : Geometry) (first now : View)
    → select_piece g made stage ≡ Other (This visits) → MayVisit visits g now → SelectKnown made stage g first now
    → ((own : Own) (outcome : Selected) → Follows (IsVisits visits g) (λ found. select_left made stage g (Other (This found))) own outcome → Follows (IsVisits visits g) after own outcome)
    → ((end : SelectPieceEnd) → CanEnd (select_left made stage g end)) → RunsSelect made stage (Follows (IsVisits visits g) after) g first now
visits-run made stage after visits g first now is may known fits can = record {
  begin = subst (λ (m : SelectParts). MaySelectPiece m g now) (sym is) may;
  known = record { geometry = refl; is = refl; holds = known };
  can = λ own end shown. can end;
  fits = λ own outcome f. fits own outcome (this-follows IsVisits IsObtainOf (λ end. select_left made stage g (Other end)) visits g own outcome
      (other-follows IsAct IsOthers (select_left made stage g) (This visits) g own outcome (subst (λ (m : SelectParts). Follows (IsSelectPiece m g) (select_left made stage g) own outcome) is f)));
}

-- the search for a frame runs
pub search-run : (made : DemoteMade) (stage : Stage) (after : Obtained → Own → Selected → Type 0) (data_of : ObtainData) (g : Geometry) (first now : View)
    → select_piece g made stage ≡ Other (Other data_of) → MayObtainOf data_of g now → SelectKnown made stage g first now
    → ((own : Own) (outcome : Selected) → Follows (IsObtainOf data_of g) (λ end. select_left made stage g (Other (Other end))) own outcome → Follows (IsObtainOf data_of g) after own outcome)
    → ((end : SelectPieceEnd) → CanEnd (select_left made stage g end)) → RunsSelect made stage (Follows (IsObtainOf data_of g) after) g first now
search-run made stage after data_of g first now is may known fits can = record {
  begin = subst (λ (m : SelectParts). MaySelectPiece m g now) (sym is) may;
  known = record { geometry = refl; is = refl; holds = known };
  can = λ own end shown. can end;
  fits = λ own outcome f. fits own outcome (other-follows IsVisits IsObtainOf (λ end. select_left made stage g (Other end)) data_of g own outcome
      (other-follows IsAct IsOthers (select_left made stage g) (Other data_of) g own outcome (subst (λ (m : SelectParts). Follows (IsSelectPiece m g) (select_left made stage g) own outcome) is f)));
}

-- The steps.

abbrev pub AtSelect : Select → Geometry → View → View → SelectParts → Type 0
AtSelect s = IsPlanPlaced select_piece SelectKnown s.geometry.now s.made s.stage

-- the piece of this data runs, where this was left
abbrev pub GivesSelect : Select → SelectParts → (Own → Selected → Type 0) → Geometry → View → View → Type 0
GivesSelect new runs was g first now = IsPieceRun MaySelectPiece IsSelectPiece (AtSelect new) (select_left new.made new.stage) was runs g first now

abbrev pub IsSelectOver : Select → (Own → Selected → Type 0) → Geometry → View → View → Selected → Type 0
IsSelectOver old was g first now outcome = IsOver was (λ g view outcome left. IsSelected old.made g view outcome left) (λ g outcome. Unit {0}) g first now outcome

-- as the plan comes to a stage
pub gives-select : (old new : Select) (next : Stage) (runs : SelectParts) (was : Own → Selected → Type 0) (g : Geometry) (first now : View)
    → old.geometry.now ≡ g → new ≡ record old { stage = next } → runs ≡ select_piece old.geometry.now old.made next → RunsSelect old.made next was g first now → GivesSelect new runs was g first now
gives-select old new next runs was g first now geometry is acts run =
    run-placed MaySelectPiece IsSelectPiece select_piece select_left SelectKnown was old.geometry.now new.geometry.now old.made new.made next new.stage runs g first now
    geometry (ap (λ (s : Select). s.geometry.now) is) (ap (λ (s : Select). s.made) is) (ap (λ (s : Select). s.stage) is) acts run

-- what is known of a piece that has ended: the view that it left, and its list
abbrev pub EndsSelect : Own → SelectParts → Geometry → View → SelectPieceEnd → View → Type 0
EndsSelect own runs g now end later = SelectPieceLeaves runs g now end later × IsSelectPiece runs g own end

-- after a piece: shown at its stage, for its end
pub step-select : (old new : Select) (here next : Stage) (end so : SelectPieceEnd) (runs given : SelectParts) (g : Geometry) (first now later : View) (own : Own)
    → old.stage ≡ here → end ≡ so → AtSelect old g first now runs → SelectPieceLeaves runs g now end later → IsSelectPiece runs g own end
    → new ≡ record old { stage = next } → given ≡ select_piece old.geometry.now old.made next
    → (SelectKnown old.made here g first now → EndsSelect own (select_piece g old.made here) g now so later → RunsSelect old.made next (select_left old.made here g so) g first later)
    → GivesSelect new given (select_left old.made old.stage g end) g first later
step-select old new here next end so runs given g first now later own at ended placed left shown is acts show =
    at-placed select_piece SelectKnown (EndsSelect own) (λ stage end. GivesSelect new given (select_left old.made stage g end) g first later) old.geometry.now old.made old.stage here end so g first now later runs at ended placed (left, shown)
    (λ k a. gives-select old new next given (select_left old.made here g so) g first later placed.geometry is acts (show k a))

-- after a piece, the end
pub over-select : (old : Select) (here : Stage) (end so : SelectPieceEnd) (runs : SelectParts) (outcome : Selected) (g : Geometry) (first now later : View) (own : Own)
    → old.stage ≡ here → end ≡ so → AtSelect old g first now runs → SelectPieceLeaves runs g now end later → IsSelectPiece runs g own end
    → (SelectKnown old.made here g first now → EndsSelect own (select_piece g old.made here) g now so later → IsSelectOver old (select_left old.made here g so) g first later outcome)
    → IsSelectOver old (select_left old.made old.stage g end) g first later outcome
over-select old here end so runs outcome g first now later own at ended placed left shown show =
    at-placed select_piece SelectKnown (EndsSelect own) (λ stage end. IsSelectOver old (select_left old.made stage g end) g first later outcome) old.geometry.now old.made old.stage here end so g first now later runs at ended placed (left, shown) show

-- a stage's piece runs, where more was left
pub runs-as : (made : DemoteMade) (stage : Stage) (was now : Own → Selected → Type 0) (g : Geometry) (first view : View) → ((own : Own) (outcome : Selected) → was own outcome → now own outcome) → RunsSelect made stage was g first view → RunsSelect made stage now g first view
runs-as made stage was now g first view more run = record { begin = run.begin; known = run.known; can = run.can; fits = λ own outcome f. more own outcome (run.fits own outcome f) }
