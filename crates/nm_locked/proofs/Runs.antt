-- The pieces of the steps before the page is taken out of the table, each at its stage.
use Rattle.std.proofs.Common.{◌≡◌, ℕ, List, refl, sym, ap, ◌∙◌, subst}
use Rattle.nm_base.specs.Geometry.{Geometry}
use Rattle.nm_action.specs.declared.action.Action.{Action}
use Rattle.nm_action.specs.declared.action.Reply.{Reply}
use Rattle.nm_action.specs.Own.{Own}
use Rattle.nm_view.specs.Views.{View}
use Rattle.nm_part.specs.Patterns.{Follows, CanEnd}
use Rattle.nm_compose.specs.Acts.{MayAct, IsAct, IsActed}
use Rattle.nm_compose.specs.Plans.{IsPieceRun, IsOver}
use Rattle.nm_compose.specs.Choices.{IsOr}
use Rattle.nm_compose.specs.declared.or.Or.{Or}
use Rattle.nm_compose.specs.declared.or.Or.TheVariants.{This, Other}
use Rattle.nm_compose.proofs.Choosing.{this-follows, other-follows}
use Rattle.nm_pool.specs.Given.{MayBegin}
use Rattle.nm_pool.specs.declared.job.PoolMade.{PoolMade}
use Rattle.nm_pool.specs.declared.job.PoolEnd.{PoolEnd}
use Rattle.nm_mappings.specs.Visits.{IsVisits, MayVisit}
use Rattle.nm_mappings.specs.declared.visits.VisitsMade.{VisitsMade}
use Rattle.nm_prepare.specs.Placing.{IsPlanPlaced, RunsPlaced}
use Rattle.nm_prepare.proofs.Placed.{at-placed, run-placed}
use Rattle.nm_locked.specs.declared.choose.ChooseMade.{ChooseMade}
use Rattle.nm_locked.specs.declared.choose.Chosen.{Chosen}
use Rattle.nm_locked.specs.declared.choose.Choose.{Choose}
use Rattle.nm_locked.specs.declared.choose.Stage.{Stage}
use Rattle.nm_locked.specs.Chosen.{IsChosen}
use Rattle.nm_locked.specs.Stages.{PieceMadeInMove, PieceEndInMove, MayPieceInMove, IsPoolOf, IsPieceInMove, PieceLeavesInMove, choose_piece, choose_left, ChooseKnown}

abbrev IsOthers : Or VisitsMade PoolMade → Geometry → Own → Or (List ℕ) PoolEnd → Type 0
IsOthers = IsOr IsVisits IsPoolOf

abbrev pub RunsChoose : ChooseMade → Stage → (Own → Chosen → Type 0) → Geometry → View → View → Type 0
RunsChoose = RunsPlaced MayPieceInMove IsPieceInMove choose_piece choose_left ChooseKnown

abbrev Places : ChooseMade → Stage → Geometry → View → View → PieceMadeInMove → Type 0
Places made stage g first now runs = IsPlanPlaced choose_piece ChooseKnown g made stage g first now runs

-- an action runs
pub act-run : (made : ChooseMade) (stage : Stage) (after : Reply → Own → Chosen → Type 0) (action : Action) (g : Geometry) (first now : View)
    → choose_piece g made stage ≡ This action → MayAct g now action → ChooseKnown made stage g first now
    → ((own : Own) (outcome : Chosen) → Follows (IsAct action g) (λ reply. choose_left made stage g (This reply)) own outcome → Follows (IsAct action g) after own outcome)
    → ((end : PieceEndInMove) → CanEnd (choose_left made stage g end)) → RunsChoose made stage (Follows (IsAct action g) after) g first now
act-run made stage after action g first now is may known fits can = record {
  begin = subst (λ (m : PieceMadeInMove). MayPieceInMove m g now) (sym is) may;
  known = record { geometry = refl; is = refl; holds = known };
  can = λ own end shown. can end;
  fits = λ own outcome f. fits own outcome (this-follows IsAct IsOthers (choose_left made stage g) action g own outcome (subst (λ (m : PieceMadeInMove). Follows (IsPieceInMove m g) (choose_left made stage g) own outcome) is f));
}

-- visits run
pub visits-run : (made : ChooseMade) (stage : Stage) (after : List ℕ → Own → Chosen → Type 0) (visits : VisitsMade) (g : Geometry) (first now : View)
    → choose_piece g made stage ≡ Other (This visits) → MayVisit visits g now → ChooseKnown made stage g first now
    → ((own : Own) (outcome : Chosen) → Follows (IsVisits visits g) (λ found. choose_left made stage g (Other (This found))) own outcome → Follows (IsVisits visits g) after own outcome)
    → ((end : PieceEndInMove) → CanEnd (choose_left made stage g end)) → RunsChoose made stage (Follows (IsVisits visits g) after) g first now
visits-run made stage after visits g first now is may known fits can = record {
  begin = subst (λ (m : PieceMadeInMove). MayPieceInMove m g now) (sym is) may;
  known = record { geometry = refl; is = refl; holds = known };
  can = λ own end shown. can end;
  fits = λ own outcome f. fits own outcome (this-follows IsVisits IsPoolOf (λ end. choose_left made stage g (Other end)) visits g own outcome
      (other-follows IsAct IsOthers (choose_left made stage g) (This visits) g own outcome (subst (λ (m : PieceMadeInMove). Follows (IsPieceInMove m g) (choose_left made stage g) own outcome) is f)));
}

-- a task runs
pub task-run : (made : ChooseMade) (stage : Stage) (after : PoolEnd → Own → Chosen → Type 0) (task : PoolMade) (g : Geometry) (first now : View)
    → choose_piece g made stage ≡ Other (Other task) → MayBegin task g now → ChooseKnown made stage g first now
    → ((own : Own) (outcome : Chosen) → Follows (IsPoolOf task g) (λ end. choose_left made stage g (Other (Other end))) own outcome → Follows (IsPoolOf task g) after own outcome)
    → ((own : Own) (end : PieceEndInMove) → IsPieceInMove (Other (Other task)) g own end → CanEnd (choose_left made stage g end)) → RunsChoose made stage (Follows (IsPoolOf task g) after) g first now
task-run made stage after task g first now is may known fits can = record {
  begin = subst (λ (m : PieceMadeInMove). MayPieceInMove m g now) (sym is) may;
  known = record { geometry = refl; is = refl; holds = known };
  can = λ own end shown. can own end (subst (λ (m : PieceMadeInMove). IsPieceInMove m g own end) is shown);
  fits = λ own outcome f. fits own outcome (other-follows IsVisits IsPoolOf (λ end. choose_left made stage g (Other end)) task g own outcome
      (other-follows IsAct IsOthers (choose_left made stage g) (Other task) g own outcome (subst (λ (m : PieceMadeInMove). Follows (IsPieceInMove m g) (choose_left made stage g) own outcome) is f)));
}

-- The steps.

abbrev pub AtStage : Choose → Geometry → View → View → PieceMadeInMove → Type 0
AtStage s = IsPlanPlaced choose_piece ChooseKnown s.geometry.now s.made s.stage

-- the piece of this data runs, where this was left
abbrev pub GivesChoose : Choose → PieceMadeInMove → (Own → Chosen → Type 0) → Geometry → View → View → Type 0
GivesChoose new runs was g first now = IsPieceRun MayPieceInMove IsPieceInMove (AtStage new) (choose_left new.made new.stage) was runs g first now

abbrev pub IsChooseOver : Choose → (Own → Chosen → Type 0) → Geometry → View → View → Chosen → Type 0
IsChooseOver old was g first now outcome = IsOver was (λ g view outcome left. IsChosen old.made g view outcome left) (λ g outcome. Unit {0}) g first now outcome

-- as the plan comes to a stage
pub gives-choose : (old new : Choose) (next : Stage) (runs : PieceMadeInMove) (was : Own → Chosen → Type 0) (g : Geometry) (first now : View)
    → old.geometry.now ≡ g → new ≡ record old { stage = next } → runs ≡ choose_piece old.geometry.now old.made next → RunsChoose old.made next was g first now → GivesChoose new runs was g first now
gives-choose old new next runs was g first now geometry is acts run =
    run-placed MayPieceInMove IsPieceInMove choose_piece choose_left ChooseKnown was old.geometry.now new.geometry.now old.made new.made next new.stage runs g first now
    geometry (ap (λ (s : Choose). s.geometry.now) is) (ap (λ (s : Choose). s.made) is) (ap (λ (s : Choose). s.stage) is) acts run

-- what is known of a piece that has ended: the view that it left, and its list
abbrev pub EndsSo : Own → PieceMadeInMove → Geometry → View → PieceEndInMove → View → Type 0
EndsSo own runs g now end later = PieceLeavesInMove runs g now end later × IsPieceInMove runs g own end

-- after a piece: shown at its stage, for its end
pub step-choose : (old new : Choose) (here next : Stage) (end so : PieceEndInMove) (runs given : PieceMadeInMove) (g : Geometry) (first now later : View) (own : Own)
    → old.stage ≡ here → end ≡ so → AtStage old g first now runs → PieceLeavesInMove runs g now end later → IsPieceInMove runs g own end
    → new ≡ record old { stage = next } → given ≡ choose_piece old.geometry.now old.made next
    → (ChooseKnown old.made here g first now → EndsSo own (choose_piece g old.made here) g now so later → RunsChoose old.made next (choose_left old.made here g so) g first later)
    → GivesChoose new given (choose_left old.made old.stage g end) g first later
step-choose old new here next end so runs given g first now later own at ended placed left shown is acts show =
    at-placed choose_piece ChooseKnown (EndsSo own) (λ stage end. GivesChoose new given (choose_left old.made stage g end) g first later) old.geometry.now old.made old.stage here end so g first now later runs at ended placed (left, shown)
    (λ k a. gives-choose old new next given (choose_left old.made here g so) g first later placed.geometry is acts (show k a))

-- after a piece, the end
pub over-choose : (old : Choose) (here : Stage) (end so : PieceEndInMove) (runs : PieceMadeInMove) (outcome : Chosen) (g : Geometry) (first now later : View) (own : Own)
    → old.stage ≡ here → end ≡ so → AtStage old g first now runs → PieceLeavesInMove runs g now end later → IsPieceInMove runs g own end
    → (ChooseKnown old.made here g first now → EndsSo own (choose_piece g old.made here) g now so later → IsChooseOver old (choose_left old.made here g so) g first later outcome)
    → IsChooseOver old (choose_left old.made old.stage g end) g first later outcome
over-choose old here end so runs outcome g first now later own at ended placed left shown show =
    at-placed choose_piece ChooseKnown (EndsSo own) (λ stage end. IsChooseOver old (choose_left old.made stage g end) g first later outcome) old.geometry.now old.made old.stage here end so g first now later runs at ended placed (left, shown) show

-- a stage's piece runs, where more was left
pub runs-as : (made : ChooseMade) (stage : Stage) (was now : Own → Chosen → Type 0) (g : Geometry) (first view : View) → ((own : Own) (outcome : Chosen) → was own outcome → now own outcome) → RunsChoose made stage was g first view → RunsChoose made stage now g first view
runs-as made stage was now g first view more run = record { begin = run.begin; known = run.known; can = run.can; fits = λ own outcome f. more own outcome (run.fits own outcome f) }
