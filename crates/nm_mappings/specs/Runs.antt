-- Visits that run: what they tell of themselves, by names.
use Rattle.nm_base.specs.Geometry.{Geometry}
use Rattle.nm_action.specs.declared.action.Action.{Action}
use Rattle.nm_action.specs.Own.{Own}
use Rattle.nm_view.specs.Views.{View}
use Rattle.nm_compose.specs.Acts.{MayAct, IsAct, AwaitsAct}
use Rattle.nm_compose.specs.Composites.{HasFirst, IsRunning}
use Rattle.nm_compose.specs.Stages.{IsPieceAt}
use Rattle.nm_compose.specs.declared.act.Act.{Act}
use Rattle.nm_mappings.specs.declared.visits.VisitsMade.{VisitsMade}
use Rattle.nm_mappings.specs.declared.run.Visits.{Visits}
use Rattle.nm_mappings.specs.Visits.{MayVisit, IsVisits}
use Rattle.nm_mappings.specs.Visiting.{visit_place, visit_left, visit_stages}

abbrev pub visits_made : Visits → VisitsMade
visits_made r = r.run.plan.made

-- they have given no action
abbrev pub IsNewVisitsRun : Visits → Type 0
IsNewVisitsRun r = HasFirst (λ (a : Act). a.action) (λ a. Unit {0}) (λ action g view. MayAct g view action) IsAct (IsPieceAt visit_stages r.run.plan.made (visit_place r.run.plan)) (visit_left r.run.plan.made (visit_place r.run.plan)) MayVisit IsVisits r.run.plan.made r.run.piece

-- they await the answer to the action at a virtual page
abbrev pub AwaitsVisits : Visits → Geometry → View → Own → Action → Type 0
AwaitsVisits r = IsRunning IsAct (AwaitsAct r.run.piece) (IsPieceAt visit_stages r.run.plan.made (visit_place r.run.plan)) (visit_left r.run.plan.made (visit_place r.run.plan)) (IsVisits r.run.plan.made) r.run.piece.action
