-- How far visits have come.
use Rattle.std.specs.Prelude.{◌≡◌, ℕ, ◌+◌, ◌<◌, List, [], ◌∷◌, ◌++◌, map, Option, Some, None}
use Rattle.nm_base.specs.Geometry.{Geometry}
use Rattle.nm_action.specs.declared.action.Action.{Action}
use Rattle.nm_action.specs.declared.action.Reply.{Reply}
use Rattle.nm_action.specs.Own.{Own}
use Rattle.nm_view.specs.Lists.{first, Once}
use Rattle.nm_view.specs.Views.{View}
use Rattle.nm_part.specs.Patterns.{Ends}
use Rattle.nm_compose.specs.Stages.{Stages}
use Rattle.nm_mappings.specs.declared.visits.VisitsMade.{VisitsMade}
use Rattle.nm_mappings.specs.declared.visits.VisitPlan.{VisitPlan}
use Rattle.nm_vpages.specs.VPages.{most_vpages, at_or_after, AreBelow}
use Rattle.nm_mappings.specs.Visits.{visit_action, found_after, VisitsOf, mapped_of, visited_view, MayVisit}

-- the virtual page at which visits are, if they have begun, and the pages found before it
pub record VisitPlace : Type 0 where
  pub at : Option ℕ
  pub found : List ℕ

abbrev pub visit_place : VisitPlan → VisitPlace
visit_place plan = record { at = plan.at; found = plan.found }

-- visits have not begun: there is a virtual page, and none is found yet
pub record IsNewVisits (plan : VisitPlan) : Type 0 where
  pub start : plan.at ≡ None
  pub none : plan.found ≡ []
  pub some : plan.made.pages ≡ [] → ⊥

-- the action of a place
abbrev pub action_of : VisitsMade → Option ℕ → Action
action_of made None = visit_action made.visit 0
action_of made (Some v) = visit_action made.visit v

abbrev pub place_action : VisitsMade → VisitPlace → Action
place_action made place = action_of made place.at

-- what is left after the action of a place, by its reply
abbrev pub visit_left_of : VisitsMade → Option ℕ → List ℕ → Geometry → Reply → Own → List ℕ → Type 0
visit_left_of made None found g reply = Ends found
visit_left_of made (Some v) found g reply = VisitsOf g made.visit (at_or_after (v + 1) made.pages) (found_after v reply found)

abbrev pub visit_left : VisitsMade → VisitPlace → Geometry → Reply → Own → List ℕ → Type 0
visit_left made place g reply = visit_left_of made place.at place.found g reply

-- the virtual page is the next: the ones before it have told these words
pub record IsVisiting (made : VisitsMade) (v : ℕ) (found : List ℕ) (g : Geometry) (view now : View) : Type 0 where
  pub may : MayVisit made g view
  pub told : List (ℕ × ℕ)
  pub split : made.pages ≡ map first told ++ v ∷ at_or_after (v + 1) made.pages
  pub small : v < most_vpages
  pub below : AreBelow v (map first told)
  pub once : Once first told
  pub mapped : found ≡ mapped_of told
  pub is : now ≡ visited_view made.visit made.page told view

-- what is known at a place
abbrev pub KnownInVisits : VisitsMade → Option ℕ → List ℕ → Geometry → View → View → Type 0
KnownInVisits made None found g view now = ⊥
KnownInVisits made (Some v) found g view now = IsVisiting made v found g view now

abbrev pub visit_stages : Stages VisitsMade VisitPlace Action Reply (List ℕ)
visit_stages = record { piece = place_action; left = visit_left; known = λ made place g view now. KnownInVisits made place.at place.found g view now }
