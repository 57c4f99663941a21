-- Something is done at each of several virtual pages of a backing page, in ascending order: they are looked at, armed or
-- raised.
use Rattle.std.specs.Prelude.{◌≡◌, ℕ, ◌+◌, ◌≤◌, ◌==◌, not, if◌then◌else◌, List, [], ◌∷◌, ◌++◌, map, length, All, Some, IsSomeAnd}
use Rattle.std.specs.List.{filter}
use Rattle.nm_base.specs.Geometry.{Geometry, backing_page}
use Rattle.nm_action.specs.declared.action.Action.{Action}
use Rattle.nm_action.specs.declared.action.Action.TheVariants.{Look, Arm, Raise}
use Rattle.nm_action.specs.declared.action.Reply.{Reply}
use Rattle.nm_action.specs.declared.action.Reply.TheVariants.{Word}
use Rattle.nm_action.specs.Own.{Own}
use Rattle.nm_view.specs.Lists.{edit, first, Once}
use Rattle.nm_view.specs.Views.{Op, View, own_raises}
use Rattle.nm_view.specs.Operations.{page_of, op_on, IsLookedMapped}
use Rattle.nm_permit.specs.Permitted.{IsWet}
use Rattle.nm_event.specs.After.{looked_at, raised_to}
use Rattle.nm_part.specs.Patterns.{Ends, Follows, Each}
use Rattle.nm_compose.specs.Acts.{IsAct}
use Rattle.nm_mappings.specs.declared.visits.Visit.{Visit}
use Rattle.nm_mappings.specs.declared.visits.Visit.TheVariants as visits
use Rattle.nm_mappings.specs.declared.visits.VisitsMade.{VisitsMade}

-- What they are made with.

-- the Looks at these virtual pages of a page, the Arms, and the Raises
abbrev pub looks_made : ℕ → List ℕ → VisitsMade
looks_made page pages = record { visit = visits.Look; page = page; pages = pages }

abbrev pub arms_made : ℕ → List ℕ → VisitsMade
arms_made page pages = record { visit = visits.Arm; page = page; pages = pages }

abbrev pub raises_made : ℕ → List ℕ → VisitsMade
raises_made page pages = record { visit = visits.Raise; page = page; pages = pages }

-- The pattern. Its outcome are those virtual pages for which a word other than 0 was told.

-- the action at a virtual page
abbrev pub visit_action : Visit → ℕ → Action
visit_action visits.Look v = Look v
visit_action visits.Arm v = Arm v
visit_action visits.Raise v = Raise v

-- the pages found, after this word of a virtual page
abbrev pub found_with : ℕ → ℕ → List ℕ → List ℕ
found_with v word found = if word == 0 then found else found ++ v ∷ []

-- the pages found, after this reply
abbrev pub found_after : ℕ → Reply → List ℕ → List ℕ
found_after v (Word word) found = found_with v word found
found_after v _ found = found

-- the action at one virtual page, and what comes after it by the pages found
abbrev pub VisitAt : Geometry → Visit → ℕ → List ℕ → (List ℕ → Own → List ℕ → Type 0) → Own → List ℕ → Type 0
VisitAt g visit v found after = Follows (IsAct (visit_action visit v) g) (λ reply. after (found_after v reply found))

-- the action at each of these virtual pages, in order, and the end with the pages found
abbrev pub VisitsOf : Geometry → Visit → List ℕ → List ℕ → Own → List ℕ → Type 0
VisitsOf g visit pages found = Each (VisitAt g visit) pages found (λ all. Ends all)

abbrev pub IsVisits : VisitsMade → Geometry → Own → List ℕ → Type 0
IsVisits made g = VisitsOf g made.visit made.pages []

-- The views. What was told is told by pairs: a virtual page, and the word of its reply.

-- those of which the word is not 0
abbrev pub mapped_of : List (ℕ × ℕ) → List ℕ
mapped_of told = map first (filter (λ p. not (p.1 == 0)) told)

-- the operation on the page, after a visit of v that told this word
abbrev pub visited_at : Visit → ℕ → ℕ → Op → Op
visited_at visits.Look v word o = looked_at v word o
visited_at visits.Arm v word o = o
visited_at visits.Raise v word o = raised_to v (word + 1) o

-- the operation after all these visits
abbrev pub visited : Visit → List (ℕ × ℕ) → Op → Op
visited visit [] o = o
visited visit (p ∷ ps) o = visited visit ps (visited_at visit p.0 p.1 o)

-- the number of raises after so many visits
abbrev pub raises_told : Visit → ℕ → ℕ → ℕ
raises_told visits.Look count raises = raises
raises_told visits.Arm count raises = raises
raises_told visits.Raise count raises = raises + count

-- the view after these visits: the operation on the page has changed, and raises were made
abbrev pub visited_view : Visit → ℕ → List (ℕ × ℕ) → View → View
visited_view visit page told view = record view {
  ops = edit page_of page (visited visit told) view.ops;
  raises = raises_told visit (length told) view.raises;
}

-- raises may be made: these virtual pages are wet, and there are raises enough left
pub record MayRaiseEach (page : ℕ) (pages : List ℕ) (view : View) : Type 0 where
  pub wet : IsSomeAnd (op_on view page) (λ o. All (λ v. IsWet v o) pages)
  pub few : view.raises + length pages ≤ own_raises

-- these virtual pages of a page may be visited so: a Look is always permitted; an Arm where the operation on the page has
-- looked at the virtual page as not 0, and has not taken it
abbrev pub MayVisitEach : Visit → ℕ → List ℕ → View → Type 0
MayVisitEach visits.Look page pages view = Unit {0}
MayVisitEach visits.Arm page pages view = IsSomeAnd (op_on view page) (λ o. All (λ v. IsLookedMapped o.looked o.taken v) pages)
MayVisitEach visits.Raise page pages view = MayRaiseEach page pages view

-- they may begin: the virtual pages are of the page, and may be visited
pub record MayVisit (made : VisitsMade) (g : Geometry) (view : View) : Type 0 where
  pub of : All (λ v. backing_page g v ≡ Some made.page) made.pages
  pub each : MayVisitEach made.visit made.page made.pages view

-- what they leave: for each virtual page, once and in order, a word was told; the pages found are those of which it is not
-- 0; and the view is the one after these visits
pub record IsVisited (made : VisitsMade) (view : View) (found : List ℕ) (left : View) : Type 0 where
  pub told : List (ℕ × ℕ)
  pub pages : map first told ≡ made.pages
  pub once : Once first told
  pub mapped : found ≡ mapped_of told
  pub is : left ≡ visited_view made.visit made.page told view
