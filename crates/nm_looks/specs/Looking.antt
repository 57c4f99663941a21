-- How far Looks have come.
use Rattle.std.specs.Prelude.{◌≡◌, ℕ, ◌+◌, ◌<◌, List, [], ◌∷◌, ◌++◌, map, Option, Some, None}
use Rattle.nm_base.specs.Geometry.{Geometry}
use Rattle.nm_action.specs.declared.action.Action.{Action}
use Rattle.nm_action.specs.declared.action.Reply.{Reply}
use Rattle.nm_action.specs.Own.{Own}
use Rattle.nm_view.specs.Lists.{first, Once}
use Rattle.nm_view.specs.Views.{View}
use Rattle.nm_part.specs.Patterns.{Ends}
use Rattle.nm_compose.specs.Stages.{Stages}
use Rattle.nm_vpages.specs.VPages.{most_vpages, at_or_after, AreBelow}
use Rattle.nm_looks.specs.declared.looks.Looks.{Looks}
use Rattle.nm_looks.specs.declared.seen.Seen.{Seen}
use Rattle.nm_looks.specs.Seeing.{LooksData, look_at, nothing_seen, seen_after, seen_of, LooksFrom, MayLooks, seen_view}

-- the virtual page at which Looks are, if they have begun, and what was seen before it
pub record LooksPlace : Type 0 where
  pub at : Option ℕ
  pub seen : Seen

abbrev pub looks_place : Looks → LooksPlace
looks_place plan = record { at = plan.at; seen = plan.seen }

-- what they were made with
abbrev pub looks_data : Looks → LooksData
looks_data plan = record { 0 = plan.geometry.now; 1 = plan.made }

-- Looks have not begun: there is a virtual page, and nothing is seen yet
pub record IsNewLooks (plan : Looks) : Type 0 where
  pub start : plan.at ≡ None
  pub none : plan.seen ≡ nothing_seen
  pub some : plan.made.pages ≡ [] → ⊥

-- the action of a place
abbrev pub look_of : Option ℕ → Action
look_of None = look_at 0
look_of (Some v) = look_at v

-- what is left after the action of a place, by its reply
abbrev pub looks_left_of : LooksData → Option ℕ → Seen → Geometry → Reply → Own → Seen → Type 0
looks_left_of made None seen g reply = Ends seen
looks_left_of made (Some v) seen g reply = LooksFrom made g (at_or_after (v + 1) made.1.pages) (seen_after made.0 made.1.tier v reply seen)

abbrev pub looks_left : LooksData → LooksPlace → Geometry → Reply → Own → Seen → Type 0
looks_left made place g reply = looks_left_of made place.at place.seen g reply

-- the virtual page is the next: the ones before it have told these words
pub record IsLookingAt (made : LooksData) (v : ℕ) (seen : Seen) (g : Geometry) (view now : View) : Type 0 where
  pub may : MayLooks made g view
  pub told : List (ℕ × ℕ)
  pub split : made.1.pages ≡ map first told ++ v ∷ at_or_after (v + 1) made.1.pages
  pub small : v < most_vpages
  pub below : AreBelow v (map first told)
  pub once : Once first told
  pub shown : seen ≡ seen_of made.0 made.1.tier told
  pub is : now ≡ seen_view made.1.page told view

-- what is known at a place
abbrev pub KnownInLooks : LooksData → Option ℕ → Seen → Geometry → View → View → Type 0
KnownInLooks made None seen g view now = ⊥
KnownInLooks made (Some v) seen g view now = IsLookingAt made v seen g view now

abbrev pub looks_stages : Stages LooksData LooksPlace Action Reply Seen
looks_stages = record { piece = λ made place. look_of place.at; left = looks_left; known = λ made place g view now. KnownInLooks made place.at place.seen g view now }
