-- A choice of pieces: all that is said of it is said by the piece that was chosen.
use Rattle.nm_base.specs.Geometry.{Geometry}
use Rattle.nm_action.specs.declared.action.Action.{Action}
use Rattle.nm_action.specs.declared.turn.Step.{Step}
use Rattle.nm_action.specs.declared.turn.Step.TheVariants.{Do, Over}
use Rattle.nm_view.specs.Views.{View}
use Rattle.nm_action.specs.Own.{Own}
use Rattle.nm_compose.specs.declared.or.Or.{Or}
use Rattle.nm_compose.specs.declared.or.Or.TheVariants.{This, Other}

-- what the chosen piece was made with
abbrev pub or_made : {A B M N : Type 0} → (A → M) → (B → N) → Or A B → Or M N
or_made this other (This a) = This (this a)
or_made this other (Other b) = Other (other b)

-- the step of a piece of the first kind
abbrev pub this_step : {A B : Type 0} → Step A → Step (Or A B)
this_step (Do action) = Do action
this_step (Over outcome) = Over (This outcome)

-- the step of a piece of the other kind
abbrev pub other_step : {A B : Type 0} → Step B → Step (Or A B)
other_step (Do action) = Do action
other_step (Over outcome) = Over (Other outcome)

abbrev pub IsNewOr : {A B : Type 0} → (A → Type 0) → (B → Type 0) → Or A B → Type 0
IsNewOr this other (This a) = this a
IsNewOr this other (Other b) = other b

abbrev pub MayBeginOr : {M N : Type 0} → (M → Geometry → View → Type 0) → (N → Geometry → View → Type 0) → Or M N → Geometry → View → Type 0
MayBeginOr this other (This m) g view = this m g view
MayBeginOr this other (Other n) g view = other n g view

-- a finished list of the chosen piece, and the outcome that it shows, which is of that piece's kind
abbrev pub IsOr : {M N X Y : Type 0} → (M → Geometry → Own → X → Type 0) → (N → Geometry → Own → Y → Type 0) → Or M N → Geometry → Own → Or X Y → Type 0
IsOr this other (This m) g own (This x) = this m g own x
IsOr this other (This m) g own (Other y) = ⊥
IsOr this other (Other n) g own (This x) = ⊥
IsOr this other (Other n) g own (Other y) = other n g own y

abbrev pub LeavesOr : {M N X Y : Type 0} → (M → Geometry → View → X → View → Type 0) → (N → Geometry → View → Y → View → Type 0) → Or M N → Geometry → View → Or X Y → View → Type 0
LeavesOr this other (This m) g view (This x) left = this m g view x left
LeavesOr this other (This m) g view (Other y) left = ⊥
LeavesOr this other (Other n) g view (This x) left = ⊥
LeavesOr this other (Other n) g view (Other y) left = other n g view y left

abbrev pub AwaitsOr : {A B : Type 0} → (A → Geometry → View → Own → Action → Type 0) → (B → Geometry → View → Own → Action → Type 0) → Or A B → Geometry → View → Own → Action → Type 0
AwaitsOr this other (This a) g view own action = this a g view own action
AwaitsOr this other (Other b) g view own action = other b g view own action

abbrev pub EndedOr : {A B X Y : Type 0} → (A → Geometry → Own → X → Type 0) → (B → Geometry → Own → Y → Type 0) → Or A B → Geometry → Own → Or X Y → Type 0
EndedOr this other (This a) g own (This x) = this a g own x
EndedOr this other (This a) g own (Other y) = ⊥
EndedOr this other (Other b) g own (This x) = ⊥
EndedOr this other (Other b) g own (Other y) = other b g own y
