-- The views of a machine's actors, as far as they are there.
use Rattle.std.specs.Prelude.{List, [], ◌∷◌, Option, Some, None}
use Rattle.nm_view.specs.Views.{View}

-- the views that are there, in their order
abbrev pub views_in : List (Option View) → List View
views_in [] = []
views_in (Some v ∷ views) = v ∷ views_in views
views_in (None ∷ views) = views_in views

-- a view is there
abbrev pub IsThere : Option View → Type 0
IsThere None = ⊥
IsThere (Some v) = Unit {0}
