-- Lists of virtual pages.
use Rattle.std.specs.Prelude.{ℕ, ◌+◌, ◌<◌, nat_le, if◌then◌else◌, List, [], ◌∷◌, All, Option}
use Rattle.std.specs.List.{filter}
use Rattle.nm_base.specs.Geometry.{Geometry}
use Rattle.nm_base.specs.declared.geometry.VPage.{VPage}
use Rattle.nm_view.specs.Opening.{is_mapped_to}

-- there are virtual pages with numbers below this one
abbrev pub most_vpages : ℕ
most_vpages = 4096

-- of the virtual pages of a list, the first of which has this number, those of a backing page, ascending
abbrev pub vpages_among : ℕ → List (Option VPage) → ℕ → List ℕ
vpages_among page [] v = []
vpages_among page (p ∷ ps) v = if is_mapped_to page p then v ∷ vpages_among page ps (v + 1) else vpages_among page ps (v + 1)

-- the virtual pages of a backing page, ascending
abbrev pub vpages_of : Geometry → ℕ → List ℕ
vpages_of g page = vpages_among page g.vpages 0

-- those of a list that are at least this one
abbrev pub at_or_after : ℕ → List ℕ → List ℕ
at_or_after v pages = filter (nat_le v) pages

-- every one of a list is below this one
abbrev pub AreBelow : ℕ → List ℕ → Type 0
AreBelow v pages = All (λ u. u < v) pages
