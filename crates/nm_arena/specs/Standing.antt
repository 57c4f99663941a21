-- What an arena keeps.
use Rattle.std.specs.Prelude.{◌≡◌, ℕ, ◌≤◌, List, []}
use Rattle.atomic_table.specs.Seated.{TableId}
use Rattle.nm_base.specs.Geometry.{Geometry, IsGeometry}
use Rattle.nm_words.specs.Words.{Words, HasSizes}
use Rattle.nm_words.specs.Flat.{total_words}
use Rattle.nm_view.specs.Views.{View}
use Rattle.nm_core.specs.State.{actor_count}
use Rattle.nm_arena.specs.declared.layout.Layout.{Layout}
use Rattle.nm_arena.specs.Layouts.{IsLayoutOf}

-- a machine can have the geometry; the table is one of words alone, as many as the machine has, under the rule for its
-- geometry; the layout is the machine's; and there is room for the words that are read at the end, and for the views
pub record IsArenaKept (g : Geometry) (layout : Layout) (key : Geometry) (table : TableId) (words : Words) (views : List View) (capacity : ℕ) : Type 0 where
  pub geometry : IsGeometry g
  pub keyed : key ≡ g
  pub slots : table.slots ≡ 0
  pub count : table.words ≡ total_words g
  pub laid : IsLayoutOf g layout
  pub sizes : HasSizes g words
  pub empty : views ≡ []
  pub room : actor_count g ≤ capacity
