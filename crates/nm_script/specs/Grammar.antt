-- Which texts are scripts. The lines of the bytes are the canonical lines of the script, but that the two lines which say
-- what holds without them may lack, and that the lines of virtual pages may stand in any order.
use Rattle.std.specs.Prelude.{◌≡◌, ℕ, ◌⊎◌, List, [], ◌∷◌, map}
use Rattle.std.specs.List.Sorted.{IsPermutation}
use Rattle.nm_text.specs.Fields.{lines_of}
use Rattle.nm_script.specs.declared.limits.TheConstants.{MOST_TURNS}
use Rattle.nm_script.specs.declared.item.Item.{Item}
use Rattle.nm_script.specs.declared.item.Item.TheVariants.{Page, Serial}
use Rattle.nm_script.specs.Plain.{Script}
use Rattle.nm_script.specs.Items.{item_text}
use Rattle.nm_script.specs.Script.{IsScript, schedule_items, map_items, items_with}

-- the lines are written as they are canonical, or there is none where the canonical line is this one
abbrev pub MayLack : Item → List Item → List Item → Type 0
MayLack i canonical written = (written ≡ canonical) ⊎ ((canonical ≡ i ∷ []) × (written ≡ []))

-- lines that a text of the script may have, in their order
pub record AreItemsOf (s : Script) (items : List Item) : Type 0 where
  pub page : List Item
  pub schedule : List Item
  pub maps : List Item
  pub are : items ≡ items_with s page schedule maps
  pub page_lacks : MayLack (Page 512) (Page s.geometry.words ∷ []) page
  pub schedule_lacks : MayLack (Serial MOST_TURNS) (schedule_items s.schedule) schedule
  pub any_order : IsPermutation (map_items 0 s.geometry.vpages) maps

-- the bytes are a text of the script: each of their lines is spelled as the line of it, and the last may lack its newline
pub record IsScriptText (bytes : List ℕ) (script : Script) : Type 0 where
  pub is : IsScript script
  pub items : List Item
  pub items_are : AreItemsOf script items
  pub spelled : lines_of bytes ≡ map (item_text script.geometry.cpus) items
