-- No line of a script's text is the line events.
use Rattle.std.proofs.Common.{◌≡◌, ◌≢◌, ◌==◌, ℕ, false, List, [], ◌∷◌, map, codes, refl, sym, subst}
use Rattle.std.specs.List.{AllByRecursion}
use Rattle.std.proofs.lemmas.Bool.{eqb-false}
use Rattle.nm_text.specs.Fields.{lines_of}
use Rattle.nm_script.specs.declared.script.Line.TheVariants.{Load, Store, Add, Await}
use Rattle.nm_script.specs.declared.item.Item.{Item}
use Rattle.nm_script.specs.declared.item.Item.TheVariants.{Version, Page, Tiers, Node, Cpus, Retry, Serial, Shuffle, Plan, Go, Map, Cpu, Access}
use Rattle.nm_script.specs.Items.{item_text}
use Rattle.nm_script.specs.Plain.{Script}
use Rattle.nm_script.specs.Grammar.{IsScriptText}

-- texts that begin with another byte
first_apart : (x y : ℕ) (xs ys : List ℕ) → (x == y) ≡ false → x ∷ xs ≢ y ∷ ys
first_apart x y xs ys other e = eqb-false x y other (let f : x ≡ y = cc in f)

item_other : (cpus : ℕ) (i : Item) → item_text cpus i ≢ codes "events"
item_other cpus (Version n) e = first_apart _ _ _ _ refl e
item_other cpus (Page w) e = first_apart _ _ _ _ refl e
item_other cpus (Tiers f s) e = first_apart _ _ _ _ refl e
item_other cpus (Node n) e = first_apart _ _ _ _ refl e
item_other cpus (Cpus p) e = first_apart _ _ _ _ refl e
item_other cpus (Retry r) e = first_apart _ _ _ _ refl e
item_other cpus (Serial t) e = first_apart _ _ _ _ refl e
item_other cpus (Shuffle n t) e = first_apart _ _ _ _ refl e
item_other cpus (Plan t) e = first_apart _ _ _ _ refl e
item_other cpus (Go g) e = first_apart _ _ _ _ refl e
item_other cpus (Map v p) e = first_apart _ _ _ _ refl e
item_other cpus (Cpu p) e = first_apart _ _ _ _ refl e
item_other cpus (Access (Load v w)) e = first_apart _ _ _ _ refl e
item_other cpus (Access (Store v w x)) e = first_apart _ _ _ _ refl e
item_other cpus (Access (Add v w x)) e = first_apart _ _ _ _ refl e
item_other cpus (Access (Await v w x n)) e = first_apart _ _ _ _ refl e

items_other : (cpus : ℕ) (items : List Item) → AllByRecursion (λ l. l ≢ codes "events") (map (item_text cpus) items)
items_other cpus [] = tt
items_other cpus (i ∷ items) = (item_other cpus i, items_other cpus items)

pub script_others : (part : List ℕ) (script : Script) → IsScriptText part script → AllByRecursion (λ l. l ≢ codes "events") (lines_of part)
script_others part script h = subst (AllByRecursion (λ l. l ≢ codes "events")) (sym h.spelled) (items_other script.geometry.cpus h.items)
