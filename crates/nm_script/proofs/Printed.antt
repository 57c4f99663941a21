-- The lines that were printed so far, and one more.
use Rattle.std.proofs.Common.{◌≡◌, ℕ, zero, suc, ◌+◌, ◌<◌, List, [], ◌∷◌, ◌++◌, map, length, take, get_or, Option, sym, ap, ◌∙◌, append_assoc, arith}
use Rattle.std.proofs.lemmas.List.{append-nil, length-map, take-map, get_or-map}
use Rattle.std.proofs.lemmas.Grind.{flat_map-append}
use Rattle.nm_base.specs.declared.geometry.VPage.{VPage}
use Rattle.nm_script.specs.declared.script.Line.{Line}
use Rattle.nm_script.specs.declared.item.Item.{Item}
use Rattle.nm_script.specs.Items.{line, item_text, lines_text}
use Rattle.nm_script.specs.Script.{map_item, map_items, cpu_items, program_items}

-- the text of some lines and of others after them
pub lines_text-append : (cpus : ℕ) (a b : List Item) → lines_text cpus (a ++ b) ≡ lines_text cpus a ++ lines_text cpus b
lines_text-append cpus a b = flat_map-append (λ i. line (item_text cpus i)) a b

map_items-take : (k : ℕ) (vs : List (Option VPage)) (i j : ℕ) (d : Option VPage) → i < length vs → j ≡ k + i → map_items k (take (suc i) vs) ≡ map_items k (take i vs) ++ map_item j (get_or vs i d)
map_items-take k [] i j d h e = absurd (omega (arith, h))
map_items-take k (v ∷ vs) zero j d h e =
    let same : j ≡ k = omega arith in rw same (append-nil (map_item k v))
map_items-take k (v ∷ vs) (suc i) j d h e =
    ap (λ t. map_item k v ++ t) (map_items-take (k + 1) vs i j d (omega (arith, h)) (omega arith)) ∙ sym (append_assoc (map_item k v) (map_items (k + 1) (take i vs)) (map_item j (get_or vs i d)))

program_items-take : (k : ℕ) (ps : List (List Line)) (i j : ℕ) (d : List Line) → i < length ps → j ≡ k + i → program_items k (take (suc i) ps) ≡ program_items k (take i ps) ++ cpu_items j (get_or ps i d)
program_items-take k [] i j d h e = absurd (omega (arith, h))
program_items-take k (p ∷ ps) zero j d h e =
    let same : j ≡ k = omega arith in rw same (append-nil (cpu_items k p))
program_items-take k (p ∷ ps) (suc i) j d h e =
    ap (λ t. cpu_items k p ++ t) (program_items-take (k + 1) ps i j d (omega (arith, h)) (omega arith)) ∙ sym (append_assoc (cpu_items k p) (program_items (k + 1) (take i ps)) (cpu_items j (get_or ps i d)))

more : (cpus : ℕ) (before text after : List ℕ) (a b : List Item) → text ≡ before ++ lines_text cpus a → after ≡ text ++ lines_text cpus b → after ≡ before ++ lines_text cpus (a ++ b)
more cpus before text after a b e f =
    f ∙ ap (λ t. t ++ lines_text cpus b) e ∙ append_assoc before (lines_text cpus a) (lines_text cpus b) ∙ ap (λ t. before ++ t) (sym (lines_text-append cpus a b))

-- one virtual page more
pub maps-more : (cpus : ℕ) (before text after : List ℕ) (vs : List (Option VPage)) (i : ℕ) (d : Option VPage) → i < length vs
    → text ≡ before ++ lines_text cpus (map_items 0 (take i vs)) → after ≡ text ++ lines_text cpus (map_item i (get_or vs i d))
    → after ≡ before ++ lines_text cpus (map_items 0 (take (i + 1) vs))
maps-more cpus before text after vs i d h e f =
    let next : i + 1 ≡ suc i = omega arith in
    rw next (more cpus before text after (map_items 0 (take i vs)) (map_item i (get_or vs i d)) e f ∙ ap (λ t. before ++ lines_text cpus t) (sym (map_items-take 0 vs i i d h (omega arith))))

-- one program more
pub programs-more : (cpus : ℕ) (before text after : List ℕ) (ps : List (List Line)) (i : ℕ) (d : List Line) → i < length ps
    → text ≡ before ++ lines_text cpus (program_items 0 (take i ps)) → after ≡ text ++ lines_text cpus (cpu_items i (get_or ps i d))
    → after ≡ before ++ lines_text cpus (program_items 0 (take (i + 1) ps))
programs-more cpus before text after ps i d h e f =
    let next : i + 1 ≡ suc i = omega arith in
    rw next (more cpus before text after (program_items 0 (take i ps)) (cpu_items i (get_or ps i d)) e f ∙ ap (λ t. before ++ lines_text cpus t) (sym (program_items-take 0 ps i i d h (omega arith))))

-- the same of programs that lie in memory
pub rows-more : {V : Type 0} (items : V → List Line) (cpus : ℕ) (before text after : List ℕ) (ps : List V) (i : ℕ) (d : V) → i < length ps
    → text ≡ before ++ lines_text cpus (program_items 0 (map items (take i ps))) → after ≡ text ++ lines_text cpus (cpu_items i (items (get_or ps i d)))
    → after ≡ before ++ lines_text cpus (program_items 0 (map items (take (i + 1) ps)))
rows-more items cpus before text after ps i d h e f =
    let rows = map items ps in
    let short : i < length rows = rw (length-map ps items) h in
    let front : text ≡ before ++ lines_text cpus (program_items 0 (take i rows)) = e ∙ ap (λ t. before ++ lines_text cpus (program_items 0 t)) (sym (take-map items i ps)) in
    let row : get_or rows i (items d) ≡ items (get_or ps i d) = get_or-map items ps i d (items d) h in
    let one : after ≡ text ++ lines_text cpus (cpu_items i (get_or rows i (items d))) = f ∙ ap (λ r. text ++ lines_text cpus (cpu_items i r)) (sym row) in
    programs-more cpus before text after rows i (items d) short front one ∙ ap (λ t. before ++ lines_text cpus (program_items 0 t)) (take-map items (i + 1) ps)
