-- What visits leave of the operation on their page: for whoever runs them.
use Rattle.std.proofs.Common.{◌≡◌, ℕ, List, [], ◌++◌, Some, sym, ap, ◌∙◌, subst}
use Rattle.std.specs.Prelude.{option_map}
use Rattle.nm_view.specs.Lists.{first, Once}
use Rattle.nm_view.specs.Views.{Op, View}
use Rattle.nm_view.specs.Operations.{page_of, op_on}
use Rattle.nm_view.proofs.Finds.{find_edit, find_edit_other}
use Rattle.nm_mappings.specs.declared.visits.Visit.{Visit}
use Rattle.nm_mappings.specs.declared.visits.Visit.TheVariants as visits
use Rattle.nm_mappings.specs.Visits.{looks_made, arms_made, raises_made, visited, visited_view, IsVisited}
use Rattle.nm_mappings.proofs.Operations.{edit-nothing, visited-page, visited-arm, visited-look, raised-dry, raised-same}

-- the Looks leave of an operation that had looked at nothing that it has looked at what they told, and nothing else changed
pub looks-op : (page : ℕ) (pages : List ℕ) (view : View) (found : List ℕ) (left : View) (o : Op) → (h : IsVisited (looks_made page pages) view found left)
    → op_on view page ≡ Some o → o.looked ≡ [] → op_on left page ≡ Some (record o { looked = h.told })
looks-op page pages view found left o h on none =
    let once : Once first (o.looked ++ h.told) = subst (λ (l : List (ℕ × ℕ)). Once first (l ++ h.told)) (sym none) h.once in
    ap (λ (v : View). op_on v page) h.is
    ∙ find_edit page_of page (visited visits.Look h.told) view.ops (visited-page visits.Look h.told)
    ∙ ap (option_map (visited visits.Look h.told)) on
    ∙ ap (λ (x : Op). Some x) (visited-look h.told o once ∙ ap (λ (l : List (ℕ × ℕ)). record o { looked = l ++ h.told }) none)

-- the Arms leave the view as it was
pub arms-left : (page : ℕ) (pages : List ℕ) (view : View) (found : List ℕ) (left : View) → IsVisited (arms_made page pages) view found left → left ≡ view
arms-left page pages view found left h = h.is ∙ ap (λ (l : List Op). record view { ops = l }) (edit-nothing page_of page (visited visits.Arm h.told) view.ops (visited-arm h.told))

-- the Raises of all virtual pages that are wet, in their order, leave none wet, and change else only what was raised
pub raises-op : (page : ℕ) (pages : List ℕ) (view : View) (found : List ℕ) (left : View) (o : Op) → (h : IsVisited (raises_made page pages) view found left)
    → op_on view page ≡ Some o → o.wet ≡ pages → op_on left page ≡ Some (record o { wet = []; raised = (visited visits.Raise h.told o).raised })
raises-op page pages view found left o h on wet =
    let dry = raised-dry h.told o (wet ∙ sym h.pages) in
    ap (λ (v : View). op_on v page) h.is
    ∙ find_edit page_of page (visited visits.Raise h.told) view.ops (visited-page visits.Raise h.told)
    ∙ ap (option_map (visited visits.Raise h.told)) on
    ∙ ap (λ (x : Op). Some x) (raised-same h.told o ∙ ap (λ (l : List ℕ). record o { wet = l; raised = (visited visits.Raise h.told o).raised }) dry)

-- the operations on other pages stay
pub visited-other : (visit : Visit) (page : ℕ) (told : List (ℕ × ℕ)) (view left : View) (other : ℕ) → left ≡ visited_view visit page told view → (page ≡ other → ⊥) → op_on left other ≡ op_on view other
visited-other visit page told view left other is ne = ap (λ (v : View). op_on v other) is ∙ find_edit_other page_of page (visited visit told) other view.ops (visited-page visit told) ne
