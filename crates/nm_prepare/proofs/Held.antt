-- A view with an operation at its end.
use Rattle.std.proofs.Common.{◌≡◌, ℕ, List, [], ◌∷◌, ◌++◌, Option, Some, None, IsSomeAnd, sym, ap, ◌∙◌, subst}
use Rattle.nm_base.specs.Geometry.{Geometry, backing_page}
use Rattle.nm_view.specs.Lists.{edit, erase}
use Rattle.nm_view.specs.Views.{Op, View}
use Rattle.nm_view.specs.Opening.{unscanned}
use Rattle.nm_view.specs.Operations.{page_of, op_on, op_of, op_under}
use Rattle.nm_view.specs.declared.view.Owned.{Owned}
use Rattle.nm_view.specs.declared.view.Scanned.{Scanned}
use Rattle.nm_event.specs.After.{edit_of, edit_under, spoiled}
use Rattle.nm_pool.specs.Given.{released}
use Rattle.nm_prepare.specs.Stages.{held}
use Rattle.nm_prepare.proofs.Lists.{find-last, edit-last, erase-last}

-- its operation is found
pub on-held : (page : ℕ) (op : Op) (owned : List Owned) (scan : Scanned) (raises : ℕ) (first now : View) → op_on first page ≡ None → op.page ≡ page → now ≡ held op owned scan raises first → op_on now page ≡ Some op
on-held page op owned scan raises first now fresh is e = ap (λ (v : View). op_on v page) e ∙ find-last page_of page op first.ops fresh is

pub some-held : (page : ℕ) (op : Op) (owned : List Owned) (scan : Scanned) (raises : ℕ) (first now : View) (P : Op → Type 0) → op_on first page ≡ None → op.page ≡ page → now ≡ held op owned scan raises first → P op → IsSomeAnd (op_on now page) P
some-held page op owned scan raises first now P fresh is e p = let O : Option Op → Type 0 = λ o. IsSomeAnd o P in subst O (sym (on-held page op owned scan raises first now fresh is e)) p

-- the operation on the page of v
pub op-of : (g : Geometry) (page v : ℕ) (view : View) → backing_page g v ≡ Some page → op_of g view v ≡ op_on view page
op-of g page v view e = ap (op_under view) e

pub some-of : (g : Geometry) (page v : ℕ) (view : View) (P : Op → Type 0) → backing_page g v ≡ Some page → IsSomeAnd (op_on view page) P → IsSomeAnd (op_of g view v) P
some-of g page v view P e h = let O : Option Op → Type 0 = λ o. IsSomeAnd o P in subst O (sym (op-of g page v view e)) h

-- it is changed
pub edit-held : (page : ℕ) (f : Op → Op) (op : Op) (owned : List Owned) (scan : Scanned) (raises : ℕ) (first now : View) → op_on first page ≡ None → op.page ≡ page → now ≡ held op owned scan raises first
    → record now { ops = edit page_of page f now.ops } ≡ held (f op) owned scan raises first
edit-held page f op owned scan raises first now fresh is e =
    ap (λ (v : View). record v { ops = edit page_of page f v.ops }) e ∙ ap (λ (l : List Op). record first { ops = l; owned = owned; scan = scan; raises = raises }) (edit-last page_of page f op first.ops fresh is)

-- the same by a virtual page
pub edit-by : (g : Geometry) (page v : ℕ) (f : Op → Op) (ops : List Op) → backing_page g v ≡ Some page → edit_of g v f ops ≡ edit page_of page f ops
edit-by g page v f ops e = ap (λ (o : Option ℕ). edit_under o f ops) e

-- it is closed
pub closed-held : (page : ℕ) (op : Op) (owned : List Owned) (scan : Scanned) (raises : ℕ) (first now : View) → op_on first page ≡ None → op.page ≡ page → now ≡ held op owned scan raises first
    → record now { ops = erase page_of page now.ops; owned = spoiled page now.owned } ≡ record first { owned = spoiled page owned; scan = scan; raises = raises }
closed-held page op owned scan raises first now fresh is e =
    ap (λ (v : View). record v { ops = erase page_of page v.ops; owned = spoiled page v.owned }) e ∙ ap (λ (l : List Op). record first { ops = l; owned = spoiled page owned; scan = scan; raises = raises }) (erase-last page_of page op first.ops fresh is)

-- other frames are owned, and the turn is released
pub owned-held : (op : Op) (owned more : List Owned) (scan : Scanned) (raises : ℕ) (first now : View) → first.turn ≡ None → now ≡ held op owned scan raises first → record (released now) { owned = more } ≡ held op more unscanned raises first
owned-held op owned more scan raises first now turn e =
    ap (λ (v : View). record (released v) { owned = more }) e ∙ ap (λ (t : Option ℕ). record first { ops = first.ops ++ op ∷ []; owned = more; turn = t; scan = unscanned; raises = raises }) (sym turn)

pub released-held : (op : Op) (owned : List Owned) (scan : Scanned) (raises : ℕ) (first now : View) → first.turn ≡ None → now ≡ held op owned scan raises first → released now ≡ held op owned unscanned raises first
released-held op owned scan raises first now turn e =
    ap released e ∙ ap (λ (t : Option ℕ). record first { ops = first.ops ++ op ∷ []; owned = owned; turn = t; scan = unscanned; raises = raises }) (sym turn)

-- no turn is held
pub turn-held : (op : Op) (owned : List Owned) (scan : Scanned) (raises : ℕ) (first now : View) → first.turn ≡ None → now ≡ held op owned scan raises first → now.turn ≡ None
turn-held op owned scan raises first now turn e = ap (λ (v : View). v.turn) e ∙ turn
