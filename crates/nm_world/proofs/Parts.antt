-- That changes of operations that leave a part of them leave it of each operation that is found.
use Rattle.std.proofs.Common.{◌≡◌, ℕ, List, [], ◌∷◌, map, Option, Some, None, refl, arith}
use Rattle.std.specs.Prelude.{option_map}
use Rattle.nm_base.specs.Geometry.{Geometry, backing_page}
use Rattle.nm_view.specs.Lists.{find, edit}
use Rattle.nm_view.specs.Views.{Op}
use Rattle.nm_view.specs.Operations.{page_of}
use Rattle.nm_event.specs.After.{edit_under, edit_of}

-- an edit of the operation on a page
pub part_edit : {A : Type 0} (part : Op → A) (b : ℕ) (f : Op → Op) (k : ℕ) (ops : List Op) → ((o : Op) → page_of (f o) ≡ page_of o) → ((o : Op) → part (f o) ≡ part o) → option_map part (find page_of k (edit page_of b f ops)) ≡ option_map part (find page_of k ops)
part_edit part b f k [] page same = refl
part_edit part b f k (o ∷ ops) page same = grind (arith, page o, same o, part_edit part b f k ops page same)

-- the same, if there is such a page
pub part_under : {A : Type 0} (part : Op → A) (b : Option ℕ) (f : Op → Op) (k : ℕ) (ops : List Op) → ((o : Op) → page_of (f o) ≡ page_of o) → ((o : Op) → part (f o) ≡ part o) → option_map part (find page_of k (edit_under b f ops)) ≡ option_map part (find page_of k ops)
part_under part None f k ops page same = refl
part_under part (Some b) f k ops page same = part_edit part b f k ops page same

-- the same, of the operation on the page of v
pub part_of : {A : Type 0} (part : Op → A) (g : Geometry) (v : ℕ) (f : Op → Op) (k : ℕ) (ops : List Op) → ((o : Op) → page_of (f o) ≡ page_of o) → ((o : Op) → part (f o) ≡ part o) → option_map part (find page_of k (edit_of g v f ops)) ≡ option_map part (find page_of k ops)
part_of part g v f k ops page same = part_under part (backing_page g v) f k ops page same

-- a change of every operation
pub part_map : {A : Type 0} (part : Op → A) (f : Op → Op) (k : ℕ) (ops : List Op) → ((o : Op) → page_of (f o) ≡ page_of o) → ((o : Op) → part (f o) ≡ part o) → option_map part (find page_of k (map f ops)) ≡ option_map part (find page_of k ops)
part_map part f k [] page same = refl
part_map part f k (o ∷ ops) page same = grind (arith, page o, same o, part_map part f k ops page same)
