-- What holds of each operation of a view, of the one that an action names, and after it was edited.
use Rattle.std.proofs.Common.{◌≡◌, ℕ, List, Option, Some, None, IsSome, IsSomeAnd, All, refl}
use Rattle.nm_base.specs.Geometry.{Geometry, backing_page}
use Rattle.nm_view.specs.Lists.{edit}
use Rattle.nm_view.specs.Views.{Op, View}
use Rattle.nm_view.specs.Operations.{page_of, op_under, op_of}
use Rattle.nm_view.proofs.Items.{all_find, all_edit}
use Rattle.nm_event.specs.After.{edit_under, edit_of}

-- a value of which P holds
pub some_and : {A : Type 0} (o : Option A) (P : A → Type 0) → IsSomeAnd o P → (x : A) × ((o ≡ Some x) × P x)
some_and None P h = absurd h
some_and (Some x) P h = (x, (refl, h))

pub some_is : {A : Type 0} (o : Option A) → IsSome o → (x : A) × (o ≡ Some x)
some_is None h = absurd (let none : ⊥ = cc in none)
some_is (Some x) h = (x, refl)

-- an edit that keeps it of each operation
pub all_edit_op : (P : Op → Type 0) (page : ℕ) (f : Op → Op) (ops : List Op) → ((o : Op) → P o → P (f o)) → All P ops → All P (edit page_of page f ops)
all_edit_op P page f ops keeps h = all_edit page_of P page f ops (λ o found k. keeps o k) h

pub all_edit_under : (P : Op → Type 0) (page : Option ℕ) (f : Op → Op) (ops : List Op) → ((o : Op) → P o → P (f o)) → All P ops → All P (edit_under page f ops)
all_edit_under P None f ops keeps h = h
all_edit_under P (Some page) f ops keeps h = all_edit_op P page f ops keeps h

pub all_edit_of : (g : Geometry) (P : Op → Type 0) (v : ℕ) (f : Op → Op) (ops : List Op) → ((o : Op) → P o → P (f o)) → All P ops → All P (edit_of g v f ops)
all_edit_of g P v f ops keeps h = all_edit_under P (backing_page g v) f ops keeps h

all_op_under : (P : Op → Type 0) (page : Option ℕ) (view : View) (o : Op) → All P view.ops → op_under view page ≡ Some o → P o
all_op_under P None view o h e = absurd (cc)
all_op_under P (Some page) view o h e = all_find page_of page P view.ops o h e

-- what holds of each operation holds of the one on the page of v
pub all_op_of : (g : Geometry) (P : Op → Type 0) (v : ℕ) (view : View) (o : Op) → All P view.ops → op_of g view v ≡ Some o → P o
all_op_of g P v view o h e = all_op_under P (backing_page g v) view o h e
