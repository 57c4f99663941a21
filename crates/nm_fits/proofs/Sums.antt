-- How many bumps and raises there are, and what holds of each item of a list.
use Rattle.std.proofs.Common.{◌≡◌, ℕ, ◌<◌, ◌≤◌, List, [], ◌∷◌, Some, None, All, get_or, sym, subst, ◌∙◌, arith}
use Rattle.std.specs.List.{range_with_len}
use Rattle.std.proofs.lemmas.List.FromFn.{length-range_with_len, get_or-range_with_len}
use Rattle.std.proofs.lemmas.List.Sums.{sum_by-le}
use Rattle.nm_base.specs.Geometry.{Geometry, IsGeometry}
use Rattle.nm_view.specs.Lists.{find, Once}
use Rattle.nm_view.specs.Views.{own_bumps, own_raises, most_bumps, most_raises}
use Rattle.nm_view.proofs.Items.{more, none_left}
use Rattle.nm_core.specs.State.{actor_count}
use Rattle.nm_world.specs.Worlds.{World}
use Rattle.nm_world.specs.ShapeLaw.{ShapeLaw}
use Rattle.nm_world.specs.Bounds.{bumps_in, raises_in}

-- what holds of each actor holds of each number of the range of actors
each_actor : (P : ℕ → Type 0) (n : ℕ) → ((a : ℕ) → a < n → P a) → All P (range_with_len 0 n)
each_actor P n each i d lt =
    let there : i < n = omega (arith, lt, length-range_with_len 0 n) in
    let at : get_or (range_with_len 0 n) i d ≡ i = get_or-range_with_len 0 n i d there ∙ omega arith in
    subst P (sym at) (each i there)

pub few_bumps : (g : Geometry) (m : World) → IsGeometry g → ShapeLaw g m → bumps_in g m ≤ most_bumps
few_bumps g m is shape =
    omega (arith, sum_by-le (λ a. (m.view a).bumps) own_bumps (range_with_len 0 (actor_count g)) (each_actor (λ a. (m.view a).bumps ≤ own_bumps) (actor_count g) (λ a there. (shape.shape a there).keyed.bumps)), length-range_with_len 0 (actor_count g), is.ranges.2.1)

pub few_raises : (g : Geometry) (m : World) → IsGeometry g → ShapeLaw g m → raises_in g m ≤ most_raises
few_raises g m is shape =
    omega (arith, sum_by-le (λ a. (m.view a).raises) own_raises (range_with_len 0 (actor_count g)) (each_actor (λ a. (m.view a).raises ≤ own_raises) (actor_count g) (λ a there. (shape.shape a there).keyed.raises)), length-range_with_len 0 (actor_count g), is.ranges.2.1)

found_here : {A : Type 0} (key : A → ℕ) (x : A) (xs : List A) → find key (key x) (x ∷ xs) ≡ Some x
found_here key x xs = grind arith

found_later : {A : Type 0} (key : A → ℕ) (k : ℕ) (x y : A) (xs : List A) → find key (key x) xs ≡ None → find key k xs ≡ Some y → find key k (x ∷ xs) ≡ Some y
found_later key k x y xs none is = grind (arith, none, is)

-- what holds of each item that is found holds of all, where no number stands twice
pub all_found : {A : Type 0} (key : A → ℕ) (P : A → Type 0) (xs : List A) → Once key xs → ((k : ℕ) (x : A) → find key k xs ≡ Some x → P x) → All P xs
all_found key P [] once each = none_left P
all_found key P (x ∷ xs) once each =
    more P x xs (each (key x) x (found_here key x xs))
    (all_found key P xs once.1 (λ k y is. each k y (found_later key k x y xs once.0 is)))
