-- What the tests of a view rest on.
use Rattle.std.proofs.Common.{◌≡◌, ℕ, ◌≤◌, List, Option, None, length, arith}
use Rattle.nm_base.specs.Geometry.{backing_among}
use Rattle.nm_base.specs.declared.geometry.VPage.{VPage}
use Rattle.std.proofs.lemmas.Grind.{common_steps}

pub backing_past : (vs : List (Option VPage)) (v : ℕ) → length vs ≤ v → backing_among vs v ≡ None
backing_past vs v h = grind (arith, common_steps)
