-- What closing an operation rests on.
use Rattle.std.proofs.Common.{◌≡◌, ℕ, ◌<◌, List, [], ◌∷◌, ◌++◌, All, length, get_or}
use Rattle.nm_view.specs.Views.{Op}
use Rattle.nm_view.proofs.Items.{all_join}

-- a closed operation that is added has the room of the others
pub all_removed : (room : ℕ) (ops closed : List Op) (i : ℕ) (o : Op) → All (λ p. p.room ≡ room) ops → All (λ p. p.room ≡ room) closed → i < length ops → o ≡ get_or ops i o → (new : List Op) → new ≡ closed ++ o ∷ [] → All (λ p. p.room ≡ room) new
all_removed room ops closed i o h k lt e new is =
    let P : Op → Type 0 = λ p. p.room ≡ room in
    rw is (all_join P closed o k (rw e (h i o lt)))
