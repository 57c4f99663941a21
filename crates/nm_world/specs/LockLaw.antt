-- Locks and turns agree with the views, and what an operation knows is so.
use Rattle.std.specs.Prelude.{◌≡◌, ◌↔◌, ℕ, ◌+◌, [], Some, None, IsSome, IfSome, true, false}
use Rattle.nm_base.specs.Geometry.{Geometry, IsInTier}
use Rattle.nm_base.specs.HomeWord.{home_word}
use Rattle.nm_view.specs.declared.view.Phase.TheVariants.{Held, Cleared}
use Rattle.nm_view.specs.Lists.{find, first}
use Rattle.nm_view.specs.Operations.{IsTaken, IsLookedOver, names_one}
use Rattle.nm_event.specs.Fitting.{Agrees}
use Rattle.nm_world.specs.Worlds.{World, pte_at, home_at, shadow_at, lock_at, turn_at, op_at}
use Rattle.nm_world.specs.Parts.{Lore, lore_at}
use Rattle.nm_world.specs.Sights.{free_in}
use Rattle.nm_world.specs.Notions.{HasOne}

-- what an operation on b knows of words is what stands there: the home, and the shadow word of this home; a taken word is 0
-- in the table; a word that was looked at and not taken agrees with the table
pub record IsTrueOp (m : World) (b : ℕ) (o : Lore) : Type 0 where
  pub home : IfSome o.home (λ h. h ≡ home_at m b)
  pub shadow : IfSome o.shadow (λ word. (f : ℕ) → home_at m b ≡ home_word f → word ≡ shadow_at m f)
  pub taken : (v : ℕ) → IsTaken o.taken v → pte_at m v ≡ 0
  pub looked : (v : ℕ) → find first v o.taken ≡ None → IfSome (find first v o.looked) (λ p. Agrees p.1 (pte_at m v))

-- how far an operation has come: in phase Held nothing is taken and nothing cleared; phase Cleared is cleared; where the
-- operation names a virtual page, all of its page were looked at, and one alone is looked at as not 0 or taken
pub record IsStaged (g : Geometry) (o : Lore) : Type 0 where
  pub held_taken : o.phase ≡ Held → o.taken ≡ []
  pub held_cleared : o.phase ≡ Held → o.cleared ≡ false
  pub cleared : o.phase ≡ Cleared → o.cleared ≡ true
  pub over : names_one o.phase o.cleared o.moved ≡ true → IsLookedOver g o.page o.looked
  pub alone : names_one o.phase o.cleared o.moved ≡ true → HasOne o.looked o.taken

-- a frame lies in a tier, and its bit is set
pub record IsFreeIn (g : Geometry) (m : World) (t f : ℕ) : Type 0 where
  pub tier : IsInTier g f t
  pub free : free_in g m.word f ≡ true

-- a lock is held by exactly the actor that has an operation on the page; a turn by exactly the actor whose view says so;
-- what each operation knows is so, and it has come as far as it says; the least frame of a scan is free, and of the tier of
-- the turn
pub record LockLaw (g : Geometry) (m : World) : Type 0 where
  pub locks : (a b : ℕ) → (lock_at m b ≡ a + 1) ↔ IsSome (op_at m a b)
  pub turns : (a t : ℕ) → (turn_at m t ≡ a + 1) ↔ ((m.view a).turn ≡ Some t)
  pub known : (a b : ℕ) (o : Lore) → lore_at m a b ≡ Some o → IsTrueOp m b o
  pub least : (a t f : ℕ) → (m.view a).turn ≡ Some t → (m.view a).scan.least ≡ Some f → IsFreeIn g m t f
  pub staged : (a b : ℕ) (o : Lore) → lore_at m a b ≡ Some o → IsStaged g o
