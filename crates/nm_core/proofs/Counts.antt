-- The bumps and raises that a step makes.
use Rattle.std.proofs.Common.{◌≡◌, ◌≢◌, ℕ, ◌+◌, ◌≤◌, refl, arith}
use Rattle.nm_base.specs.Geometry.{Geometry}
use Rattle.nm_action.specs.declared.action.Action.{Action}
use Rattle.nm_action.specs.declared.action.Action.TheVariants.{Bump, Raise}
use Rattle.nm_view.specs.Views.{View}
use Rattle.nm_words.specs.declared.names.Where.TheVariants.{Req}
use Rattle.nm_core.specs.Drawn.{bumps_after, raises_after}
use Rattle.nm_step.specs.Table.{where_of}

-- what an actor makes is added to what all have made
pub bumps-sum : (a : Action) (all later one : ℕ) → later + one ≡ all + bumps_after a one → later ≡ bumps_after a all
bumps-sum Bump all later one h = omega (arith, h)
bumps-sum a all later one h = omega (arith, h)

pub raises-sum : (a : Action) (all later one : ℕ) → later + one ≡ all + raises_after a one → later ≡ raises_after a all
raises-sum (Raise v) all later one h = omega (arith, h)
raises-sum a all later one h = omega (arith, h)

pub raises-more : (a : Action) (n : ℕ) → n ≤ raises_after a n
raises-more (Raise v) n = omega arith
raises-more a n = omega arith

-- only an exchange on the number of bumps is a bump
pub bumps-elsewhere : (g : Geometry) (view : View) (a : Action) (n : ℕ) → where_of g view a ≢ Req → bumps_after a n ≡ n
bumps-elsewhere g view Bump n ne = absurd (ne refl)
bumps-elsewhere g view a n ne = refl
