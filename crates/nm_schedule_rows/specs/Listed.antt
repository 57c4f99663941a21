-- Actors that give turns from a list, whatever they hear.
use Rattle.std.specs.Prelude.{◌≡◌, ℕ, ◌<◌, List, length, All, Option, Some, None}
use Rattle.nm_base.specs.Geometry.{Geometry}
use Rattle.nm_action.specs.declared.action.Action.{Action}
use Rattle.nm_action.specs.declared.action.Action.TheVariants.{Look, SeeAck}
use Rattle.nm_action.specs.declared.tally.Tally.{Tally}
use Rattle.nm_action.specs.declared.turn.Turn.{Turn}
use Rattle.nm_action.specs.declared.turn.Turn.TheVariants.{Do, Put, Take, End}
use Rattle.nm_actor.specs.Turns.{Turns}

-- a machine of one virtual page and one processor
abbrev pub IsSmall : Geometry → Type 0
IsSmall g = (g.cpus ≡ 1) × (length g.vpages ≡ 1)

-- a turn that every view of such a machine permits: a look, the reading of an acknowledgement, a put or a take
abbrev pub IsAlwaysPermitted : Turn → Type 0
IsAlwaysPermitted (Do (Look vpage)) = vpage ≡ 0
IsAlwaysPermitted (Do (SeeAck cpu)) = cpu ≡ 0
IsAlwaysPermitted (Do _) = ⊥
IsAlwaysPermitted (Put _ _) = Unit {0}
IsAlwaysPermitted (Take _) = Unit {0}
IsAlwaysPermitted End = ⊥

-- by the turn that was given last: nothing was given where there is none, and End is not given before something was heard
abbrev pub HasBegunBy : Option Turn → ℕ → Turns → Type 0
HasBegunBy None given done = given ≡ 0
HasBegunBy (Some End) given done = 0 < length done
HasBegunBy (Some _) given done = Unit {0}

-- an actor with this list of turns, of which there is one, has given this turn last
pub record IsListed (g : Geometry) (turns : List Turn) (given : ℕ) (kept : Option Turn) (done : Turns) (last : Option Turn) : Type 0 where
  pub small : IsSmall g
  pub free : All IsAlwaysPermitted turns
  pub some : 0 < length turns
  pub same : kept ≡ last
  pub begun : HasBegunBy last given done

-- nothing was counted
abbrev pub nothing_counted : Tally
nothing_counted = record { demand = 0; alias = 0; hint = 0; shadow = 0; marked = 0; spilled = 0; cold = 0; committed = 0; moved = 0; noframe = 0; gone = 0; worn = 0; aborted = 0; remapped = 0; copied = 0; words = 0; flushes = 0; reclaimed = 0 }
