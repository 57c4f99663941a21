-- The five facts of every run: what the list of events, and the state after it, show of the whole machine.
use Rattle.std.specs.Prelude.{◌≡◌, ◌≢◌, ◌↔◌, ℕ, ◌+◌, List, Some, IsSome}
use Rattle.nm_base.specs.Geometry.{Geometry}
use Rattle.nm_flat.specs.Memory.{AllPlaced, IsLegal}
use Rattle.nm_action.specs.declared.action.Event.{Event}
use Rattle.nm_core.specs.Runs.{accesses_of, state_after}
use Rattle.nm_core.specs.State.{State}
use Rattle.nm_report.specs.Filters.{HasOneRoleEach}
use Rattle.nm_world.specs.Worlds.{World, lock_at, turn_at, op_at}
use Rattle.nm_world.specs.Sights.{Sight, sight_of}
use Rattle.nm_world.specs.Notions.{IsReadOnly}
use Rattle.nm_world.specs.FrameLaw.{AreRoles, names_of}
use Rattle.nm_world.specs.ShadowLaw.{IsMaster}
use Rattle.nm_world.specs.Seen.{world_of}
use Rattle.nm_transactions.specs.TransactionLaw.{ObeyTransactionLaw}

-- the shadow of frame k is true: k is the master of a page, whose shadow equals it, and no table word of the page is writable
pub record IsTrueShadow (g : Geometry) (m : Sight) (k : ℕ) : Type 0 where
  pub master : IsMaster g m k
  pub unwritable : IsReadOnly g m.pte master.page

-- shadows are true
abbrev pub AreTrueShadows : Geometry → Sight → Type 0
AreTrueShadows g m = (k : ℕ) → m.shadow k ≢ 0 → IsTrueShadow g m k

-- the roles are a partition: each frame passes one of the tests free, mapped, shadow and held, and is named by one bit, home
-- word, shadow word or view
pub record ArePartition (g : Geometry) (s : State) : Type 0 where
  pub tests : HasOneRoleEach s
  pub names : AreRoles g (names_of (sight_of g (world_of s)))

-- each lock, and each turn, is held by exactly the actor whose view says so
pub record AreHeldAsSeen (m : World) : Type 0 where
  pub locks : (a b : ℕ) → (lock_at m b ≡ a + 1) ↔ IsSome (op_at m a b)
  pub turns : (a t : ℕ) → (turn_at m t ≡ a + 1) ↔ ((m.view a).turn ≡ Some t)

-- the five facts: the accesses, which lie in mapped pages, are those of a flat memory; the transactions obey their law; in the
-- state after the list shadows are true, the roles of frames are a partition, and locks and turns are held as views say
pub record HoldsOfRun (g : Geometry) (events : List Event) : Type 0 where
  pub placed : AllPlaced g (accesses_of events)
  pub legal : IsLegal g (accesses_of events)
  pub transactions : ObeyTransactionLaw g events
  pub shadows : AreTrueShadows g (sight_of g (world_of (state_after g events)))
  pub roles : ArePartition g (state_after g events)
  pub held : AreHeldAsSeen (world_of (state_after g events))
