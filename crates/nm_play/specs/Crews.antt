-- All actors of a machine: the processors, the migrator and the reclaimer.
use Rattle.std.specs.Prelude.{◌≡◌, ℕ, zero, suc, List, [], ◌∷◌, Option, Some, None}
use Rattle.nm_base.specs.Geometry.{Geometry}
use Rattle.nm_action.specs.declared.turn.Turn.{Turn}
use Rattle.nm_action.specs.declared.turn.Turn.TheVariants.{End}
use Rattle.nm_view.specs.Opening.{IsActor}
use Rattle.nm_actor.specs.Turns.{Turns}

-- what the actors of a machine were made with
pub record CrewMade (C M R : Type 0) : Type 0 where
  pub cpus : List C
  pub migrator : M
  pub reclaimer : R

-- what is said of the actor of a number: of a processor, of the migrator behind the processors, or of the reclaimer behind
-- it; there is no other
abbrev pub AtActor : {C : Type 0} → (C → Type 0) → Type 0 → Type 0 → List C → ℕ → Type 0
AtActor cpu migrator reclaimer [] zero = migrator
AtActor cpu migrator reclaimer [] (suc zero) = reclaimer
AtActor cpu migrator reclaimer [] (suc (suc _)) = ⊥
AtActor cpu migrator reclaimer (c ∷ cpus) zero = cpu c
AtActor cpu migrator reclaimer (c ∷ cpus) (suc actor) = AtActor cpu migrator reclaimer cpus actor

-- an actor that was made so is that of this number of a machine, and agrees with some answered turns and the turn that it
-- gave last
pub record IsAgreeing {M : Type 0} (geometry : M → Geometry) (number : M → ℕ) (made : M) (agrees : Turns → Option Turn → Type 0) (g : Geometry) (actor : ℕ) (turns : Turns) (last : Option Turn) : Type 0 where
  pub machine : geometry made ≡ g
  pub same : number made ≡ actor
  pub agreed : agrees turns last

-- the actors are to hear Start, and none of them ends at once, whatever state of it that is
pub record MayStart {K : Type 0} (g : Geometry) (agrees : K → ℕ → Turns → Option Turn → Type 0) (crew : K) : Type 0 where
  pub opens : (actor : ℕ) → IsActor g actor → agrees crew actor [] None
  pub acts : (other : K) (actor : ℕ) → ¬ agrees other actor [] (Some End)
