-- How far a shootdown has come.
use Rattle.std.specs.Prelude.{◌≡◌, ℕ, ◌+◌, ◌<◌, ◌≤◌, nat_lt, if◌then◌else◌, List, [], ◌∷◌, ◌++◌, length, All}
use Rattle.nm_base.specs.Geometry.{Geometry}
use Rattle.nm_action.specs.declared.action.Action.{Action}
use Rattle.nm_action.specs.declared.action.Action.TheVariants.{Bump, SeeAck}
use Rattle.nm_action.specs.declared.action.Reply.TheVariants.{Word}
use Rattle.nm_action.specs.declared.turn.Step.{Step}
use Rattle.nm_action.specs.declared.turn.Step.TheVariants.{Do, Over}
use Rattle.nm_view.specs.Views.{View}
use Rattle.nm_action.specs.Own.{Own}
use Rattle.nm_shoot.specs.declared.shoot.Shoot.{Shoot}
use Rattle.nm_shoot.specs.declared.shoot.Stage.{Stage}
use Rattle.nm_shoot.specs.declared.shoot.Stage.TheVariants.{New, Bumping, Seeing}
use Rattle.nm_shoot.specs.Shootdown.{asked, asked_from, IsAnswered}
use Rattle.nm_shoot.specs.Flushed.{MayShoot}

abbrev pub cpus_of : Shoot → ℕ
cpus_of s = s.cpus

abbrev pub IsNewShootStage : Stage → Type 0
IsNewShootStage New = Unit {0}
IsNewShootStage Bumping = ⊥
IsNewShootStage (Seeing _ _) = ⊥

abbrev pub IsNewShoot : Shoot → Type 0
IsNewShoot s = IsNewShootStage s.stage

-- the bump is awaited
pub record IsBumping (cpus : ℕ) (g : Geometry) (view : View) (own : Own) (action : Action) : Type 0 where
  pub may : MayShoot cpus g view
  pub none : own ≡ []
  pub bump : action ≡ Bump

-- the processors below `cpu` have answered, and `cpu` has given some words that are below the number
pub record HasAsked (cpus : ℕ) (g : Geometry) (view : View) (own : Own) (cpu number : ℕ) : Type 0 where
  pub may : MayShoot cpus g view
  pub old : ℕ
  pub words : List (List ℕ)
  pub early : List ℕ
  pub drawn : number ≡ old + 1
  pub each : length words ≡ cpu
  pub within : cpu ≤ cpus
  pub answered : All (IsAnswered number) words
  pub below : All (λ w. w < number) early
  pub is : own ≡ ((Bump, Word old) ∷ asked_from 0 words) ++ asked cpu early

-- the acknowledgement of `cpu` is awaited
pub record IsSeeing (cpus : ℕ) (g : Geometry) (view : View) (own : Own) (cpu number : ℕ) (action : Action) : Type 0 where
  pub has : HasAsked cpus g view own cpu number
  pub next : cpu < cpus
  pub see : action ≡ SeeAck cpu

abbrev pub AwaitsShootAt : ℕ → Stage → Geometry → View → Own → Action → Type 0
AwaitsShootAt cpus New g view own action = ⊥
AwaitsShootAt cpus Bumping g view own action = IsBumping cpus g view own action
AwaitsShootAt cpus (Seeing cpu number) g view own action = IsSeeing cpus g view own cpu number action

abbrev pub AwaitsShoot : Shoot → Geometry → View → Own → Action → Type 0
AwaitsShoot s g view own action = AwaitsShootAt s.cpus s.stage g view own action

-- the next step: a processor is asked, or all have answered
abbrev pub ask : ℕ → ℕ → ℕ → Step ℕ
ask cpus cpu number = if nat_lt cpu cpus then Do (SeeAck cpu) else Over number
