-- The processors are asked in order for their acknowledgements, up to the first that has not ended.
use Rattle.std.specs.Prelude.{◌≡◌, ℕ, zero, suc, ◌+◌, ◌-◌, ◌<◌, ◌==◌, Bool, true, false, []}
use Rattle.nm_base.specs.Geometry.{Geometry}
use Rattle.nm_action.specs.declared.action.Action.{Action}
use Rattle.nm_action.specs.declared.action.Action.TheVariants.{SeeAck}
use Rattle.nm_action.specs.declared.action.Reply.{Reply}
use Rattle.nm_action.specs.declared.action.Reply.TheVariants.{Word}
use Rattle.nm_action.specs.Own.{Own}
use Rattle.nm_view.specs.Views.{View, end_word}
use Rattle.nm_part.specs.Patterns.{Ends, Follows, Either}
use Rattle.nm_compose.specs.Acts.{IsAct}
use Rattle.nm_compose.specs.Stages.{Stages}

-- this reply to a SeeAck says that the processor has ended
abbrev pub tells_end : Reply → Bool
tells_end (Word word) = word == end_word
tells_end _ = false

-- so many processors from this one on are asked, in order; the first that has not ended is the last that is asked; the outcome
-- is whether all have ended
abbrev pub AsksFrom : Geometry → ℕ → ℕ → Own → Bool → Type 0
AsksFrom g cpu zero = Ends true
AsksFrom g cpu (suc more) = Follows (IsAct (SeeAck cpu) g) (λ reply. Either (tells_end reply) (AsksFrom g (cpu + 1) more) (Ends false))

-- all of so many processors are asked
abbrev pub IsAsking : ℕ → Geometry → Own → Bool → Type 0
IsAsking cpus g = AsksFrom g 0 cpus

-- it may begin: these are the processors of the geometry, there is one, and the view has no open operation, so that it stays
-- as it is
pub record MayAsk (cpus : ℕ) (g : Geometry) (view : View) : Type 0 where
  pub all : cpus ≡ g.cpus
  pub some : 0 < cpus
  pub ops : view.ops ≡ []

-- The stages: the processor that is asked.

abbrev pub ask_action : ℕ → ℕ → Action
ask_action cpus cpu = SeeAck cpu

-- what is left after a processor was asked, by its reply
abbrev pub ask_left : ℕ → ℕ → Geometry → Reply → Own → Bool → Type 0
ask_left cpus cpu g reply = Either (tells_end reply) (AsksFrom g (cpu + 1) (cpus - (cpu + 1))) (Ends false)

-- what is known: there is this processor, and the view is the first one
pub record IsAskedAt (cpus cpu : ℕ) (g : Geometry) (first now : View) : Type 0 where
  pub may : MayAsk cpus g first
  pub within : cpu < cpus
  pub same : now ≡ first

abbrev pub ask_stages : Stages ℕ ℕ Action Reply Bool
ask_stages = record { piece = ask_action; left = ask_left; known = IsAskedAt }
