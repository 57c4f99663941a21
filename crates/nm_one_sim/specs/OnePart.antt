-- What is said of an actor's part of a run leaves it one part.
use Rattle.std.specs.Prelude.{◌≡◌, Bool, true, ◌∷◌, ◌++◌}
use Rattle.nm_action.specs.declared.tally.Tally.{Tally}
use Rattle.nm_action.specs.declared.turn.Turn.{Turn}
use Rattle.nm_action.specs.declared.turn.Heard.{Heard}
use Rattle.nm_actor.specs.Turns.{Turns}

-- after the same answered turns the actor gives the same turn; nothing stands behind its end; whether it has ended, and what it has
-- counted, follows from its turns
pub record LeavesOnePart (part : Turns → Bool → Tally → Type 0) : Type 0 where
  pub next : (front rest more : Turns) (t u : Turn × Heard) (ended over : Bool) (tally other : Tally) → part (front ++ t ∷ rest) ended tally → part (front ++ u ∷ more) over other → t.0 ≡ u.0
  pub ends : (turns more : Turns) (t : Turn × Heard) (ended : Bool) (tally other : Tally) → part turns true tally → part (turns ++ t ∷ more) ended other → ⊥
  pub same : (turns : Turns) (ended over : Bool) (tally other : Tally) → part turns ended tally → part turns over other → ended ≡ over
  pub counts : (turns : Turns) (ended over : Bool) (tally other : Tally) → part turns ended tally → part turns over other → tally ≡ other
