-- Patterns of the turns of an actor.
use Rattle.std.specs.Prelude.{◌≡◌, ℕ, [], ◌∷◌, ◌++◌, Bool, true, false}
use Rattle.nm_base.specs.Geometry.{Geometry}
use Rattle.nm_action.specs.declared.action.Reply.{Reply}
use Rattle.nm_action.specs.declared.action.Reply.TheVariants.{Done}
use Rattle.nm_action.specs.declared.turn.Turn.{Turn}
use Rattle.nm_action.specs.declared.turn.Turn.TheVariants.{Do, Put, Take}
use Rattle.nm_action.specs.declared.turn.Heard.{Heard}
use Rattle.nm_action.specs.declared.turn.Heard.TheVariants.{Answer, PutDone, PutFull, Took, TookNone}
use Rattle.nm_action.specs.Own.{Own}
use Rattle.nm_view.specs.Views.{View}
use Rattle.nm_step.specs.Table.{change_of, IsReplyTo}
use Rattle.nm_part.specs.Patterns.{CanEnd}
use Rattle.nm_actor.specs.Turns.{Turns}
use Rattle.nm_catchup.specs.CatchUp.{told_word}

-- what is heard is of the turn's kind, which no view decides
abbrev pub IsHeardOf : Geometry → Turn → Heard → Type 0
IsHeardOf g (Do action) (Answer reply) = (view : View) → IsReplyTo (change_of g view action) reply
IsHeardOf g (Put _ _) PutDone = Unit {0}
IsHeardOf g (Put _ _) PutFull = Unit {0}
IsHeardOf g (Take _) (Took _) = Unit {0}
IsHeardOf g (Take _) TookNone = Unit {0}
IsHeardOf g _ _ = ⊥

-- one turn, and what was heard
pub record Hears (g : Geometry) (turn : Turn) (turns : Turns) (heard : Heard) : Type 0 where
  pub is : turns ≡ (turn, heard) ∷ []
  pub kind : IsHeardOf g turn heard

-- actions with their replies, as turns
abbrev pub action_turns : Own → Turns
action_turns [] = []
action_turns (event ∷ own) = (Do event.0, Answer event.1) ∷ action_turns own

-- turns that are actions, whose list has this pattern
pub record Acts {O : Type 0} (pattern : Own → O → Type 0) (turns : Turns) (outcome : O) : Type 0 where
  pub own : Own
  pub is : turns ≡ action_turns own
  pub shown : pattern own outcome

-- the reply that was heard; Done where it was none
abbrev pub heard_reply : Heard → Reply
heard_reply (Answer reply) = reply
heard_reply _ = Done

-- the word that was heard
abbrev pub word_heard : Heard → ℕ
word_heard heard = told_word (heard_reply heard)

abbrev pub is_done : Reply → Bool
is_done Done = true
is_done _ = false

-- these turns, then this one with something that is heard, and then more, make up a finished list
pub record IsTurnBegun {O : Type 0} (whole : Turns → O → Type 0) (turns : Turns) (turn : Turn) : Type 0 where
  pub heard : Heard
  pub can : CanEnd (λ rest outcome. whole ((turns ++ (turn, heard) ∷ []) ++ rest) outcome)
