-- When a turn stalls.
use Rattle.std.specs.Prelude.{◌≡◌, ◌≢◌, ℕ, ◌+◌, ◌<◌, ◌⊎◌, IsTrue, List, ◌∷◌, ◌++◌}
use Rattle.std.specs.List.{AllByRecursion}
use Rattle.nm_action.specs.declared.action.Action.{Action}
use Rattle.nm_action.specs.declared.action.Action.TheVariants.{Bump, SeeAck}
use Rattle.nm_action.specs.declared.action.Reply.{Reply}
use Rattle.nm_action.specs.declared.action.Reply.TheVariants.{Word, Busy}
use Rattle.nm_action.specs.declared.turn.Turn.{Turn}
use Rattle.nm_action.specs.declared.turn.Turn.TheVariants.{Do}
use Rattle.nm_action.specs.declared.turn.Heard.{Heard}
use Rattle.nm_action.specs.declared.turn.Heard.TheVariants.{Answer}
use Rattle.nm_view.specs.Views.{end_word}
use Rattle.nm_actor.specs.Turns.{Turns}
use Rattle.nm_schedule.specs.declared.turn.Played.{Played}
use Rattle.nm_schedule.specs.Played.{turns_by}

-- a turn reads an acknowledgement
abbrev pub IsSeeAck : Turn → Type 0
IsSeeAck (Do (SeeAck _)) = Unit {0}
IsSeeAck _ = ⊥

-- an actor with these turns is in a flush, and drew this number: it made a Bump, and every turn since its last Bump is a
-- SeeAck. The number is that which the Bump made of the word that it found.
pub record IsInFlush (turns : Turns) (number : ℕ) : Type 0 where
  pub front : Turns
  pub word : ℕ
  pub acks : Turns
  pub list : turns ≡ front ++ (Do Bump, Answer (Word word)) ∷ acks
  pub all : AllByRecursion (λ t. IsSeeAck t.0) acks
  pub drawn : number ≡ word + 1

-- a SeeAck of an actor with these turns that read this word stalls: in a flush where the word is below the number drawn,
-- and outside one where it isn't End
abbrev pub IsStalledAck : Turns → ℕ → Type 0
IsStalledAck turns word =
    ((number : ℕ) × IsInFlush turns number × (word < number))
    ⊎ (((number : ℕ) → ¬ IsInFlush turns number) × (word ≢ end_word))

-- an action of an actor with these turns stalls at this reply
abbrev pub StallsAt : Turns → Action → Reply → Type 0
StallsAt turns _ (Busy _) = Unit {0}
StallsAt turns (SeeAck _) (Word word) = IsStalledAck turns word
StallsAt turns _ _ = ⊥

-- a turn of an actor with these turns stalls
abbrev pub Stalls : Turns → Turn → Heard → Type 0
Stalls turns (Do action) (Answer reply) = StallsAt turns action reply
Stalls turns _ _ = ⊥

-- a turn after a list of turns is the last of its actor for now: the actor has ended, or the turn stalls
abbrev pub Yields : List Played → Played → Type 0
Yields before p = IsTrue p.ended ⊎ Stalls (turns_by p.actor before) p.turn p.heard
