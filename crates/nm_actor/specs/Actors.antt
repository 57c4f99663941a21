-- Actors: what they hear, and the turns that they give.
use Rattle.std.specs.Prelude.{ℕ, Bool, true, false, [], ◌∷◌, ◌++◌, Option, Some, None}
use Rattle.nm_base.specs.Geometry.{Geometry}
use Rattle.nm_action.specs.declared.turn.Turn.{Turn}
use Rattle.nm_action.specs.declared.turn.Turn.TheVariants.{Do, Put, Take, End}
use Rattle.nm_action.specs.declared.turn.Heard.{Heard}
use Rattle.nm_action.specs.declared.turn.Heard.TheVariants.{Start, Answer, PutDone, PutFull, Took, TookNone}
use Rattle.nm_view.specs.Views.{View}
use Rattle.nm_permit.specs.Permitted.{Allowed}
use Rattle.nm_event.specs.Fitting.{Fits}
use Rattle.nm_actor.specs.Turns.{Turns, turns_view}

-- what is heard answers a turn, and a reply fits; nothing answers End
abbrev pub IsAnswer : Geometry → View → Turn → Heard → Type 0
IsAnswer g view (Do action) (Answer reply) = Fits g view action reply
IsAnswer g view (Put _ _) PutDone = Unit {0}
IsAnswer g view (Put _ _) PutFull = Unit {0}
IsAnswer g view (Take _) (Took _) = Unit {0}
IsAnswer g view (Take _) TookNone = Unit {0}
IsAnswer g view _ _ = ⊥

-- what is heard is Start where no turn is to be answered
abbrev pub IsStart : Heard → Type 0
IsStart Start = Unit {0}
IsStart _ = ⊥

-- what is heard answers the turn that was given last, or is Start where there is none
abbrev pub IsAnswerTo : Geometry → View → Option Turn → Heard → Type 0
IsAnswerTo g view None heard = IsStart heard
IsAnswerTo g view (Some turn) heard = IsAnswer g view turn heard

-- the turns with the one that was given last, now answered
abbrev pub answered : Option Turn → Heard → Turns → Turns
answered None heard turns = turns
answered (Some turn) heard turns = turns ++ (turn, heard) ∷ []

-- an action of a turn is permitted
abbrev pub IsPermittedTurn : Geometry → View → Turn → Type 0
IsPermittedTurn g view (Do action) = Allowed g view action
IsPermittedTurn g view (Put _ _) = Unit {0}
IsPermittedTurn g view (Take _) = Unit {0}
IsPermittedTurn g view End = Unit {0}

-- an actor that agrees with some turns hears what answers the turn that it gave last
pub record HasHeard (g : Geometry) (number : ℕ) (agrees : Turns → Option Turn → Type 0) (heard : Heard) : Type 0 where
  pub turns : Turns
  pub last : Option Turn
  pub agreed : agrees turns last
  pub answer : IsAnswerTo g (turns_view g number turns) last heard

-- a turn after these answered ones: the actor agrees with them, and awaits the answer to it; its action is permitted
pub record IsTurn (g : Geometry) (number : ℕ) (agrees : Turns → Option Turn → Type 0) (turns : Turns) (turn : Turn) : Type 0 where
  pub agreed : agrees turns (Some turn)
  pub permitted : IsPermittedTurn g (turns_view g number turns) turn

-- the turn that was given last is End
abbrev pub gave_end : Option Turn → Bool
gave_end (Some End) = true
gave_end last = false
