-- Patterns that leave no choice to who makes a list of them.
use Rattle.std.specs.Prelude.{◌≡◌, ◌≢◌, ◌⊎◌, List, ◌∷◌, ◌++◌}
use Rattle.nm_action.specs.declared.action.Action.{Action}
use Rattle.nm_action.specs.declared.action.Reply.{Reply}
use Rattle.nm_action.specs.declared.turn.Turn.{Turn}
use Rattle.nm_action.specs.declared.turn.Heard.{Heard}
use Rattle.nm_action.specs.Own.{Own}

-- `apart` says of two events that the same was done, and answered in two ways.

-- two lists have the same events up to a place, at which the same was done and answered in two ways
pub record Diverge {E : Type 0} (apart : E → E → Type 0) (own other : List E) : Type 0 where
  pub front : List E
  pub here : E
  pub there : E
  pub rest : List E
  pub more : List E
  pub is : own ≡ front ++ here ∷ rest
  pub other_is : other ≡ front ++ there ∷ more
  pub parts : apart here there

-- two lists are the same, and so are their outcomes
pub record Coincide {E O : Type 0} (own : List E) (outcome : O) (other : List E) (end : O) : Type 0 where
  pub list : own ≡ other
  pub ends : outcome ≡ end

-- any list of the one pattern and any of the other are the same and have the same outcome, or they diverge
abbrev pub AgreeUpToAnswers : {E O : Type 0} → (E → E → Type 0) → (List E → O → Type 0) → (List E → O → Type 0) → Type 0
AgreeUpToAnswers {E} {O} apart first second = (own other : List E) (outcome end : O) → first own outcome → second other end → Diverge apart own other ⊎ Coincide own outcome other end

-- the same, of what is told of the outcomes
abbrev pub AgreeOnTold : {E O Y : Type 0} → (E → E → Type 0) → (O → Y) → (List E → O → Type 0) → (List E → O → Type 0) → Type 0
AgreeOnTold {E} {O} {Y} apart tell first second = (own other : List E) (outcome end : O) → first own outcome → second other end → Diverge apart own other ⊎ Coincide own (tell outcome) other (tell end)

-- a pattern leaves no choice: its answers alone decide which of its lists is made, and the outcome
abbrev pub IsDeterministic : {E O : Type 0} → (E → E → Type 0) → (List E → O → Type 0) → Type 0
IsDeterministic apart pattern = AgreeUpToAnswers apart pattern pattern

-- the same action had two replies
pub record AreRepliesApart (here there : Action × Reply) : Type 0 where
  pub same : here.0 ≡ there.0
  pub differ : here.1 ≢ there.1

-- a pattern of own lists leaves no choice
abbrev pub IsDeterministicPart : {O : Type 0} → (Own → O → Type 0) → Type 0
IsDeterministicPart pattern = IsDeterministic AreRepliesApart pattern

-- the same turn heard two things
pub record AreAnswersApart (here there : Turn × Heard) : Type 0 where
  pub same : here.0 ≡ there.0
  pub differ : here.1 ≢ there.1

-- a pattern of answered turns leaves no choice
abbrev pub IsDeterministicActor : {O : Type 0} → (List (Turn × Heard) → O → Type 0) → Type 0
IsDeterministicActor pattern = IsDeterministic AreAnswersApart pattern
