-- What holds of the events of an own list.
use Rattle.std.specs.Prelude.{◌⊎◌, [], ◌∷◌}
use Rattle.nm_action.specs.declared.action.Action.{Action}
use Rattle.nm_action.specs.declared.action.Reply.{Reply}
use Rattle.nm_action.specs.Own.{Own}

-- each action of a list is so
abbrev pub HasOnly : (Action → Type 0) → Own → Type 0
HasOnly is [] = Unit {0}
HasOnly is (e ∷ own) = is e.0 × HasOnly is own

-- some event of a list is so
abbrev pub HasEvent : (Action → Reply → Type 0) → Own → Type 0
HasEvent is [] = ⊥
HasEvent is (e ∷ own) = is e.0 e.1 ⊎ HasEvent is own

-- each action of each list of a pattern is so
abbrev pub ListsOnly : {O : Type 0} → (Action → Type 0) → (Own → O → Type 0) → Type 0
ListsOnly {O} is pattern = (own : Own) (outcome : O) → pattern own outcome → HasOnly is own

-- some event of each list of a pattern is so, where the outcome is one of these
abbrev pub ListsHave : {O : Type 0} → (Action → Reply → Type 0) → (O → Type 0) → (Own → O → Type 0) → Type 0
ListsHave {O} is may pattern = (own : Own) (outcome : O) → pattern own outcome → may outcome → HasEvent is own
