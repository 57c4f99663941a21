-- What holds of the actions in a sequence of answered turns.
use Rattle.nm_action.specs.declared.action.Action.{Action}
use Rattle.nm_action.specs.declared.action.Reply.{Reply}
use Rattle.nm_action.specs.Own.{Own}
use Rattle.nm_actor.specs.Turns.{own_list}
use Rattle.nm_worker.specs.Notes.{Notes, noted_turns}
use Rattle.nm_marks.specs.Contents.{HasOnly, HasEvent}

-- the own list of an actor with these notes
abbrev pub own_noted : Notes → Own
own_noted notes = own_list (noted_turns notes)

-- each action of each sequence of a pattern is so
abbrev pub NotesOnly : {O : Type 0} → (Action → Type 0) → (Notes → O → Type 0) → Type 0
NotesOnly {O} is pattern = (notes : Notes) (outcome : O) → pattern notes outcome → HasOnly is (own_noted notes)

-- some event of each sequence of a pattern is so, where the outcome is one of these
abbrev pub NotesHave : {O : Type 0} → (Action → Reply → Type 0) → (O → Type 0) → (Notes → O → Type 0) → Type 0
NotesHave {O} is may pattern = (notes : Notes) (outcome : O) → pattern notes outcome → may outcome → HasEvent is (own_noted notes)
