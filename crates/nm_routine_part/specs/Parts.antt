-- An actor's part of the turns of a run, said without the actor: which turns they are, and what is counted of them.
use Rattle.std.specs.Prelude.{◌≡◌, ◌∷◌, ◌++◌, Bool, true, false}
use Rattle.nm_action.specs.declared.tally.Tally.{Tally}
use Rattle.nm_action.specs.Tally.{sum_of}
use Rattle.nm_view.specs.Views.{View}
use Rattle.nm_tally.specs.Counts.{events_tally}
use Rattle.nm_actor.specs.Turns.{Turns, own_list}
use Rattle.nm_worker.specs.Notes.{Noted, Notes, noted_turns, notes_tally}
use Rattle.nm_worker.specs.Routines.{IsLeftEmpty}

-- a whole sequence, with some outcome
pub record HasOutcome {O : Type 0} (whole : Notes → O → Type 0) (notes : Notes) : Type 0 where
  pub outcome : O
  pub shown : whole notes outcome

-- the beginning of a whole sequence that has one turn more at least
pub record HasMore {O : Type 0} (whole : Notes → O → Type 0) (notes : Notes) : Type 0 where
  pub next : Noted
  pub rest : Notes
  pub outcome : O
  pub shown : whole (notes ++ next ∷ rest) outcome

-- a whole sequence where the actor has ended, and else the beginning of one that goes on
abbrev pub IsCarriedOn : {O : Type 0} → (Notes → O → Type 0) → Bool → Notes → Type 0
IsCarriedOn whole true notes = HasOutcome whole notes
IsCarriedOn whole false notes = HasMore whole notes

-- an actor that has ended leaves nothing open
abbrev pub IsEmptyAtEnd : Bool → View → Type 0
IsEmptyAtEnd true view = IsLeftEmpty view
IsEmptyAtEnd false view = Unit {0}

-- what these notes count: the events of their own list, and the ends of the pieces of work
abbrev pub counts_of : Notes → Tally
counts_of notes = sum_of (events_tally (own_list (noted_turns notes))) (notes_tally notes)

-- these are the answered turns of an actor whose whole sequences are of this pattern, and this is their tally
pub record IsRoutinePart {O : Type 0} (whole : Notes → O → Type 0) (turns : Turns) (has_ended : Bool) (tally : Tally) : Type 0 where
  pub notes : Notes
  pub is : turns ≡ noted_turns notes
  pub carried : IsCarriedOn whole has_ended notes
  pub counted : tally ≡ counts_of notes
