-- Own lists of actors that together leave no mark.
use Rattle.std.specs.Prelude.{◌≡◌, ℕ, ◌+◌, ◌<◌, List, [], ◌∷◌, ◌++◌}
use Rattle.nm_base.specs.Geometry.{Geometry}
use Rattle.nm_base.specs.Ranges.{IsPage}
use Rattle.nm_action.specs.declared.action.AckTo.TheVariants.{End}
use Rattle.nm_action.specs.declared.action.Action.{Action}
use Rattle.nm_action.specs.declared.action.Action.TheVariants.{Ack, SeeAck, Mark}
use Rattle.nm_action.specs.declared.action.Event.{Event}
use Rattle.nm_action.specs.declared.action.Reply.{Reply}
use Rattle.nm_action.specs.declared.action.Reply.TheVariants.{Done, Word}
use Rattle.nm_action.specs.Own.{Own, own_of}
use Rattle.nm_view.specs.Views.{end_word}
use Rattle.nm_marks.specs.Contents.{HasEvent}
use Rattle.nm_marks.specs.Marks.{HasOnlyMarks, IsNoMark, IsCandidateMark, IsMigratorMark, IsTakenBack}

-- Processors.

-- nothing comes after the acknowledgement of the end
abbrev pub EndsLast : Own → Type 0
EndsLast own = (front rest : Own) (reply : Reply) → own ≡ front ++ (Ack End, reply) ∷ rest → rest ≡ []

pub record IsProcessorUnmarking (own : Own) : Type 0 where
  pub marks : HasOnlyMarks IsCandidateMark own
  pub last : EndsLast own

-- The migrator.

-- a processor was seen at its end
pub record IsEndSeen (cpu : ℕ) (action : Action) (reply : Reply) : Type 0 where
  pub action_is : action ≡ SeeAck cpu
  pub reply_is : reply ≡ Word end_word

-- the candidate mark of a page was taken back, if it had one, after every processor was seen at its end
pub record IsCandidateTakenBack (g : Geometry) (page : ℕ) (own : Own) : Type 0 where
  pub front : Own
  pub reply : Reply
  pub rest : Own
  pub is : own ≡ front ++ (Mark page 1 0, reply) ∷ rest
  pub seen : (cpu : ℕ) → cpu < g.cpus → HasEvent (IsEndSeen cpu) front

-- whenever the page was marked as pending, that mark was taken back later
abbrev pub AreTakenBack : ℕ → Own → Type 0
AreTakenBack page own = (front rest : Own) → own ≡ front ++ (Mark page 1 2, Done) ∷ rest → HasEvent (IsTakenBack page) rest

pub record IsMigratorUnmarking (g : Geometry) (own : Own) : Type 0 where
  pub marks : HasOnlyMarks IsMigratorMark own
  pub swept : (page : ℕ) → IsPage g page → IsCandidateTakenBack g page own
  pub back : (page : ℕ) → IsPage g page → AreTakenBack page own

-- All actors: the reclaimer makes no Mark.
pub record TakeMarksBack (g : Geometry) (events : List Event) : Type 0 where
  pub processors : (cpu : ℕ) → cpu < g.cpus → IsProcessorUnmarking (own_of cpu events)
  pub migrator : IsMigratorUnmarking g (own_of g.cpus events)
  pub reclaimer : HasOnlyMarks IsNoMark (own_of (g.cpus + 1) events)
