-- Answered turns with what they count, and the patterns of the tasks that an actor does one after the other.
use Rattle.std.specs.Prelude.{◌≡◌, ℕ, Bool, true, false, List, [], ◌∷◌, Option, Some, None}
use Rattle.nm_base.specs.Geometry.{Geometry}
use Rattle.nm_action.specs.declared.tally.Tally.{Tally}
use Rattle.nm_action.specs.declared.turn.Lane.{Lane}
use Rattle.nm_action.specs.declared.turn.Turn.{Turn}
use Rattle.nm_action.specs.declared.turn.Turn.TheVariants as turn
use Rattle.nm_action.specs.declared.turn.Heard.{Heard}
use Rattle.nm_action.specs.declared.turn.Heard.TheVariants.{Answer, PutDone, PutFull, Took, TookNone}
use Rattle.nm_action.specs.Own.{Own}
use Rattle.nm_action.specs.Tally.{sum_of}
use Rattle.nm_tally.specs.Counts.{zero_tally}
use Rattle.nm_actor.specs.Turns.{Turns}
use Rattle.nm_worker.specs.declared.routine.Task.{Task}
use Rattle.nm_worker.specs.declared.routine.Task.TheVariants.{Run, Put, Take}
use Rattle.nm_worker.specs.declared.routine.Ended.{Ended}
use Rattle.nm_worker.specs.declared.routine.Ended.TheVariants as ended

-- an answered turn, and what is counted with its answer where that ended a piece of work
pub record Noted : Type 0 where
  pub turn : Turn
  pub heard : Heard
  pub counts : Option Tally

abbrev pub Notes : Type 0
Notes = List Noted

-- the turns alone
abbrev pub noted_turns : Notes → Turns
noted_turns [] = []
noted_turns (n ∷ notes) = (n.turn, n.heard) ∷ noted_turns notes

-- the counts so far with those of some notes, each count at most 2^64 - 1
abbrev pub tally_with : Tally → Option Tally → Tally
tally_with tally None = tally
tally_with tally (Some counts) = sum_of tally counts

abbrev pub notes_tally_from : Tally → Notes → Tally
notes_tally_from tally [] = tally
notes_tally_from tally (n ∷ notes) = notes_tally_from (tally_with tally n.counts) notes

-- what is counted at the ends of the pieces of work
abbrev pub notes_tally : Notes → Tally
notes_tally = notes_tally_from zero_tally

-- Patterns.

-- actions with their replies, at which nothing ends
abbrev pub uncounted : Own → Notes
uncounted [] = []
uncounted (e ∷ own) = record { turn = turn.Do e.0; heard = Answer e.1; counts = None } ∷ uncounted own

-- actions with their replies, of which the last is the end of a piece of work, which counts this
abbrev pub counts_last : Tally → Own → Option Tally
counts_last counts [] = Some counts
counts_last counts (e ∷ own) = None

abbrev pub worked : Tally → Own → Notes
worked counts [] = []
worked counts (e ∷ own) = record { turn = turn.Do e.0; heard = Answer e.1; counts = counts_last counts own } ∷ worked counts own

-- a piece of work was done: its list is finished and shows this end, and what the end counts is counted with the last answer
pub record IsWorkDone {M X : Type 0} (shape : M → Geometry → Own → X → Type 0) (counts : X → Tally) (work : M) (g : Geometry) (notes : Notes) (end : X) : Type 0 where
  pub own : Own
  pub shown : shape work g own end
  pub is : notes ≡ worked (counts end) own

-- what is heard of a put: the lane was full, or the page was put
abbrev pub put_heard : Bool → Heard
put_heard true = PutFull
put_heard false = PutDone

-- a page is put into a lane, or finds it full
pub record IsPut (lane : Lane) (page : ℕ) (notes : Notes) (full : Bool) : Type 0 where
  pub is : notes ≡ record { turn = turn.Put lane page; heard = put_heard full; counts = None } ∷ []

-- what is heard of a take: a page, or that the lane is empty
abbrev pub take_heard : Option ℕ → Heard
take_heard None = TookNone
take_heard (Some page) = Took page

-- a page is taken from a lane, or the lane is found empty
pub record IsTake (lane : Lane) (notes : Notes) (page : Option ℕ) : Type 0 where
  pub is : notes ≡ record { turn = turn.Take lane; heard = take_heard page; counts = None } ∷ []

-- a task was done, and ended so
abbrev pub IsTask : {M X : Type 0} → (M → Geometry → Own → X → Type 0) → (X → Tally) → Geometry → Task M → Notes → Ended X → Type 0
IsTask shape counts g (Run work) notes (ended.Run end) = IsWorkDone shape counts work g notes end
IsTask shape counts g (Put lane page) notes (ended.Put full) = IsPut lane page notes full
IsTask shape counts g (Take lane) notes (ended.Take page) = IsTake lane notes page
IsTask shape counts g task notes end = ⊥
