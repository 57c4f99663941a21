-- What an actor's answered turns show of the lane Pending, where this actor alone puts pages into it and takes them from it: the lane
-- is first in, first out.
use Rattle.std.specs.Prelude.{◌≡◌, ◌≢◌, ℕ, List, [], ◌∷◌, ◌++◌}
use Rattle.nm_action.specs.declared.turn.Lane.TheVariants.{Candidates, Pending}
use Rattle.nm_action.specs.declared.turn.Turn.{Turn}
use Rattle.nm_action.specs.declared.turn.Turn.TheVariants.{Do, Put, Take, End}
use Rattle.nm_action.specs.declared.turn.Heard.{Heard}
use Rattle.nm_action.specs.declared.turn.Heard.TheVariants.{PutDone, Took, TookNone}
use Rattle.nm_actor.specs.Turns.{Turns}
use Rattle.nm_base.specs.Geometry.{Geometry}
use Rattle.nm_view.specs.Opening.{IsActor}
use Rattle.nm_schedule.specs.declared.turn.Played.{Played}
use Rattle.nm_schedule.specs.Played.{turns_by}

-- a turn is answered so where the lane holds these pages, and leaves those
abbrev pub IsPendingStep : List ℕ → Turn → Heard → List ℕ → Type 0
IsPendingStep pages (Do action) heard later = later ≡ pages
IsPendingStep pages (Put Candidates page) heard later = later ≡ pages
IsPendingStep pages (Put Pending page) PutDone later = later ≡ pages ++ page ∷ []
IsPendingStep pages (Put Pending page) heard later = later ≡ pages
IsPendingStep pages (Take Candidates) heard later = later ≡ pages
IsPendingStep pages (Take Pending) (Took page) later = pages ≡ page ∷ later
IsPendingStep pages (Take Pending) TookNone later = (pages ≡ []) × (later ≡ [])
IsPendingStep pages (Take Pending) heard later = later ≡ pages
IsPendingStep pages End heard later = later ≡ pages

-- answered turns, before which the lane holds these pages
abbrev pub FitsPending : List ℕ → Turns → Type 0
FitsPending pages [] = Unit {0}
FitsPending pages (t ∷ turns) = (later : List ℕ) × (IsPendingStep pages t.0 t.1 later × FitsPending later turns)

-- a turn neither puts a page into the lane nor takes one from it
abbrev pub IsOffPending : Turn → Type 0
IsOffPending (Do action) = Unit {0}
IsOffPending (Put Candidates page) = Unit {0}
IsOffPending (Put Pending page) = ⊥
IsOffPending (Take Candidates) = Unit {0}
IsOffPending (Take Pending) = ⊥
IsOffPending End = Unit {0}

abbrev pub AreOffPending : Turns → Type 0
AreOffPending [] = Unit {0}
AreOffPending (t ∷ turns) = IsOffPending t.0 × AreOffPending turns

-- this actor alone puts pages into the lane and takes them from it
abbrev pub HasPendingAlone : Geometry → ℕ → List Played → Type 0
HasPendingAlone g actor played = (other : ℕ) → IsActor g other → other ≢ actor → AreOffPending (turns_by other played)
