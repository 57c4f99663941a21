-- Patterns over notes that leave no choice.
use Rattle.std.specs.Prelude.{◌≡◌, ◌≢◌}
use Rattle.nm_worker.specs.Notes.{Noted, Notes}
use Rattle.nm_choice.specs.Deterministic.{IsDeterministic}

-- the same turn heard two things; what is counted with it may differ
pub record AreNotesApart (here there : Noted) : Type 0 where
  pub same : here.turn ≡ there.turn
  pub differ : here.heard ≢ there.heard

-- a pattern of notes leaves no choice: what was heard decides the turns, and what is counted
abbrev pub IsDeterministicRoutine : {O : Type 0} → (Notes → O → Type 0) → Type 0
IsDeterministicRoutine pattern = IsDeterministic AreNotesApart pattern
