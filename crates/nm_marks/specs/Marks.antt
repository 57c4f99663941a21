-- The Marks in an own list.
use Rattle.std.specs.Prelude.{◌≡◌, ℕ, ◌⊎◌}
use Rattle.nm_action.specs.declared.action.Action.{Action}
use Rattle.nm_action.specs.declared.action.Action.TheVariants.{Mark}
use Rattle.nm_action.specs.declared.action.Reply.{Reply}
use Rattle.nm_action.specs.Own.{Own}
use Rattle.nm_permit.specs.Permitted.{IsMarkSet}
use Rattle.nm_marks.specs.Contents.{HasOnly}

-- if an action is a Mark, it is from one of these values to another
abbrev pub IsMarkOf : (ℕ → ℕ → Type 0) → Action → Type 0
IsMarkOf may (Mark page old new) = may old new
IsMarkOf may action = Unit {0}

-- each Mark of a list is
abbrev pub HasOnlyMarks : (ℕ → ℕ → Type 0) → Own → Type 0
HasOnlyMarks may own = HasOnly (IsMarkOf may) own

-- no Mark at all
abbrev pub IsNoMark : ℕ → ℕ → Type 0
IsNoMark old new = ⊥

-- none to candidate, and back: those of processors
abbrev pub IsCandidateMark : ℕ → ℕ → Type 0
IsCandidateMark old new = IsMarkSet 0 1 old new ⊎ IsMarkSet 1 0 old new

-- candidate to pending, and each of them back to none: those of the migrator
abbrev pub IsMigratorMark : ℕ → ℕ → Type 0
IsMigratorMark old new = IsMarkSet 1 2 old new ⊎ (IsMarkSet 1 0 old new ⊎ IsMarkSet 2 0 old new)

-- pending to none: those of transactions and locked moves
abbrev pub IsPendingMark : ℕ → ℕ → Type 0
IsPendingMark old new = IsMarkSet 2 0 old new

-- a page is taken from pending to none, whether it was pending or not
abbrev pub IsTakenBack : ℕ → Action → Reply → Type 0
IsTakenBack page action reply = action ≡ Mark page 2 0
