-- When an action is refused.
use Rattle.std.specs.Prelude.{◌≡◌, ◌≢◌, ℕ, Option, Some, None, IsSomeAnd}
use Rattle.nm_action.specs.declared.action.Action.{Action}
use Rattle.nm_action.specs.declared.action.Action.TheVariants.{Walk, Lock, TakeTurn, Mark}
use Rattle.nm_action.specs.declared.action.Reply.{Reply}
use Rattle.nm_action.specs.declared.action.Reply.TheVariants.{Done, Word, Busy, Lost}
use Rattle.nm_core.specs.State.{State, word_found}

-- an action that takes a lock or a turn
abbrev pub IsTaking : Action → Type 0
IsTaking (Lock _) = Unit {0}
IsTaking (TakeTurn _) = Unit {0}
IsTaking _ = ⊥

-- the table word or the mark that an action expects
abbrev pub expected_of : Action → Option ℕ
expected_of (Walk _ expected _) = Some expected
expected_of (Mark _ expected _) = Some expected
expected_of _ = None

-- the lock or turn word that an action would take is this one, and not 0
pub record IsBusyWith (s : State) (actor : ℕ) (action : Action) (word : ℕ) : Type 0 where
  pub taking : IsTaking action
  pub found : word_found s actor action ≡ word
  pub held : word ≢ 0

-- the table word or mark of an action is this one, and not the expected one
pub record IsLostTo (s : State) (actor : ℕ) (action : Action) (word : ℕ) : Type 0 where
  pub found : word_found s actor action ≡ word
  pub other : IsSomeAnd (expected_of action) (λ expected. word ≢ expected)

-- a reply that refuses
abbrev pub Refuses : Reply → Type 0
Refuses Done = ⊥
Refuses (Word _) = ⊥
Refuses (Busy _) = Unit {0}
Refuses (Lost _) = Unit {0}
