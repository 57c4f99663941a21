-- The slow accesses of turns, counted while they are made.
use Rattle.std.specs.Prelude.{◌≡◌, ℕ, ◌<◌, ◌^◌, List, length}
use Rattle.nm_base.specs.Geometry.{Geometry}
use Rattle.nm_action.specs.declared.turn.Turn.{Turn}
use Rattle.nm_action.specs.declared.turn.Turn.TheVariants.{Do}
use Rattle.nm_action.specs.declared.action.Reply.{Reply}
use Rattle.nm_action.specs.declared.action.Reply.TheVariants.{Word}
use Rattle.nm_action.specs.declared.turn.Heard.{Heard}
use Rattle.nm_action.specs.declared.turn.Heard.TheVariants.{Answer}
use Rattle.nm_core.specs.State.{State}
use Rattle.nm_core.specs.Runs.{access_of, state_after}
use Rattle.nm_schedule.specs.declared.turn.Played.{Played}
use Rattle.nm_schedule.specs.Played.{events_of}
use Rattle.nm_lab.specs.Slow.{slow_access, slow_accesses}

-- the count is the number of slow accesses of the turns, while there are fewer than 2^64 of them
abbrev pub IsCount : ℕ → Geometry → List Played → Type 0
IsCount count g played = length played < 2 ^ 64 → count ≡ slow_accesses g (events_of played)

-- 1 where a turn is a slow access, if it is answered by a word
abbrev pub slow_turn : State → ℕ → Turn → ℕ
slow_turn s actor (Do action) = slow_access s (access_of (record { actor = actor; action = action; reply = Word 0 }))
slow_turn s actor _ = 0

-- an action is an access only where it is answered by a word
abbrev pub when_word : Reply → ℕ → ℕ
when_word (Word _) n = n
when_word _ n = 0

-- what is added at a turn that was answered so
abbrev pub when_told : Heard → ℕ → ℕ
when_told (Answer reply) n = when_word reply n
when_told _ n = 0

-- the count is that of the turns before, and the next turn was seen
pub record IsSeen (count next : ℕ) (g : Geometry) (before : List Played) (actor : ℕ) (turn : Turn) : Type 0 where
  pub counted : IsCount count g before
  pub seen : next ≡ slow_turn (state_after g (events_of before)) actor turn
