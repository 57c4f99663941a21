-- A shootdown, as a finished list of actions and replies.
use Rattle.std.specs.Prelude.{◌≡◌, ℕ, ◌+◌, ◌<◌, ◌≤◌, List, [], ◌∷◌, ◌++◌, length, All}
use Rattle.nm_action.specs.declared.action.Action.TheVariants.{Bump, SeeAck}
use Rattle.nm_action.specs.declared.action.Reply.TheVariants.{Word}
use Rattle.nm_action.specs.Own.{Own}

-- the acknowledgement of processor p was read once for each of these words
abbrev pub asked : ℕ → List ℕ → Own
asked p [] = []
asked p (w ∷ ws) = (SeeAck p, Word w) ∷ asked p ws

-- the acknowledgements of the processors from p on, in order, each with its own words
abbrev pub asked_from : ℕ → List (List ℕ) → Own
asked_from p [] = []
asked_from p (ws ∷ wss) = asked p ws ++ asked_from (p + 1) wss

-- the words of one processor: each is below the number but the last
pub record IsAnswered (number : ℕ) (words : List ℕ) : Type 0 where
  pub early : List ℕ
  pub last : ℕ
  pub is : words ≡ early ++ last ∷ []
  pub below : All (λ w. w < number) early
  pub enough : number ≤ last

-- a bump, which draws a number, and then each processor's acknowledgement, in order, again until it is at least that
-- number
pub record IsShootdown (cpus : ℕ) (own : Own) (number : ℕ) : Type 0 where
  pub old : ℕ
  pub words : List (List ℕ)
  pub drawn : number ≡ old + 1
  pub each : length words ≡ cpus
  pub answered : All (IsAnswered number) words
  pub is : own ≡ (Bump, Word old) ∷ asked_from 0 words
