-- The rule that the queue keeps: of the pages that it holds, and of what each pass knows.
use Rattle.std.specs.Prelude.{◌≡◌, ◌≢◌, ℕ, ◌==◌, ◌<◌, ◌≤◌, true, false, List, [], ◌++◌, length, count_by, Some}
use Rattle.std.specs.List.{All}
use mathlib.Core.Option.{some}
use lib.ListN.{get_elem?}
use Rattle.nm_queue.specs.Histories.{History, moves_by, IsFifo, pages_left}
use Rattle.nm_queue.specs.Passes.{Known, JoinedPass, pass_numbers, IsWholeHistory, IsMoment, pages_at, first_pass}

-- a list goes on from another
pub record GoesOn (seen history : History) : Type 0 where
  pub rest : History
  pub is : history ≡ seen ++ rest

-- a pass that was joined into pass `keeper`, where the queue has `passes` many: its moves in the history are those that are told
pub record IsJoinedTo (passes : ℕ) (history : History) (keeper : ℕ → ℕ) (pass : ℕ) (j : JoinedPass) : Type 0 where
  pub kept : keeper j.number ≡ pass
  pub other : j.number ≢ pass
  pub below : j.number < passes
  pub moves : moves_by j.number history ≡ j.moves

-- no number stands in the list twice
abbrev pub HasNoTwice : List ℕ → Type 0
HasNoTwice numbers = (number : ℕ) → count_by (λ n. n == number) numbers ≤ 1

-- what a pass in use knows is so; it makes passes where it keeps the first one
pub record KnowsMoves (passes : ℕ) (history : History) (keeper : ℕ → ℕ) (pass : ℕ) (k : Known) : Type 0 where
  pub number : k.number ≡ pass
  pub kept : keeper pass ≡ pass
  pub own : moves_by pass history ≡ k.moves
  pub joined : All (IsJoinedTo passes history keeper pass) k.joined
  pub numbers : HasNoTwice (pass_numbers k)
  pub made : (n : ℕ) → k.made ≡ Some n → (n ≡ passes) × (keeper 0 ≡ pass)
  pub seen : GoesOn k.seen history

-- a pass in use has seen this
pub record HasSeen (views : List Known) (history : History) : Type 0 where
  pub pass : ℕ
  pub known : Known
  pub at : get_elem? views pass ≡ some known
  pub live : known.live ≡ true
  pub seen : known.seen ≡ history

-- there is one history: it leaves the pages that the queue holds; it has the moves that each pass in use knows, and no others;
-- and one pass in use has seen all of it
pub record Relates (pages : List ℕ) (views : List Known) : Type 0 where
  pub history : History
  pub keeper : ℕ → ℕ
  pub fifo : IsFifo history
  pub left : pages_left history ≡ pages
  pub known : (pass : ℕ) (k : Known) → get_elem? views pass ≡ some k → k.live ≡ true → KnowsMoves (length views) history keeper pass k
  pub unmade : (pass : ℕ) → length views ≤ pass → moves_by pass history ≡ []
  pub latest : HasSeen views history

-- where a pass is alone, what it has seen is the whole history, and leaves the pages that the queue holds
pub record IsWholeAt (k : Known) (pages : List ℕ) : Type 0 where
  pub whole : IsWholeHistory k
  pub left : pages_left k.seen ≡ pages

-- at a moment the queue held these pages
pub record SawPages (k : Known) (pages : List ℕ) : Type 0 where
  pub between : History
  pub moment : IsMoment k between
  pub left : pages_at k between ≡ pages

-- a pass that was joined into another, and is no more in use
abbrev pub spent_pass : Known
spent_pass = record first_pass { live = false }
