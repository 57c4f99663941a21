-- What a queue and its passes tell, and what each call changes.
use Rattle.std.specs.Prelude.{◌≡◌, ℕ, suc, ◌==◌, ◌<◌, if◌then◌else◌, nat_lt, Bool, true, List, [], ◌∷◌, ◌++◌, length, map, slice_get, count_by, Option, Some, None, Result, Ok, Err}
use Rattle.std.specs.List.{All}
use Rattle.std.specs.Option.{option_map}
use Rattle.atomic_table.specs.Seated.{TableId}
use Rattle.nm_io.specs.Count.{next_count}
use Rattle.nm_action.specs.declared.turn.Full.{Full}
use Rattle.nm_actor.specs.Lanes.{LaneMove, put, took}
use Rattle.nm_queue.specs.Histories.{History, moves_by, IsFifo, pages_left}

-- which queue it is
pub record QueueName : Type 0 where
  pub table : TableId

-- a queue: its name, and how many pages it can hold
pub record QueueState : Type 0 where
  pub name : QueueName
  pub capacity : ℕ

-- a pass that was joined into another: its number, and what it put and took
pub record JoinedPass : Type 0 where
  pub number : ℕ
  pub moves : List LaneMove

-- what a pass knows: whether it is still in use; its number among the passes of its queue; the pages that it put and took, in
-- order; the passes that were joined into it; how many passes the queue has, where this is the pass that makes them; and the
-- history of the queue, as far as it was seen
pub record Known : Type 0 where
  pub live : Bool
  pub number : ℕ
  pub moves : List LaneMove
  pub joined : List JoinedPass
  pub made : Option ℕ
  pub seen : History

-- a pass: its queue, what it knows, and how many of its pushes found the queue full and of its pops found it empty
pub record PassState : Type 0 where
  pub queue : QueueName
  pub known : Known
  pub fulls : ℕ
  pub empties : ℕ

-- the numbers of the pass and of those that were joined into it
abbrev pub pass_numbers : Known → List ℕ
pass_numbers k = k.number ∷ map (λ j. j.number) k.joined

-- what the pass and those that were joined into it put and took, a list for each
abbrev pub pass_lists : Known → List (List LaneMove)
pass_lists k = k.moves ∷ map (λ j. j.moves) k.joined

-- every other pass was joined into this one
abbrev pub IsAlone : Known → Type 0
IsAlone k = k.made ≡ Some (suc (length k.joined))

-- a new pass with this number, which has done nothing yet, and has seen what the pass that made it has seen
abbrev pub new_pass : ℕ → Option ℕ → History → Known
new_pass number made seen = record { live = true; number = number; moves = []; joined = []; made = made; seen = seen }

-- the first pass of a new queue
abbrev pub first_pass : Known
first_pass = new_pass 0 (Some 1) []

-- how many passes the queue has, by the pass that makes them
abbrev pub made_count : Option ℕ → ℕ
made_count (Some n) = n
made_count None = 0

-- the pass that makes passes, after it made one
abbrev pub after_making : Known → Known
after_making k = record k { made = option_map suc k.made }

-- the pass that was made
abbrev pub made_pass : Known → Known
made_pass k = new_pass (made_count k.made) None k.seen

-- the history of the queue at a moment: it goes on from what the pass has seen, and has no more moves of the pass than those
-- that the pass knows; where every other pass was joined into this one, it has no more moves at all
pub record IsMoment (k : Known) (between : History) : Type 0 where
  pub fifo : IsFifo (k.seen ++ between)
  pub own : moves_by k.number (k.seen ++ between) ≡ k.moves
  pub alone : IsAlone k → between ≡ []

-- the pages that the queue holds then
abbrev pub pages_at : Known → History → List ℕ
pages_at k between = pages_left (k.seen ++ between)

-- the pass after a move of its own, at such a moment
abbrev pub with_move : LaneMove → History → Known → Known
with_move move between k = record k {
  moves = k.moves ++ move ∷ [];
  seen = (k.seen ++ between) ++ record { pass = k.number; move = move } ∷ [];
}

-- a page was put, at a moment at which the queue had room
pub record PutThen (capacity page : ℕ) (old new : Known) : Type 0 where
  pub between : History
  pub moment : IsMoment old between
  pub room : length (pages_at old between) < capacity
  pub is : new ≡ with_move (put page) between old

-- a page was taken, the first that the queue held
pub record TookThen (page : ℕ) (old new : Known) : Type 0 where
  pub between : History
  pub moment : IsMoment old between
  pub first : slice_get (pages_at old between) 0 ≡ Some page
  pub is : new ≡ with_move (took page) between old

-- after some history that goes on so the queue holds so many pages; where the pass is alone that is the history itself
pub record HeldThen (n : ℕ) (k : Known) : Type 0 where
  pub between : History
  pub moment : IsMoment k between
  pub pages : length (pages_at k between) ≡ n

-- a put went into the queue
pub record IsPushed (capacity page : ℕ) (old new : PassState) : Type 0 where
  pub known : PutThen capacity page old.known new.known
  pub is : new ≡ record old { known = new.known }

-- a push was refused: after some history the queue is full, the count of these is one more, and nothing else has changed
pub record IsPushRefused (capacity : ℕ) (old new : PassState) : Type 0 where
  pub full : HeldThen capacity old.known
  pub is : new ≡ record old { fulls = next_count old.fulls }

-- what a push answers
abbrev pub IsPushAnswer : ℕ → ℕ → PassState → PassState → Result Unit Full → Type 0
IsPushAnswer capacity page old new (Ok _) = IsPushed capacity page old new
IsPushAnswer capacity page old new (Err _) = IsPushRefused capacity old new

-- a page was taken out of the queue
pub record IsPopped (page : ℕ) (old new : PassState) : Type 0 where
  pub known : TookThen page old.known new.known
  pub is : new ≡ record old { known = new.known }

-- a pop was refused: after some history the queue is empty, the count of these is one more, and nothing else has changed
pub record IsPopRefused (old new : PassState) : Type 0 where
  pub empty : HeldThen 0 old.known
  pub is : new ≡ record old { empties = next_count old.empties }

-- what a pop answers
abbrev pub IsPopAnswer : PassState → PassState → Option ℕ → Type 0
IsPopAnswer old new (Some page) = IsPopped page old new
IsPopAnswer old new None = IsPopRefused old new

-- the longer of two histories
abbrev pub longer_history : History → History → History
longer_history xs ys = if nat_lt (length xs) (length ys) then ys else xs

-- the first number that there is
abbrev pub either_number : Option ℕ → Option ℕ → Option ℕ
either_number (Some n) other = Some n
either_number None other = other

-- a pass after another was joined into it: it keeps its own lists, and has beside them those of the other, and of the passes
-- that were joined into the other
abbrev pub with_joined : Known → Known → Known
with_joined other k = record k {
  joined = k.joined ++ record { number = other.number; moves = other.moves } ∷ other.joined;
  made = either_number k.made other.made;
  seen = longer_history k.seen other.seen;
}

-- what was seen is the whole history: it has the moves of the pass and of those that were joined into it, each list in its
-- order, and each move stands in one of these lists
pub record IsWholeHistory (k : Known) : Type 0 where
  pub fifo : IsFifo k.seen
  pub own : moves_by k.number k.seen ≡ k.moves
  pub joined : All (λ j. moves_by j.number k.seen ≡ j.moves) k.joined
  pub each : All (λ m. count_by (λ n. n == m.pass) (pass_numbers k) ≡ 1) k.seen
