-- What a chair tells of a lane, and what a put and a take change of it.
use Rattle.std.specs.Prelude.{◌≡◌, ℕ, ◌<◌, List, [], ◌∷◌, ◌++◌, length, Option, Some, None, IfSome, Result, Ok, Err}
use Rattle.std.specs.Option.{option_map}
use Rattle.nm_io.specs.Count.{next_count}
use Rattle.nm_action.specs.declared.turn.Full.{Full}

-- a page that an actor put into a lane, or took from it
pub data LaneMove : Type 0 where
  put : ℕ → LaneMove
  took : ℕ → LaneMove

-- the lane lists of an actor: the pages that it put and took in each lane, in order
pub record LaneLists : Type 0 where
  pub candidates : List LaneMove
  pub pending : List LaneMove

-- the pages that a lane holds, in the order in which they were put, and how many it can hold
pub record Held : Type 0 where
  pub capacity : ℕ
  pub pages : List ℕ

-- a lane, by one chair: the lane list, which has the chair's puts that were not Full and its takes that gave a page, in
-- order; how many puts found the lane full, and how many takes found it empty; and what the lane holds, once the chair
-- is the only one that is left
pub record LaneState : Type 0 where
  pub moves : List LaneMove
  pub fulls : ℕ
  pub empties : ℕ
  pub held : Option Held

abbrev pub held_with : ℕ → Held → Held
held_with page h = record h { pages = h.pages ++ page ∷ [] }

-- a page was put into the lane, which had room
pub record IsPagePut (page : ℕ) (old new : LaneState) : Type 0 where
  pub room : IfSome old.held (λ h. length h.pages < h.capacity)
  pub is : new ≡ record old { moves = old.moves ++ put page ∷ []; held = option_map (held_with page) old.held }

-- a put found the lane full: the count of these is one more, and nothing else has changed
pub record IsFull (old new : LaneState) : Type 0 where
  pub full : IfSome old.held (λ h. length h.pages ≡ h.capacity)
  pub is : new ≡ record old { fulls = next_count old.fulls }

-- what a put answers
abbrev pub IsPutAnswer : ℕ → LaneState → LaneState → Result Unit Full → Type 0
IsPutAnswer page old new (Ok _) = IsPagePut page old new
IsPutAnswer page old new (Err _) = IsFull old new

-- a lane holds the same pages but for one of this number
pub record IsWithout (page : ℕ) (old new : Held) : Type 0 where
  pub front : List ℕ
  pub back : List ℕ
  pub before : old.pages ≡ front ++ page ∷ back
  pub after : new.pages ≡ front ++ back
  pub capacity : new.capacity ≡ old.capacity

abbrev pub IsHeldWithout : ℕ → Option Held → Option Held → Type 0
IsHeldWithout page None None = Unit {0}
IsHeldWithout page None (Some _) = ⊥
IsHeldWithout page (Some _) None = ⊥
IsHeldWithout page (Some old) (Some new) = IsWithout page old new

-- a page was taken from the lane
pub record IsPageTaken (page : ℕ) (old new : LaneState) : Type 0 where
  pub held : IsHeldWithout page old.held new.held
  pub is : new ≡ record old { moves = old.moves ++ took page ∷ []; held = new.held }

-- a take found the lane empty: the count of these is one more, and nothing else has changed
pub record IsEmpty (old new : LaneState) : Type 0 where
  pub empty : IfSome old.held (λ h. h.pages ≡ [])
  pub is : new ≡ record old { empties = next_count old.empties }

-- what a take answers
abbrev pub IsTakeAnswer : LaneState → LaneState → Option ℕ → Type 0
IsTakeAnswer old new (Some page) = IsPageTaken page old new
IsTakeAnswer old new None = IsEmpty old new
