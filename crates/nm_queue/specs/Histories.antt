-- What was put into a queue and taken from it, in order.
use Rattle.std.specs.Prelude.{◌≡◌, ℕ, ◌==◌, List, length, map, take, drop, Option, Some, None}
use Rattle.std.specs.List.{filter, filter_map}
use Rattle.nm_actor.specs.Lanes.{LaneMove, put, took}

-- a page that a pass put or took, by the number of the pass
pub record PassMove : Type 0 where
  pub pass : ℕ
  pub move : LaneMove

-- the moves of all passes, in order
abbrev pub History : Type 0
History = List PassMove

-- the part of one pass in a history
abbrev pub moves_by : ℕ → History → List LaneMove
moves_by pass h = map (λ m. m.move) (filter (λ m. m.pass == pass) h)

abbrev pub page_put : LaneMove → Option ℕ
page_put (put page) = Some page
page_put (took page) = None

abbrev pub page_taken : LaneMove → Option ℕ
page_taken (put page) = None
page_taken (took page) = Some page

-- the pages that were put, in order
abbrev pub pages_put : History → List ℕ
pages_put h = filter_map (λ m. page_put m.move) h

-- the pages that were taken, in order
abbrev pub pages_taken : History → List ℕ
pages_taken h = filter_map (λ m. page_taken m.move) h

-- first in, first out: the pages that were taken are the first of those that were put
abbrev pub IsFirstOut : History → Type 0
IsFirstOut h = pages_taken h ≡ take (length (pages_taken h)) (pages_put h)

-- at each moment first in, first out: a page is taken once, after it was put, in the order in which all were put
abbrev pub IsFifo : History → Type 0
IsFifo h = (n : ℕ) → IsFirstOut (take n h)

-- the pages that were put and not taken
abbrev pub pages_left : History → List ℕ
pages_left h = drop (length (pages_taken h)) (pages_put h)
