-- The clock hand, as contracts see it.
use Rattle.std.specs.Prelude.{ℕ, ◌+◌, ◌%◌}

-- a number of pages, and the page at which the hand stands
pub record Hand : Type 0 where
  pub pages : ℕ
  pub at : ℕ

-- a hand at page 0
abbrev pub first_page : ℕ → Hand
first_page pages = record { pages = pages; at = 0 }

-- the hand, on by one page, and from the last to page 0
abbrev pub next_page : Hand → Hand
next_page h = record { pages = h.pages; at = (h.at + 1) % h.pages }
