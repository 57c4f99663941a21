-- What the lanes hold after a list of turns, and what they answer: first in, first out.
use Rattle.std.specs.Prelude.{◌≡◌, ℕ, ◌<◌, List, [], ◌∷◌, length, drop, Option, Some, None}
use Rattle.std.specs.List.{filter_map}
use Rattle.nm_base.specs.Geometry.{Geometry, page_count}
use Rattle.nm_action.specs.declared.turn.Lane.{Lane}
use Rattle.nm_action.specs.declared.turn.Lane.TheVariants.{Candidates, Pending}
use Rattle.nm_action.specs.declared.turn.Turn.{Turn}
use Rattle.nm_action.specs.declared.turn.Turn.TheVariants.{Do, Put, Take}
use Rattle.nm_action.specs.declared.turn.Heard.{Heard}
use Rattle.nm_action.specs.declared.turn.Heard.TheVariants.{Answer, PutDone, PutFull, Took, TookNone}
use Rattle.nm_schedule.specs.declared.limits.TheConstants.{MOST_CANDIDATES}
use Rattle.nm_schedule.specs.declared.turn.Played.{Played}

-- how many pages a lane can hold: as many pending ones as there are backing pages
abbrev pub lane_capacity : Geometry → Lane → ℕ
lane_capacity g Candidates = MOST_CANDIDATES
lane_capacity g Pending = page_count g

-- a page of one lane, where that is the lane that is asked for
abbrev pub lane_page : Lane → Lane → ℕ → Option ℕ
lane_page Candidates Candidates page = Some page
lane_page Pending Pending page = Some page
lane_page _ _ page = None

-- the page that a turn put into a lane
abbrev pub put_by : Lane → Turn → Heard → Option ℕ
put_by lane (Put into page) PutDone = lane_page lane into page
put_by lane _ _ = None

-- the page that a turn took from a lane
abbrev pub took_by : Lane → Turn → Heard → Option ℕ
took_by lane (Take from) (Took page) = lane_page lane from page
took_by lane _ _ = None

-- the pages that were put into a lane, and those that were taken from it
abbrev pub puts_in : Lane → List Played → List ℕ
puts_in lane played = filter_map (λ p. put_by lane p.turn p.heard) played

abbrev pub takes_in : Lane → List Played → List ℕ
takes_in lane played = filter_map (λ p. took_by lane p.turn p.heard) played

-- what a lane holds: the pages that were put, without as many of the first as were taken
abbrev pub pages_in : Lane → List Played → List ℕ
pages_in lane played = drop (length (takes_in lane played)) (puts_in lane played)

-- a page is the first of a list
abbrev pub IsFirst : ℕ → List ℕ → Type 0
IsFirst page pages = (rest : List ℕ) × (pages ≡ page ∷ rest)

-- what a turn hears after a list of turns, as far as the lanes say it: a put is refused exactly where the lane has its
-- capacity, and a take gives the first page, and none exactly where the lane is empty; and each turn hears an answer of its
-- own kind
abbrev pub IsLaneAnswer : Geometry → List Played → Turn → Heard → Type 0
IsLaneAnswer g before (Do _) (Answer _) = Unit {0}
IsLaneAnswer g before (Put lane _) PutDone = length (pages_in lane before) < lane_capacity g lane
IsLaneAnswer g before (Put lane _) PutFull = length (pages_in lane before) ≡ lane_capacity g lane
IsLaneAnswer g before (Take lane) (Took page) = IsFirst page (pages_in lane before)
IsLaneAnswer g before (Take lane) TookNone = pages_in lane before ≡ []
IsLaneAnswer g before _ _ = ⊥
